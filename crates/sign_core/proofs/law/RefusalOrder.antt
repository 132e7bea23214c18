-- Each event answers the refusal of the first cause that applies.
use Rattle.std.proofs.Common.{drop, ◌≡◌, ◌≢◌, ◌∙◌, refl, sym, ap, subst, ℕ, zero, suc, ◌+◌, ◌-◌, ◌<◌, ◌≤◌, ◌⊎◌, Bool, true, false, inl, inr, List, [], ◌∷◌, ◌++◌}
use Rattle.std.proofs.Common.{length, Option, Some, None, Result, Err, IsOk, arith, true≢false, lt-ltb, ltb-true, ltb-false, leb-true}
use Rattle.std.proofs.lemmas.Bool.{leb-false, le-leb}
use Rattle.std.specs.Cmp.Lexicographic.{bytes_decides}
use Rattle.std.specs.Prelude.{if◌then◌else◌, is_ok, nat_le, nat_lt, not, slice_index_or, ◌||◌}
use Rattle.std.specs.List.{AllByRecursion, concat}
use Rattle.std.proofs.lemmas.Option.{same_Some}
use Rattle.typecodes.specs.declared.spec.Spec.{Spec}
use Rattle.typecodes.specs.declared.spec.Spec.TheVariants.{Lms as LmsSpec, Hss as HssSpec, Xmss as XmssSpec}
use Rattle.typecodes.specs.Spec.{IsSpec}
use Rattle.state_file.specs.Laws.{bottom_of, identifier_of}
use Rattle.state_file.specs.declared.record.Bound.{Bound}
use Rattle.state_file.specs.declared.record.Key.{Key}
use Rattle.state_file.specs.declared.record.Record.{Record}
use Rattle.state_file.specs.declared.record.Record.TheVariants.{Bound as BoundRecord, Key as KeyRecord, Retire}
use Rattle.state_file.specs.declared.record.Secret.{Secret}
use Rattle.state_file.specs.declared.record.Secret.TheVariants.{Lms, Hss, Xmss}
use Rattle.sign_core.specs.declared.key.AnyPublic.{AnyPublic}
use Rattle.sign_core.specs.declared.fault.SignFault.{SignFault}
use Rattle.sign_core.specs.declared.fault.SignFault.TheVariants.{Changed, Damaged, Exhausted, Illegal, KeyThere, LedgerFull, MessageRead, Moved, NoKey, LongName}
use Rattle.sign_core.specs.declared.fault.SignFault.TheVariants.{OutOfMemory, RandomFailed, RandomRepeated, RetireRange, Stopped, StoreFailed}
use Rattle.sign_core.specs.Records.{are_same, binding_at, deepest, first_illegal, has_identifier, has_moved, the_key, leaves_of_current, next_at, is_long}
use Rattle.sign_core.specs.Records.{wanted_count}
use Rattle.sign_core.specs.Textbook.{AllHaveSizes, Trees, damaged_at, digest_at, lms_secret, any_public_of, textbook_signature, current_at, trees_of}
use Rattle.sign_core.specs.Events.{AreDrawsOf, AreFields, key_sizes, randomizer_sizes, tree_sizes}
use Rattle.sign_core.specs.World.{Chance, Creation, Draw, Fate, Opening, Outcome, State, acked, answered, appended, drawing}
use Rattle.sign_core.proofs.steps.Cases.{begun, bound_level, bound_sound, bound_message}
use Rattle.sign_core.specs.World.{cut_new, cut_old, extend_record, first_draw}
use Rattle.sign_core.specs.inner.Cases.{extended, bound_trees}
use Rattle.sign_core.proofs.steps.Cases.{created_load, extended_identifier, extended_seed}
use Rattle.sign_core.specs.World.{no_memory, open_state, randomizer_of_fields, refused}
use Rattle.sign_core.proofs.steps.Cases.{opened_illegal, opened_key, published, repeated, repeated_sound}
use Rattle.sign_core.specs.World.{requested, retired, secret_of_fields, new_key}
use Rattle.sign_core.specs.inner.Cases.{requested_binding}
use Rattle.sign_core.proofs.steps.Cases.{requested_key, retired_key}
use Rattle.sign_core.specs.RefusalOrder.{AfterAppend, FirstFieldIs, IsIllegalFirst, IsUnsound, Of, RefusalLaw, RefuseAlike, RefusesAt}
use Rattle.sign_core.specs.RefusalOrder.{RefusesCreate, RefusesName, RefusesNew, RefusesOpening, RefusesRecord, RefusesRepeat, RefusesRequest}
use Rattle.sign_core.specs.RefusalOrder.{RefusesRetire, RefusesTree, RefusesWanted, Unless, WhereOpen}
use Rattle.sign_core.proofs.records.Bindings.{identifier_appended, identifier_stands, is_of, stands_identifier}
use Rattle.sign_core.proofs.records.FirstIllegal.{legal_from_none}
use Rattle.sign_core.proofs.records.FreeLeaves.{deepest_is, none_free}
use Rattle.sign_core.proofs.law.KeptByRequests.{first_drawn, later_drawn}
use Rattle.sign_core.proofs.records.Sizes.{key_has_sizes, public_made, secret_sizes}
use Rattle.sign_core.proofs.records.Lists.{slice_get_new}
use Rattle.sign_core.proofs.records.Unchanged.{old_or_new}
use Rattle.state_file.specs.Slot.{name_most}
use Rattle.sign_core.proofs.records.Parts.{IsTreeDraw, new_bound}

some_not_none : {A : Type 0} (x : A) → Some x ≡ None → ⊥
some_not_none x is = absurd (cc)

-- ---- a cause that applies, and one that doesn't

refuses : {A : Type 0} {HasCause : SignFault → Type 0} {Rest : Result A SignFault → Type 0} {answer : Result A SignFault} (fault : SignFault)
    → HasCause fault → answer ≡ Err fault → Unless HasCause Rest answer
refuses fault cause is = record { decided = inl (fault, cause, is) }

goes_on : {A : Type 0} {HasCause : SignFault → Type 0} {Rest : Result A SignFault → Type 0} {answer : Result A SignFault}
    → ((fault : SignFault) → HasCause fault → ⊥) → Rest answer → Unless HasCause Rest answer
goes_on absent rest = record { decided = inr (absent, rest) }

is_there : {A : Type 0} (named : SignFault) {Cause : Type 0} {Rest : Result A SignFault → Type 0} {answer : Result A SignFault}
    → Cause → answer ≡ Err named → Unless (Of named Cause) Rest answer
is_there named there is = refuses named (refl, there) is

is_absent : {A : Type 0} (named : SignFault) {Cause : Type 0} {Rest : Result A SignFault → Type 0} {answer : Result A SignFault}
    → (Cause → ⊥) → Rest answer → Unless (Of named Cause) Rest answer
is_absent named absent rest = goes_on (λ fault cause. absent cause.1) rest

-- a test that decides its cause
by_test : {A : Type 0} (named : SignFault) {Cause : Type 0} {Rest : Result A SignFault → Type 0} (test : Bool) (state : State) (rest : Outcome A)
    → (test ≡ true → Cause) → (Cause → test ≡ true) → (test ≡ false → Rest rest.answer)
    → Unless (Of named Cause) Rest (if test then refused state named else rest).answer
by_test named true state rest there back more = is_there named (there refl) refl
by_test named false state rest there back more = is_absent named (λ cause. absurd (true≢false (sym (back cause)))) (more refl)

by_not : {A : Type 0} (named : SignFault) {Rest : Result A SignFault → Type 0} (test : Bool) (state : State) (rest : Outcome A)
    → (test ≡ true → Rest rest.answer) → Unless (Of named (test ≡ false)) Rest (if not test then refused state named else rest).answer
by_not named true state rest more = is_absent named (λ is. absurd (true≢false is)) (more refl)
by_not named false state rest more = is_there named refl refl

-- an append
acked_uncut : (acked ≡ cut_old) ⊎ (acked ≡ cut_new) → ⊥
acked_uncut (inl is) = absurd (cc)
acked_uncut (inr is) = absurd (cc)

acked_granted : acked ≡ no_memory → ⊥
acked_granted is = absurd (cc)

refused_uncut : (no_memory ≡ cut_old) ⊎ (no_memory ≡ cut_new) → ⊥
refused_uncut (inl is) = absurd (cc)
refused_uncut (inr is) = absurd (cc)

by_append : {A : Type 0} {Rest : Result A SignFault → Type 0} (state : State) (entry : Record) (fate : Fate) (next : List Record → Outcome A)
    → Rest (next (state.records ++ entry ∷ [])).answer → AfterAppend fate Rest (appended state entry fate next).answer
by_append state entry acked next more = is_absent StoreFailed acked_uncut (is_absent OutOfMemory acked_granted more)
by_append state entry cut_old next more = is_there StoreFailed (inl refl) refl
by_append state entry cut_new next more = is_there StoreFailed (inr refl) refl
by_append state entry no_memory next more = is_absent StoreFailed refused_uncut (is_there OutOfMemory refl refl)

by_open : {A : Type 0} {Rest : Result A SignFault → Type 0} (state : State) (rest : Outcome A) → Rest rest.answer
    → WhereOpen state Rest (if not state.is_open then refused state Stopped else (if has_moved state.records then refused state Moved else rest)).answer
by_open state rest more =
    by_not Stopped state.is_open state (if has_moved state.records then refused state Moved else rest)
    (λ open_now. by_test Moved (has_moved state.records) state rest (λ is. is) (λ is. is) (λ stays. more))

by_damage : {Rest : Result (List ℕ) SignFault → Type 0} (damaged : Option ℕ) (outcome : Option ℕ → Outcome (List ℕ))
    → ((slot : ℕ) → (outcome (Some slot)).answer ≡ Err (Damaged slot)) → Rest (outcome None).answer
    → Unless (IsUnsound damaged) Rest (outcome damaged).answer
by_damage (Some slot) outcome names more = refuses (Damaged slot) (slot, refl, refl) (names slot)
by_damage None outcome names more = goes_on (λ fault cause. some_not_none cause.0 (sym cause.1)) more

-- ---- a name that is bound

differs : (a b : List ℕ) → not (are_same a b) ≡ true → a ≢ b
differs a b is same = absurd (true≢false (sym is ∙ ap not ((bytes_decides a b).1 same)))

differing : (a b : List ℕ) → a ≢ b → (c : Bool) → are_same a b ≡ c → not (are_same a b) ≡ true
differing a b apart true is = absurd (apart ((bytes_decides a b).0 is))
differing a b apart false is = ap not is

by_repeat : (state : State) (key : Key) (k : ℕ) (bound : Bound) (chance : Chance) (given : Option (List ℕ)) → chance.given ≡ given
    → RefusesRepeat state key k bound chance (repeated state key k bound chance given).answer
by_repeat state key k bound chance None is = is_there MessageRead is refl
by_repeat state key k bound chance (Some message) is =
    let bottom = bottom_of key.secret in
    let made = digest_at key state.records k bound.leaf bound.randomizer message in
    let damaged = damaged_at key bottom state.records (current_at bottom state.records k) in
    let sound = repeated_sound state key k bound damaged in
    is_absent MessageRead (λ none. some_not_none message (sym is ∙ none))
    (by_test Changed (not (are_same made bound.digest)) state (if not chance.has_room then refused state OutOfMemory else sound)
    (λ other. (message, is, differs made bound.digest other))
    (λ changed.
    let (text, reported, apart) = changed in
    let same : text ≡ message = same_Some text message (sym reported ∙ is) in
    differing made bound.digest (subst (λ t. digest_at key state.records k bound.leaf bound.randomizer t ≢ bound.digest) same apart)
    (are_same made bound.digest) refl)
    (λ unchanged. by_not OutOfMemory chance.has_room state sound
    (λ room. by_damage damaged (repeated_sound state key k bound) (λ slot. refl) refl)))

-- ---- the new records

-- the known I are the records'
record Knows (records : List Record) (IsKnown : List ℕ → Type 0) : Type 0 where
  forth : (identifier : List ℕ) → has_identifier records identifier ≡ true → IsKnown identifier
  back : (identifier : List ℕ) → IsKnown identifier → has_identifier records identifier ≡ true

-- and one more record's
knows_more : (records : List Record) (IsKnown : List ℕ → Type 0) (fields : List (List ℕ)) (identifier : List ℕ) (entry : Record)
    → FirstFieldIs fields identifier → identifier_of entry ≡ Some identifier → Knows records IsKnown
    → Knows (records ++ entry ∷ []) (λ i. IsKnown i ⊎ FirstFieldIs fields i)
knows_more records IsKnown fields identifier entry first own knows = record { forth = forth; back = back }
  where
    forth : (i : List ℕ) → has_identifier (records ++ entry ∷ []) i ≡ true → IsKnown i ⊎ FirstFieldIs fields i
    forth i is =
        let (k, other, at, its) = identifier_stands (records ++ entry ∷ []) i is in
        elim (old_or_new records entry k other at) [
          | inl old ↦ inl (knows.forth i (stands_identifier records i k other old its))
          | inr same ↦
              let is_own : identifier ≡ i = same_Some identifier i (sym own ∙ ap identifier_of same ∙ its) in
              inr (first.0, first.1 ∙ ap (λ n. n ∷ first.0) is_own)
        ]

    back : (i : List ℕ) → IsKnown i ⊎ FirstFieldIs fields i → has_identifier (records ++ entry ∷ []) i ≡ true
    back i (inl known) = identifier_appended records entry i ∙ ap (λ b. b || is_of i (identifier_of entry)) (knows.back i known)
    back i (inr (others, is)) =
        let same : identifier ≡ i = cc (sym first.1 ∙ is) in
        stands_identifier (records ++ entry ∷ []) i (length records) entry (slice_get_new records entry) (own ∙ ap Some same)

-- draws of at most three fields
by_fields : (state : State) (trees : Trees) (level leaf : ℕ) (identifier : List ℕ) (fields : List (List ℕ)) (fate : Fate)
    (Rest : Result (List ℕ) SignFault → Type 0) (next : List Record → Outcome (List ℕ)) → AreFields tree_sizes (identifier ∷ fields)
    → ((entry : Record) → identifier_of entry ≡ Some identifier → Rest (next (state.records ++ entry ∷ [])).answer)
    → Unless (Of RandomFailed (length (identifier ∷ fields) < 3)) (AfterAppend fate Rest)
    (extended_seed state trees level leaf identifier fields fate next).answer
by_fields state trees level leaf identifier [] fate Rest next are more = is_there RandomFailed (omega arith) refl
by_fields state trees level leaf identifier (seed ∷ []) fate Rest next are more = is_there RandomFailed (omega arith) refl
by_fields state trees level leaf identifier (seed ∷ randomizer ∷ []) fate Rest next are more =
    let secret = lms_secret (slice_index_or trees.pairs level trees.top.pair) identifier seed in
    let entry = extend_record trees state.records level secret randomizer leaf in
    is_absent RandomFailed (λ within_limit. absurd (omega (arith, within_limit))) (by_append state entry fate next (more entry refl))
by_fields state trees level leaf identifier (seed ∷ randomizer ∷ other ∷ rest) fate Rest next are more = absurd (are.2.2.2)

by_known : (state : State) (trees : Trees) (level leaf : ℕ) (fields : List (List ℕ)) (fate : Fate) (IsKnown : List ℕ → Type 0)
    (Rest : Result (List ℕ) SignFault → Type 0) (next : List Record → Outcome (List ℕ)) → AreFields tree_sizes fields → Knows state.records IsKnown
    → ((entry : Record) (identifier : List ℕ) → FirstFieldIs fields identifier → identifier_of entry ≡ Some identifier
    → Rest (next (state.records ++ entry ∷ [])).answer)
    → RefusesTree IsKnown (record { fields = fields; fate = fate }) Rest (extended_identifier state trees level leaf fields fate next).answer
by_known state trees level leaf [] fate IsKnown Rest next are knows more = is_there RandomFailed (omega arith) refl
by_known state trees level leaf (identifier ∷ fields) fate IsKnown Rest next are knows more =
    is_absent RandomFailed (λ within_limit. absurd (omega (arith, within_limit)))
    (by_test RandomRepeated (has_identifier state.records identifier) state (extended_seed state trees level leaf identifier fields fate next)
    (λ known. (identifier, (fields, refl), knows.forth identifier known))
    (λ cause.
    let (other, (others, is), known) = cause in
    let same : other ≡ identifier = cc (is) in
    knows.back identifier (subst IsKnown same known))
    (λ new. by_fields state trees level leaf identifier fields fate Rest next are (λ entry own. more entry identifier (fields, refl) own)))

-- where there is a level below the top, there are LMS trees
trees_there : (secret : Secret) → 0 < bottom_of secret → (trees : Trees) × (trees_of secret ≡ Some trees)
trees_there (Lms secret) more = absurd (omega (arith, more))
trees_there (Hss [] identifier seed) more = absurd (omega (arith, more))
trees_there (Hss (pair ∷ rest) identifier seed) more = (_, refl)
trees_there (Xmss secret) more = absurd (omega (arith, more))

by_tree : (state : State) (key : Key) (trees : Option Trees) (level : ℕ) (draw : Draw) (IsKnown : List ℕ → Type 0)
    (Rest : Result (List ℕ) SignFault → Type 0) (next : List Record → Outcome (List ℕ)) (these : Trees) → trees ≡ Some these → IsTreeDraw draw
    → Knows state.records IsKnown
    → ((entry : Record) (identifier : List ℕ) → FirstFieldIs draw.fields identifier → identifier_of entry ≡ Some identifier
    → Rest (next (state.records ++ entry ∷ [])).answer)
    → RefusesTree IsKnown draw Rest (extended state key level trees draw next).answer
by_tree state key None level draw IsKnown Rest next these is are knows more = absurd (cc)
by_tree state key (Some trees) level draw IsKnown Rest next these is are knows more =
    by_known state trees level (next_at key.secret state.records (level - 1)) draw.fields draw.fate IsKnown Rest next are knows more

-- a binding, once its C is drawn
by_given : (state : State) (key : Key) (name randomizer : List ℕ) (given : Option (List ℕ)) (fate : Fate)
    → Unless (Of MessageRead (given ≡ None)) (AfterAppend fate IsOk) (bound_message state key name (Some randomizer) given fate).answer
by_given state key name randomizer None fate = is_there MessageRead refl refl
by_given state key name randomizer (Some message) fate =
    let leaf = next_at key.secret state.records (bottom_of key.secret) in
    let bound = new_bound key state.records name leaf randomizer message in
    is_absent MessageRead (some_not_none message)
    (by_append state (BoundRecord bound) fate
    (λ records. answered (open_state records) (textbook_signature key records (length state.records) bound)) refl)

by_randomizer : (state : State) (key : Key) (name : List ℕ) (secret : Secret) (fields : List (List ℕ)) (given : Option (List ℕ)) (fate : Fate)
    → AreFields (randomizer_sizes secret) fields
    → Unless (Of RandomFailed (length fields < length (randomizer_sizes secret)))
    (Unless (Of MessageRead (given ≡ None)) (AfterAppend fate IsOk))
    (bound_message state key name (randomizer_of_fields secret fields) given fate).answer
by_randomizer state key name (Lms secret) [] given fate are = is_there RandomFailed (omega arith) refl
by_randomizer state key name (Lms secret) (c ∷ []) given fate are =
    is_absent RandomFailed (λ within_limit. omega (arith, within_limit)) (by_given state key name c given fate)
by_randomizer state key name (Lms secret) (c ∷ other ∷ rest) given fate are = absurd (are.2)
by_randomizer state key name (Hss levels identifier seed) [] given fate are = is_there RandomFailed (omega arith) refl
by_randomizer state key name (Hss levels identifier seed) (c ∷ []) given fate are =
    is_absent RandomFailed (λ within_limit. omega (arith, within_limit)) (by_given state key name c given fate)
by_randomizer state key name (Hss levels identifier seed) (c ∷ other ∷ rest) given fate are = absurd (are.2)
by_randomizer state key name (Xmss secret) [] given fate are =
    is_absent RandomFailed (λ within_limit. omega (arith, within_limit)) (by_given state key name _ given fate)
by_randomizer state key name (Xmss secret) (c ∷ rest) given fate are = absurd are

by_wanted : (key : Key) (name : List ℕ) (chance : Chance) (below : ℕ) → below ≤ bottom_of key.secret → AreDrawsOf key.secret chance
    → (draws : List Draw) (records : List Record) (IsKnown : List ℕ → Type 0) → AllByRecursion IsTreeDraw draws → Knows records IsKnown
    → RefusesWanted key chance below draws IsKnown (bound_trees key name chance below draws records).answer
by_wanted key name chance zero low possible draws records IsKnown are knows =
    by_randomizer (open_state records) key name key.secret chance.bound.fields chance.given chance.bound.fate possible.bound
by_wanted key name chance (suc below) low possible draws records IsKnown are knows =
    let fields = (first_draw draws).fields in
    let IsKnownNext = λ (i : List ℕ). IsKnown i ⊎ FirstFieldIs fields i in
    let (these, is) = trees_there key.secret (omega (arith, low)) in
    by_tree (open_state records) key (trees_of key.secret) (bottom_of key.secret - below) (first_draw draws) IsKnown
    (RefusesWanted key chance below (drop 1 draws) IsKnownNext) (bound_trees key name chance below (drop 1 draws)) these is
    (first_drawn draws are) knows
    (λ entry identifier first own.
    by_wanted key name chance below (omega (arith, low)) possible (drop 1 draws) (records ++ entry ∷ []) IsKnownNext (later_drawn draws are)
    (knows_more records IsKnown fields identifier entry first own knows))

-- ---- a request

module _ (limit : ℕ) (state : State) (key : Key) (name : List ℕ) (chance : Chance) (possible : AreDrawsOf key.secret chance) where
  by_level : (level : ℕ) → RefusesAt limit state key chance level (bound_level limit state key name chance (Some level)).answer
  by_level level =
      let records = state.records in
      let all = length records + wanted_count key.secret level in
      let damaged = damaged_at key level records (current_at level records (length records)) in
      let sound = bound_sound state key name chance level in
      by_test LedgerFull (nat_lt limit all) state (if not chance.has_room then refused state OutOfMemory else sound damaged)
      (ltb-true limit all) (lt-ltb limit all)
      (λ fits. by_not OutOfMemory chance.has_room state (sound damaged)
      (λ room. by_damage damaged sound (λ slot. refl)
      (by_wanted key name chance (bottom_of key.secret - level) (omega arith) possible chance.trees records
      (λ identifier. has_identifier records identifier ≡ true) possible.trees (record { forth = λ i is. is; back = λ i is. is }))))

  by_new : (level : Option ℕ) → deepest key.secret state.records ≡ level
      → RefusesNew limit state key chance (bound_level limit state key name chance level).answer
  by_new None free = is_there Exhausted (none_free key.secret state.records free) refl
  by_new (Some level) free =
      let (within, some, below) = deepest_is key.secret state.records level free in
      let rest : (l : ℕ) × (deepest key.secret state.records ≡ Some l)
      × RefusesAt limit state key chance l (bound_level limit state key name chance (Some level)).answer = (level, free, by_level level) in
      is_absent Exhausted (λ none. omega (arith, some, none level within)) rest

  by_name : (found : Option (ℕ × Bound)) → RefusesName limit state key name chance found (requested_binding limit state key name chance found).answer
  by_name (Some (k, bound)) = by_repeat state key k bound chance chance.given refl
  by_name None = by_test LongName (is_long key name) state (bound_level limit state key name chance (deepest key.secret state.records))
      (ltb-true (name_most key.version) (length name)) (lt-ltb (name_most key.version) (length name)) (λ short. by_new (deepest key.secret state.records) refl)

  by_request : the_key state.records ≡ Some key → RefusesRequest limit state key name chance (requested limit state name chance).answer
  by_request keyed =
      let found = binding_at state.records name in
      subst (λ k. RefusesRequest limit state key name chance (requested_key limit state name chance k).answer) (sym keyed)
      (by_open state (requested_binding limit state key name chance found) (by_name found))

-- ---- a retiring

nothing : Unit {0}
nothing = tt

by_record : (limit : ℕ) (state : State) (next upto : ℕ) (fate : Fate) (test : Bool) → nat_le upto next ≡ test
    → RefusesRecord limit state next upto fate (if test then answered state nothing
    else (if nat_lt limit (length state.records + 1) then refused state LedgerFull
    else appended state (Retire upto) fate (λ records. answered (open_state records) nothing))).answer
by_record limit state next upto fate true is = inl (leb-true upto next is, refl)
by_record limit state next upto fate false is =
    let all = length state.records + 1 in
    inr (
      leb-false upto next is,
      by_test LedgerFull (nat_lt limit all) state (appended state (Retire upto) fate (λ records. answered (open_state records) nothing))
          (ltb-true limit all) (lt-ltb limit all)
          (λ fits. by_append state (Retire upto) fate (λ records. answered (open_state records) nothing) refl),
    )

by_retire : (limit : ℕ) (state : State) (key : Key) (upto : ℕ) (fate : Fate) → the_key state.records ≡ Some key
    → RefusesRetire limit state key upto fate (retired limit state upto fate).answer
by_retire limit state key upto fate keyed =
    let bottom = bottom_of key.secret in
    let leaves = leaves_of_current key.secret state.records bottom in
    let next = next_at key.secret state.records bottom in
    let goes = if nat_le upto next then answered state nothing else
    (if nat_lt limit (length state.records + 1) then refused state LedgerFull
    else appended state (Retire upto) fate (λ records. answered (open_state records) nothing)) in
    subst (λ k. RefusesRetire limit state key upto fate (retired_key limit state upto fate k).answer) (sym keyed)
    (by_open state (if nat_lt leaves upto then refused state RetireRange else goes)
    (by_test RetireRange (nat_lt leaves upto) state goes (ltb-true leaves upto) (lt-ltb leaves upto)
    (λ inside. by_record limit state next upto fate (nat_le upto next) refl)))

-- ---- a create

few_drawn : (spec : Spec) (fields : List (List ℕ)) → AreFields (key_sizes spec) fields → secret_of_fields spec fields ≡ None
    → length fields < length (key_sizes spec)
few_drawn (LmsSpec pair) [] are is = omega arith
few_drawn (LmsSpec pair) (a ∷ []) are is = omega arith
few_drawn (LmsSpec pair) (a ∷ b ∷ []) are is = absurd (cc (is))
few_drawn (LmsSpec pair) (a ∷ b ∷ c ∷ rest) are is = absurd (are.2.2)
few_drawn (HssSpec levels) [] are is = omega arith
few_drawn (HssSpec levels) (a ∷ []) are is = omega arith
few_drawn (HssSpec levels) (a ∷ b ∷ []) are is = absurd (cc (is))
few_drawn (HssSpec levels) (a ∷ b ∷ c ∷ rest) are is = absurd (are.2.2)
few_drawn (XmssSpec tree) [] are is = omega arith
few_drawn (XmssSpec tree) (a ∷ []) are is = omega arith
few_drawn (XmssSpec tree) (a ∷ b ∷ []) are is = omega arith
few_drawn (XmssSpec tree) (a ∷ b ∷ c ∷ []) are is = absurd (cc (is))
few_drawn (XmssSpec tree) (a ∷ b ∷ c ∷ d ∷ rest) are is = absurd (are.2.2.2)

all_drawn : (spec : Spec) (fields : List (List ℕ)) (secret : Secret) → secret_of_fields spec fields ≡ Some secret
    → length fields < length (key_sizes spec) → ⊥
all_drawn (LmsSpec pair) [] secret is within_limit = absurd (cc (is))
all_drawn (LmsSpec pair) (a ∷ []) secret is within_limit = absurd (cc (is))
all_drawn (LmsSpec pair) (a ∷ b ∷ rest) secret is within_limit = omega (arith, within_limit)
all_drawn (HssSpec levels) [] secret is within_limit = absurd (cc (is))
all_drawn (HssSpec levels) (a ∷ []) secret is within_limit = absurd (cc (is))
all_drawn (HssSpec levels) (a ∷ b ∷ rest) secret is within_limit = omega (arith, within_limit)
all_drawn (XmssSpec tree) [] secret is within_limit = absurd (cc (is))
all_drawn (XmssSpec tree) (a ∷ []) secret is within_limit = absurd (cc (is))
all_drawn (XmssSpec tree) (a ∷ b ∷ []) secret is within_limit = absurd (cc (is))
all_drawn (XmssSpec tree) (a ∷ b ∷ c ∷ rest) secret is within_limit = omega (arith, within_limit)

by_room : {A : Type 0} {Rest : Result A SignFault → Type 0} (test : Bool) (state : State) (rest : Outcome A) → Rest rest.answer
    → Unless (Of OutOfMemory (test ≡ false)) Rest (if not test then refused state OutOfMemory else rest).answer
by_room true state rest more = is_absent OutOfMemory (λ is. absurd (true≢false is)) more
by_room false state rest more = is_there OutOfMemory refl refl

module _ (state : State) (spec : Spec) (chance : Creation) (can : IsSpec spec) (are : AreFields (key_sizes spec) chance.fields) where
  abbrev Begins : Result AnyPublic SignFault → Type 0
  Begins = Unless (Of RandomFailed (length chance.fields < length (key_sizes spec)))
      (Unless (Of OutOfMemory (chance.has_room ≡ false)) (AfterAppend chance.fate IsOk))

  by_secret : (found : Option Secret) → secret_of_fields spec chance.fields ≡ found → Begins (begun state chance found).answer
  by_secret None is = is_there RandomFailed (few_drawn spec chance.fields are is) refl
  by_secret (Some secret) is =
      let key = new_key chance.version secret in
      let (public, has) = public_made secret key.root (secret_sizes spec chance.fields secret can are is) in
      let next = λ (all : List Record). published all (any_public_of key) in
      is_absent RandomFailed (all_drawn spec chance.fields secret is)
      (by_room chance.has_room state (appended state (KeyRecord key) chance.fate next)
      (by_append state (KeyRecord key) chance.fate next
      (ap (λ other. is_ok (published (state.records ++ KeyRecord key ∷ []) other).answer) has)))

  by_load : (failed : Option SignFault) → chance.failed_load ≡ failed → RefusesCreate state spec chance (created_load failed state spec chance).answer
  by_load (Some fault) is = refuses fault is refl
  by_load None is =
      let some = length state.records in
      let begins = begun state chance (secret_of_fields spec chance.fields) in
      goes_on (λ fault load. some_not_none fault (sym load ∙ is))
      (by_test KeyThere (nat_le 1 some) state (drawing (concat chance.fields) begins) (λ test. omega (arith, leb-true 1 some test))
      (λ there. le-leb 1 some (omega (arith, there))) (λ none. by_secret (secret_of_fields spec chance.fields) refl))

-- ---- an opening

by_records : (records : List Record) → first_illegal records ≡ None → AllHaveSizes records
    → Unless (Of NoKey (records ≡ [])) IsOk (opened_key records (the_key records)).answer
by_records [] legal sizes = is_there NoKey refl refl
by_records (entry ∷ rest) legal sizes =
    let all = legal_from_none (entry ∷ rest) (omega arith) legal in
    let keyed : the_key (entry ∷ rest) ≡ Some all.key = ap (λ first. the_key (first ∷ rest)) (same_Some entry (KeyRecord all.key) all.first) in
    let (public, has) = public_made all.key.secret all.key.root (key_has_sizes (entry ∷ rest) all.key sizes keyed) in
    is_absent NoKey (λ none. absurd (cc (none)))
    (ap (λ found. is_ok (opened_key (entry ∷ rest) found).answer) keyed ∙ ap (λ found. is_ok (published (entry ∷ rest) found).answer) has)

module _ (state : State) where
  by_slot : (slot k : ℕ) (fault : SignFault) (test : Bool) → nat_lt k slot ≡ test → first_illegal state.records ≡ Some k
      → RefusesOpening {A = AnyPublic} state (Some (slot, fault)) (refused {A = AnyPublic} state (if test then Illegal k else fault)).answer
  by_slot slot k fault true low is =
      let before : (other : ℕ) (again : SignFault) → Some (slot, fault) ≡ Some (other, again) → k < other =
      λ other again at.
      let same : ◌≡◌ {A = ℕ × SignFault} (slot, fault) (other, again) = same_Some _ _ at in
      subst (λ n. k < n) (ap (λ (p : ℕ × SignFault). p.0) same) (ltb-true k slot low) in
      refuses (Illegal k) (k, is, refl, before) refl
  by_slot slot k fault false high is =
      goes_on (λ other cause.
      let (place, at, named, before) = cause in
      let same : place ≡ k = same_Some place k (sym at ∙ is) in
      omega (arith, same, before slot fault refl, ltb-false k slot high))
      (refuses fault (slot, refl) refl)

  by_chance : (chance : Opening) (illegal : Option ℕ) → first_illegal state.records ≡ illegal → AllHaveSizes state.records
      → RefusesOpening state chance (opened_illegal state chance illegal).answer
  by_chance None None is sizes =
      goes_on (λ fault cause. some_not_none cause.0 (sym cause.1 ∙ is))
      (goes_on (λ fault cause. some_not_none (cause.0, fault) (sym cause.1)) (by_records state.records is sizes))
  by_chance None (Some k) is sizes = refuses (Illegal k) (k, is, refl, λ slot other at. absurd (some_not_none (slot, other) (sym at))) refl
  by_chance (Some (slot, fault)) None is sizes =
      goes_on (λ other cause. some_not_none cause.0 (sym cause.1 ∙ is)) (refuses fault (slot, refl) refl)
  by_chance (Some (slot, fault)) (Some k) is sizes = by_slot slot k fault (nat_lt k slot) refl is

-- ---- no other answer

alike_unless : {A : Type 0} {HasCause : SignFault → Type 0} {Rest : Result A SignFault → Type 0} {one other : Result A SignFault}
    → ((a b : SignFault) → HasCause a → HasCause b → a ≡ b) → (Rest one → Rest other → RefuseAlike one other)
    → Unless HasCause Rest one → Unless HasCause Rest other → RefuseAlike one other
alike_unless {A = A} {HasCause = HasCause} {Rest = Rest} {one = one} {other = other} single more first second = by first.decided second.decided
  where
    Decides : Result A SignFault → Type 0
    Decides answer = ((fault : SignFault) × HasCause fault × (answer ≡ Err fault)) ⊎ (((fault : SignFault) → HasCause fault → ⊥) × Rest answer)

    by : Decides one → Decides other → RefuseAlike one other
    by (inl (a, cause, is)) (inl (b, again, at)) = λ fault.
        let same : a ≡ b = single a b cause again in
        (λ named. at ∙ ap Err (sym same) ∙ sym is ∙ named, λ named. is ∙ ap Err same ∙ sym at ∙ named)
    by (inl (a, cause, is)) (inr (none, rest)) = absurd (none a cause)
    by (inr (none, rest)) (inl (b, again, at)) = absurd (none b again)
    by (inr (none, rest)) (inr (nothing_else, others)) = more rest others

alike_of : {A : Type 0} {named : SignFault} {Cause : Type 0} {Rest : Result A SignFault → Type 0} {one other : Result A SignFault}
    → (Rest one → Rest other → RefuseAlike one other) → Unless (Of named Cause) Rest one → Unless (Of named Cause) Rest other → RefuseAlike one other
alike_of more first second = alike_unless (λ a b cause again. cause.0 ∙ sym again.0) more first second

ok_unrefused : {A : Type 0} (answer : Result A SignFault) (fault : SignFault) → IsOk answer → answer ≡ Err fault → ⊥
ok_unrefused {A = A} answer fault ok is = absurd (true≢false (sym ok ∙ ap (λ (a : Result A SignFault). is_ok a) is))

alike_ok : {A : Type 0} {one other : Result A SignFault} → IsOk one → IsOk other → RefuseAlike one other
alike_ok {one = one} {other = other} first second = λ fault.
    (λ is. absurd (ok_unrefused one fault first is), λ is. absurd (ok_unrefused other fault second is))

alike_append : {A : Type 0} {fate : Fate} {Rest : Result A SignFault → Type 0} {one other : Result A SignFault}
    → (Rest one → Rest other → RefuseAlike one other) → AfterAppend fate Rest one → AfterAppend fate Rest other → RefuseAlike one other
alike_append more first second = alike_of (λ a b. alike_of more a b) first second

alike_open : {A : Type 0} (state : State) {Rest : Result A SignFault → Type 0} {one other : Result A SignFault}
    → (Rest one → Rest other → RefuseAlike one other) → WhereOpen state Rest one → WhereOpen state Rest other → RefuseAlike one other
alike_open state more first second = alike_of (λ a b. alike_of more a b) first second

one_unsound : (damaged : Option ℕ) (a b : SignFault) → IsUnsound damaged a → IsUnsound damaged b → a ≡ b
one_unsound damaged a b (slot, is, named) (other, at, again) =
    named ∙ ap Damaged (same_Some slot other (sym is ∙ at)) ∙ sym again

alike_wanted : (key : Key) (chance : Chance) (below : ℕ) (draws : List Draw) (IsKnown : List ℕ → Type 0) (one other : Result (List ℕ) SignFault)
    → RefusesWanted key chance below draws IsKnown one → RefusesWanted key chance below draws IsKnown other → RefuseAlike one other
alike_wanted key chance zero draws IsKnown one other = λ first second.
    alike_of (λ a b. alike_of (λ c d. alike_append alike_ok c d) a b) first second
alike_wanted key chance (suc below) draws IsKnown one other = λ first second.
    alike_of (λ a b. alike_of (λ c d. alike_of (λ e f. alike_append
    (alike_wanted key chance below (drop 1 draws) (λ i. IsKnown i ⊎ FirstFieldIs (first_draw draws).fields i) one other) e f) c d) a b) first second

module _ (limit : ℕ) (state : State) (key : Key) (chance : Chance) (one other : Result (List ℕ) SignFault) where
  alike_at : (level : ℕ) → RefusesAt limit state key chance level one → RefusesAt limit state key chance level other → RefuseAlike one other
  alike_at level first second =
      let records = state.records in
      let damaged = damaged_at key level records (current_at level records (length records)) in
      alike_of (λ a b. alike_of (λ c d. alike_unless (one_unsound damaged)
      (alike_wanted key chance (bottom_of key.secret - level) chance.trees (λ identifier. has_identifier records identifier ≡ true) one other) c d) a b)
      first second

  alike_new : RefusesNew limit state key chance one → RefusesNew limit state key chance other → RefuseAlike one other
  alike_new first second =
      alike_of (λ a b.
      let same : a.0 ≡ b.0 = same_Some a.0 b.0 (sym a.1 ∙ b.1) in
      alike_at b.0 (subst (λ level. RefusesAt limit state key chance level one) same a.2) b.2) first second

  alike_repeat : (k : ℕ) (bound : Bound) → RefusesRepeat state key k bound chance one → RefusesRepeat state key k bound chance other
      → RefuseAlike one other
  alike_repeat k bound first second =
      let bottom = bottom_of key.secret in
      let damaged = damaged_at key bottom state.records (current_at bottom state.records k) in
      alike_of (λ a b. alike_of (λ c d. alike_of (λ e f. alike_unless (one_unsound damaged) alike_ok e f) c d) a b) first second

  alike_name : (name : List ℕ) (found : Option (ℕ × Bound)) → RefusesName limit state key name chance found one
      → RefusesName limit state key name chance found other
      → RefuseAlike one other
  alike_name name (Some (k, bound)) first second = alike_repeat k bound first second
  alike_name name None first second = alike_of alike_new first second

alike_record : (limit : ℕ) (state : State) (next upto : ℕ) (fate : Fate) (one other : Result (Unit {0}) SignFault)
    → RefusesRecord limit state next upto fate one → RefusesRecord limit state next upto fate other → RefuseAlike one other
alike_record limit state next upto fate one other (inl (low, first)) (inl (again, second)) = alike_ok first second
alike_record limit state next upto fate one other (inl (low, first)) (inr (high, second)) = absurd (omega (arith, low, high))
alike_record limit state next upto fate one other (inr (high, first)) (inl (low, second)) = absurd (omega (arith, low, high))
alike_record limit state next upto fate one other (inr (high, first)) (inr (again, second)) =
    alike_of (λ a b. alike_append alike_ok a b) first second

one_illegal : (records : List Record) (chance : Opening) (a b : SignFault) → IsIllegalFirst records chance a → IsIllegalFirst records chance b → a ≡ b
one_illegal records chance a b (k, is, named, before) (l, at, again, earlier) = named ∙ ap Illegal (same_Some k l (sym is ∙ at)) ∙ sym again

one_load : (chance : Opening) (a b : SignFault) → (slot : ℕ) × (chance ≡ Some (slot, a)) → (slot : ℕ) × (chance ≡ Some (slot, b)) → a ≡ b
one_load chance a b (slot, is) (other, at) =
    let same : ◌≡◌ {A = ℕ × SignFault} (slot, a) (other, b) = same_Some _ _ (sym is ∙ at) in
    ap (λ (p : ℕ × SignFault). p.1) same

pub refusal_law : RefusalLaw
refusal_law = record {
  request = λ limit state key name chance keyed possible. by_request limit state key name chance possible keyed;
  retire = by_retire;
  create = λ state spec chance can are. by_load state spec chance can are chance.failed_load refl;
  opening = λ state chance sizes. by_chance state chance (first_illegal state.records) refl sizes;
  one_request = λ limit state key name chance one other first second.
      alike_open state (λ a b. alike_name limit state key chance one other name (binding_at state.records name) a b) first second;
  one_retire = λ limit state key upto fate one other first second.
      alike_open state (λ a b. alike_of (λ c d. alike_record limit state (next_at key.secret state.records (bottom_of key.secret)) upto fate one other c d) a b) first second;
  one_create = λ state spec chance one other first second.
      alike_unless (λ a b cause again. same_Some a b (sym cause ∙ again))
      (λ a b. alike_of (λ c d. alike_of (λ e f. alike_of (λ g h. alike_append alike_ok g h) e f) c d) a b) first second;
  one_opening = λ state chance one other first second.
      alike_unless (one_illegal state.records chance)
      (λ a b. alike_unless (one_load chance) (λ c d. alike_of alike_ok c d) a b) first second;
}
