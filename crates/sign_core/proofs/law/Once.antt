-- What the law says of a world follows from what every event keeps.
use Rattle.std.proofs.Common.{◌≡◌, ◌≢◌, ◌∙◌, ◌↔◌, refl, sym, ap, subst, ℕ, ◌+◌, ◌-◌, ◌≤◌, ◌⊎◌, inl, inr, Bool, true, false, List, [], ◌∷◌, ◌++◌}
use Rattle.std.proofs.Common.{length, length-append, take, ◌<◌, Option, Some, None, Ok, Err, arith, true≢false}
use Rattle.std.specs.Prelude.{Contains, if◌then◌else◌, nat_le, nat_lt, not}
use Rattle.std.specs.Cmp.Lexicographic.{bytes_decides}
use Rattle.std.proofs.lemmas.Bool.{lt-ltb, le-ltb, lt-leb}
use Rattle.std.proofs.lemmas.List.{length_push}
use Rattle.std.proofs.lemmas.List.Elements.{Contains-push}
use Rattle.typecodes.specs.declared.spec.Spec.{Spec}
use Rattle.state_file.specs.Laws.{bottom_of, levels_of}
use Rattle.state_file.specs.declared.record.Bound.{Bound}
use Rattle.state_file.specs.declared.record.Key.{Key}
use Rattle.state_file.specs.declared.record.Record.{Record}
use Rattle.state_file.specs.declared.record.Record.TheVariants.{Bound as BoundRecord, Retire}
use Rattle.state_file.specs.declared.record.Secret.{Secret}
use Rattle.sign_core.specs.declared.key.AnyPublic.{AnyPublic}
use Rattle.sign_core.specs.declared.fault.SignFault.{SignFault}
use Rattle.sign_core.specs.declared.fault.SignFault.TheVariants.{Changed, Damaged, Exhausted, Illegal, LedgerFull, OutOfMemory, Stopped, StoreFailed, LongName}
use Rattle.sign_core.specs.declared.fault.SignFault.TheVariants.{RandomRepeated, RetireRange}
use Rattle.sign_core.specs.declared.fault.SignFault.TheVariants.{Moved as MovedAway}
use Rattle.sign_core.specs.Records.{are_same, binding_at, deepest, first_illegal, has_moved, the_key, leaves_of_current, next_at, wanted_count, is_long}
use Rattle.sign_core.specs.Requests.{AreComplete, BeginsTree, IsSigned}
use Rattle.sign_core.specs.Openings.{BeginsKey, Reopens}
use Rattle.sign_core.specs.Openings.{CanStopOpening}
use Rattle.sign_core.specs.Headline.{IsBoundTo}
use Rattle.sign_core.specs.Once.{IsOnce}
use Rattle.sign_core.specs.World.{Chance, Creation, Handed, Opening, Fate, Outcome, State, World, acked, after, answered}
use Rattle.sign_core.proofs.steps.Cases.{bound_level, bound_sound, level_steps}
use Rattle.sign_core.specs.World.{retired}
use Rattle.sign_core.proofs.steps.Cases.{retired_key}
use Rattle.sign_core.specs.World.{newly_handed, new_key, open_state, opened}
use Rattle.sign_core.specs.inner.Cases.{bound_trees}
use Rattle.sign_core.specs.World.{reading, refused, request, request_steps, requested, retire_steps}
use Rattle.sign_core.specs.inner.Cases.{requested_binding}
use Rattle.sign_core.proofs.steps.Cases.{opened_illegal, opened_key, published, repeated, repeated_sound}
use Rattle.sign_core.specs.World.{secret_of_fields}
use Rattle.sign_core.proofs.steps.Cases.{requested_key}
use Rattle.sign_core.specs.Textbook.{AreSound, damaged_at, digest_at, any_public_of, textbook_signature, current_at}
use Rattle.sign_core.proofs.records.FirstIllegal.{none_from_legal}
use Rattle.sign_core.proofs.law.OpenedRecords.{reopens}
use Rattle.sign_core.proofs.records.ValidSignatures.{undamaged}
use Rattle.sign_core.proofs.steps.NamedRefusals.{IsOfDamaged, is_plain, level_refuses, never_settled, not_damaged, request_refuses}
use Rattle.sign_core.proofs.steps.Settled.{AllRefusals, Settles, settled}
use Rattle.sign_core.proofs.law.NewNames.{IsDone, fine_bound_below, randomizer_drawn}
use Rattle.sign_core.proofs.law.DrawsOfRequests.{drawn_again, drawn_most, signed_read}
use Rattle.sign_core.proofs.records.FreeLeaves.{deepest_is}
use Rattle.sign_core.proofs.law.KeptByEvents.{IsKept, sound_with}
use Rattle.sign_core.proofs.law.OneLeaf.{handed_valid, one_digest, one_name, one_signature}
use Rattle.sign_core.proofs.records.Sizes.{key_has_sizes, spec_public, trees_made}
use Rattle.sign_core.proofs.law.Unbound.{binds_none, moved_retires, retires_before, retires_full, retires_outside, retires_starved}
use Rattle.state_file.specs.Slot.{name_most}

-- ---- sound records

never_damaged : (P : SignFault → Type 0) (state : State) (handed : List Handed) (key : Key) → IsKept state.records handed
    → the_key state.records ≡ Some key → IsOfDamaged P state key
never_damaged P state handed key kept keyed level tree slot is =
    absurd (let none = undamaged state.records key level tree (sound_with state.records handed key kept keyed) keyed in cc (none, is))

-- ---- an open signer

-- the name's binding decides a request
open_request : (limit : ℕ) (state : State) (key : Key) (name : List ℕ) (chance : Chance) (found : Option (ℕ × Bound)) → state.is_open ≡ true
    → has_moved state.records ≡ false
    → the_key state.records ≡ Some key → binding_at state.records name ≡ found
    → requested limit state name chance ≡ requested_binding limit state key name chance found
open_request limit state key name chance found open_now stays keyed is =
    let own = requested_binding limit state key name chance (binding_at state.records name) in
    let rest : Bool → Outcome (List ℕ) = λ moved. if moved then refused state MovedAway else own in
    ap (requested_key limit state name chance) keyed
    ∙ ap (λ test. if not test then refused state Stopped else rest (has_moved state.records)) open_now
    ∙ ap rest stays ∙ ap (requested_binding limit state key name chance) is

-- a new name goes on if it isn't too long
new_request : (limit : ℕ) (state : State) (key : Key) (name : List ℕ) (chance : Chance) (long : Bool) → state.is_open ≡ true
    → has_moved state.records ≡ false → the_key state.records ≡ Some key → binding_at state.records name ≡ None → is_long key name ≡ long
    → requested limit state name chance ≡ (if long then refused state LongName else bound_level limit state key name chance (deepest key.secret state.records))
new_request limit state key name chance long open_now stays keyed unbound is =
    open_request limit state key name chance None open_now stays keyed unbound
    ∙ ap (λ test. if test then refused state LongName else bound_level limit state key name chance (deepest key.secret state.records)) is

pub long_request : (limit : ℕ) (state : State) (key : Key) (name : List ℕ) (chance : Chance) → state.is_open ≡ true → has_moved state.records ≡ false
    → the_key state.records ≡ Some key → binding_at state.records name ≡ None → name_most key.version < length name
    → requested limit state name chance ≡ refused state LongName
long_request limit state key name chance open_now stays keyed unbound above =
    new_request limit state key name chance true open_now stays keyed unbound (lt-ltb (name_most key.version) (length name) above)

moved_request : (limit : ℕ) (state : State) (key : Key) (name : List ℕ) (chance : Chance) → state.is_open ≡ true → has_moved state.records ≡ true
    → the_key state.records ≡ Some key → requested limit state name chance ≡ refused state MovedAway
moved_request limit state key name chance open_now moved keyed =
    let own = requested_binding limit state key name chance (binding_at state.records name) in
    let rest : Bool → Outcome (List ℕ) = λ moved. if moved then refused state MovedAway else own in
    ap (requested_key limit state name chance) keyed
    ∙ ap (λ test. if not test then refused state Stopped else rest (has_moved state.records)) open_now
    ∙ ap rest moved

-- ---- a name that is bound

false_from : (test : Bool) → (test ≡ true → ⊥) → test ≡ false
false_from true never = absurd (never refl)
false_from false never = refl

pub answers_changed : (limit : ℕ) (state : State) (key : Key) (k : ℕ) (bound : Bound) (name message : List ℕ) (chance : Chance)
    → state.is_open ≡ true → has_moved state.records ≡ false → the_key state.records ≡ Some key
    → binding_at state.records name ≡ Some (k, bound) → chance.given ≡ Some message
    → digest_at key state.records k bound.leaf bound.randomizer message ≢ bound.digest
    → requested limit state name chance ≡ reading (refused state Changed)
answers_changed limit state key k bound name message chance open_now stays keyed named given other =
    let digest = digest_at key state.records k bound.leaf bound.randomizer message in
    let bottom = bottom_of key.secret in
    let rest = repeated_sound state key k bound (damaged_at key bottom state.records (current_at bottom state.records k)) in
    let test : are_same digest bound.digest ≡ false = false_from _ (λ same. other ((bytes_decides digest bound.digest).0 same)) in
    open_request limit state key name chance (Some (k, bound)) open_now stays keyed named
    ∙ ap (repeated state key k bound chance) given
    ∙ ap (λ same. reading (if not same then refused state Changed else (if not chance.has_room then refused state OutOfMemory else rest))) test

turned_choice : {A : Type 0} (test : Bool) (x y : A) → (if not test then x else y) ≡ (if test then y else x)
turned_choice true x y = refl
turned_choice false x y = refl

pub answers_repeated : (limit : ℕ) (state : State) (handed : List Handed) (key : Key) (k : ℕ) (bound : Bound) (name message : List ℕ) (chance : Chance)
    → IsKept state.records handed → state.is_open ≡ true → has_moved state.records ≡ false → chance.given ≡ Some message
    → IsBoundTo state.records key name message k bound
    → requested limit state name chance
    ≡ reading (if chance.has_room then answered state (textbook_signature key state.records k bound) else refused state OutOfMemory)
answers_repeated limit state handed key k bound name message chance kept open_now stays given is =
    let digest = digest_at key state.records k bound.leaf bound.randomizer message in
    let bottom = bottom_of key.secret in
    let tree = current_at bottom state.records k in
    let whole = undamaged state.records key bottom tree (sound_with state.records handed key kept is.keyed) is.keyed in
    let test : are_same digest bound.digest ≡ true = (bytes_decides digest bound.digest).1 is.digest in
    let rest : Option ℕ → Outcome (List ℕ) = λ damaged. if not chance.has_room then refused state OutOfMemory else repeated_sound state key k bound damaged in
    open_request limit state key name chance (Some (k, bound)) open_now stays is.keyed is.named
    ∙ ap (repeated state key k bound chance) given
    ∙ ap (λ same. reading (if not same then refused state Changed else rest (damaged_at key bottom state.records tree))) test
    ∙ ap (λ damaged. reading (rest damaged)) whole
    ∙ ap reading (turned_choice chance.has_room (refused state OutOfMemory) (answered state (textbook_signature key state.records k bound)))

-- ---- a name that isn't bound

-- a new name is signed once all its records are made
made_signature : (key : Key) (records : List Record) (level : ℕ) (name message : List ℕ) (chance : Chance) (outcome : Outcome (List ℕ))
    → level < levels_of key.secret → IsDone key name message chance (bottom_of key.secret - level) chance.trees records outcome
    → IsSigned key records level name message chance outcome
made_signature key records level name message chance outcome inside done =
    let here : bottom_of key.secret - (bottom_of key.secret - level) ≡ level = omega (arith, inside) in
    let all = records ++ done.trees in
    record {
      trees = done.trees;
      bound = done.bound;
      count = done.count;
      each = λ i entry draw at is.
          subst (λ l. BeginsTree key (records ++ take i done.trees) (l + i + 1) draw.fields entry) here (done.each i entry draw at is);
      binds = record { named = done.named; leaf = done.leaf; randomizer = done.randomizer; digest = done.digest };
      state = done.state;
      longer = ap (λ (s : State). length s.records) done.state
          ∙ omega (arith, length_push all (BoundRecord done.bound), length-append records done.trees, done.count, inside);
      answer = done.answer;
      drawn = done.drawn;
      read = done.read;
      uncut = done.uncut;
    }

pub fresh_fine : (limit : ℕ) (state : State) (handed : List Handed) (key : Key) (level : ℕ) (name message : List ℕ) (chance : Chance)
    → IsKept state.records handed
    → state.is_open ≡ true → has_moved state.records ≡ false → the_key state.records ≡ Some key
    → binding_at state.records name ≡ None → length name ≤ name_most key.version → deepest key.secret state.records ≡ Some level
    → length state.records + wanted_count key.secret level ≤ limit → chance.given ≡ Some message
    → AreComplete key.secret (bottom_of key.secret - level) chance
    → ((requested limit state name chance).answer ≡ Err RandomRepeated) ⊎ IsSigned key state.records level name message chance (requested limit state name chance)
fresh_fine limit state handed key level name message chance kept open_now stays keyed unbound has_room is short given whole =
    let records = state.records in
    let bottom = bottom_of key.secret in
    let inside = (deepest_is key.secret records level is).0 in
    let sizes = key_has_sizes records key kept.sizes keyed in
    let tree = current_at level records (length records) in
    let fits : nat_lt limit (length records + wanted_count key.secret level) ≡ false = le-ltb limit (length records + wanted_count key.secret level) short in
    let sound : damaged_at key level records tree ≡ None = undamaged records key level tree (sound_with records handed key kept keyed) keyed in
    let (drawn, is_drawn) = randomizer_drawn key.secret chance.bound.fields whole.bound.fields in
    let fine = fine_bound_below key name message drawn chance (bottom - level) chance.trees records given is_drawn whole.bound.acknowledged (omega arith)
    (λ more. trees_made key.secret sizes (omega (arith, more))) whole.enough whole.each in
    let room_then : Bool → Outcome (List ℕ) = λ room. if not room then refused state OutOfMemory else bound_sound state key name chance level
    (damaged_at key level records tree) in
    let way = new_request limit state key name chance false open_now stays keyed unbound (le-ltb (name_most key.version) (length name) has_room)
    ∙ ap (bound_level limit state key name chance) is
    ∙ ap (λ full. if full then refused state LedgerFull else room_then chance.has_room) fits
    ∙ ap room_then whole.room
    ∙ ap (bound_sound state key name chance level) sound in
    subst (λ outcome. (outcome.answer ≡ Err RandomRepeated) ⊎ IsSigned key records level name message chance outcome) (sym way)
    (elim fine as (λ u. let came = bound_trees key name chance (bottom - level) chance.trees records in
    (came.answer ≡ Err RandomRepeated) ⊎ IsSigned key records level name message chance came) [
      | inl again ↦ inl again
      | inr done ↦ inr (made_signature key records level name message chance _ inside done)
    ])

-- 22 comes only where no leaf is free
not_exhausted : (fault : SignFault) → is_plain fault ≡ true → fault ≢ Exhausted
not_exhausted fault plain is = absurd (true≢false (sym plain ∙ ap is_plain is))

anew_exhausted : (limit : ℕ) (state : State) (key : Key) (name : List ℕ) (chance : Chance) (level : Option ℕ)
    → (bound_level limit state key name chance level).answer ≡ Err Exhausted
    → level ≡ None
anew_exhausted limit state key name chance None is = refl
anew_exhausted limit state key name chance (Some level) is =
    let all : AllRefusals (λ fault. fault ≢ Exhausted) (level_steps limit key name chance (Some level)) state =
    level_refuses (λ fault. fault ≢ Exhausted) not_exhausted limit key name chance (Some level) state
    (λ level tree slot damaged other. cc) (λ none. cc) in
    absurd (settled _ _ (never_settled Exhausted (λ other. cc)) (level_steps limit key name chance (Some level)) state all is)

pub exhausted_exactly : (limit : ℕ) (state : State) (key : Key) (name : List ℕ) (chance : Chance) → state.is_open ≡ true → has_moved state.records ≡ false
    → the_key state.records ≡ Some key → binding_at state.records name ≡ None → length name ≤ name_most key.version
    → ((requested limit state name chance).answer ≡ Err Exhausted) ↔ (deepest key.secret state.records ≡ None)
exhausted_exactly limit state key name chance open_now stays keyed unbound has_room =
    let way : requested limit state name chance ≡ bound_level limit state key name chance (deepest key.secret state.records) =
    new_request limit state key name chance false open_now stays keyed unbound (le-ltb (name_most key.version) (length name) has_room) in
    let answers = ap (λ outcome. outcome.answer) way in (
      λ is. anew_exhausted limit state key name chance (deepest key.secret state.records) (sym answers ∙ is),
      λ none. answers ∙ ap (λ level. (bound_level limit state key name chance level).answer) none,
    )

-- ---- any request

not_failed : (fault : SignFault) → is_plain fault ≡ true → fault ≢ StoreFailed
not_failed fault plain is = absurd (true≢false (sym plain ∙ ap is_plain is))

pub answers_whole : (limit : ℕ) (state : State) (handed : List Handed) (name : List ℕ) (chance : Chance) (slot : ℕ) → IsKept state.records handed
    → (requested limit state name chance).answer ≢ Err (Damaged slot)
answers_whole limit state handed name chance slot kept =
    settled _ _ (never_settled (Damaged slot) (λ other. cc)) (request_steps limit name chance) state
    (request_refuses (λ fault. fault ≢ Damaged slot) (not_damaged slot) limit name chance state
    (λ key keyed. never_damaged (λ fault. fault ≢ Damaged slot) state handed key kept keyed) (λ other. cc))

-- where an append was cut, the signer is closed
abbrev Closes : {A : Type 0} → Outcome A → Type 0
Closes outcome = outcome.answer ≡ Err StoreFailed → outcome.state.is_open ≡ false

closed_settled : {A : Type 0} → Settles {A = A} (λ fault. fault ≢ StoreFailed) Closes
closed_settled = record {
  answers = λ state a is. absurd (cc);
  refuses = λ state fault other is. absurd (other (cc));
  cuts = λ acknowledged entry left is. refl;
  draws = λ bytes outcome closes. closes;
  reads = λ outcome closes. closes;
}

pub failed_closes : (limit : ℕ) (state : State) (name : List ℕ) (chance : Chance) → (requested limit state name chance).answer ≡ Err StoreFailed
    → (requested limit state name chance).state.is_open ≡ false
failed_closes limit state name chance =
    settled _ _ closed_settled (request_steps limit name chance) state
    (request_refuses (λ fault. fault ≢ StoreFailed) not_failed limit name chance state
    (λ key keyed level tree slot damaged other. cc) (λ other. cc))

pub closed_key : (limit : ℕ) (state : State) (name : List ℕ) (chance : Chance) (found : Option Key) → state.is_open ≡ false
    → requested_key limit state name chance found ≡ refused state Stopped
closed_key limit state name chance (Some key) closed = rw closed refl
closed_key limit state name chance None closed = refl

pub handed_out : (limit : ℕ) (world : World) (name message signature : List ℕ) (chance : Chance) → chance.given ≡ Some message
    → (requested limit world.state name chance).answer ≡ Ok signature
    → Contains (after limit world (request name chance)).handed (record { name = name; message = message; signature = signature })
handed_out limit world name message signature chance given answer =
    let x : Handed = record { name = name; message = message; signature = signature } in
    let out : newly_handed name chance.given (requested limit world.state name chance).answer ≡ x ∷ [] =
    ap (λ g. newly_handed name g (requested limit world.state name chance).answer) given ∙ ap (newly_handed name (Some message)) answer in
    subst (λ more. Contains (world.handed ++ more) x) (sym out) (Contains-push world.handed x)

-- ---- creates and openings

pub begins_key : (state : State) (spec : Spec) (secret : Secret) (chance : Creation) (public : AnyPublic) → state.records ≡ [] → chance.failed_load ≡ None
    → secret_of_fields spec chance.fields ≡ Some secret → chance.has_room ≡ true → chance.fate ≡ acked → any_public_of (new_key chance.version secret) ≡ Some public
    → BeginsKey state spec chance (new_key chance.version secret)
begins_key state spec secret chance public empty loaded drawn room fate is =
    record { public = public; is_public = is; begins = rw (loaded, empty, drawn, room, fate, is) refl }

none_illegal_in : (records : List Record) → (records ≡ []) ⊎ AreSound records → first_illegal records ≡ None
none_illegal_in records (inl empty) = ap first_illegal empty
none_illegal_in records (inr sound) = none_from_legal records sound.legal

legal_published : (records : List Record) (public : Option AnyPublic) (slot : ℕ) → (published records public).answer ≢ Err (Illegal slot)
legal_published records (Some public) slot is = cc
legal_published records None slot is = cc

legal_on : (records : List Record) (found : Option Key) (slot : ℕ) → (opened_key records found).answer ≢ Err (Illegal slot)
legal_on records None slot is = cc
legal_on records (Some key) slot is = legal_published records (any_public_of key) slot is

legal_opened : (state : State) (chance : Opening) (slot : ℕ) → CanStopOpening chance → (opened_illegal state chance None).answer ≢ Err (Illegal slot)
legal_opened state None slot can is = legal_on state.records (the_key state.records) slot is
legal_opened state (Some (place, fault)) slot can is = elim can [
  | inl a ↦ cc
  | inr (inl b) ↦ cc
  | inr (inr (inl c)) ↦ cc
  | inr (inr (inr d)) ↦ cc
]

pub opens_legal : (state : State) (handed : List Handed) (chance : Opening) (slot : ℕ) → IsKept state.records handed → CanStopOpening chance
    → (opened state chance).answer ≢ Err (Illegal slot)
opens_legal state handed chance slot kept can =
    subst (λ illegal. (opened_illegal state chance illegal).answer ≢ Err (Illegal slot)) (sym (none_illegal_in state.records kept.ground))
    (legal_opened state chance slot can)

pub opens_again : (state : State) (handed : List Handed) (key : Key) → IsKept state.records handed → the_key state.records ≡ Some key → Reopens state
opens_again state handed key kept keyed =
    let sound = sound_with state.records handed key kept keyed in
    reopens state (record { legal = sound.legal; sizes = kept.sizes })

-- ---- retirings

pub retiring_closes : (limit : ℕ) (state : State) (upto : ℕ) (fate : Fate) → Closes (retired limit state upto fate)
retiring_closes limit state upto fate =
    settled _ _ closed_settled (retire_steps limit upto fate) state (
      λ none other. cc,
      λ key keyed. (
        λ closed other. cc,
        λ open_now. (
          λ moved other. cc,
          λ stays. (
            λ outside other. cc,
            λ inside. (λ past. tt, λ beyond. (λ full other. cc, λ fits. (λ other. cc, tt))),
          ),
        ),
      ),
    )

pub retires_beyond : (limit : ℕ) (state : State) (key : Key) (upto : ℕ) → state.is_open ≡ true → has_moved state.records ≡ false
    → the_key state.records ≡ Some key → upto ≤ leaves_of_current key.secret state.records (bottom_of key.secret)
    → next_at key.secret state.records (bottom_of key.secret) < upto → length state.records + 1 ≤ limit
    → retired limit state upto acked ≡ answered (open_state (state.records ++ Retire upto ∷ [])) tt
retires_beyond limit state key upto open_now stays keyed inside beyond fits =
    let bottom = bottom_of key.secret in
    let leaves = leaves_of_current key.secret state.records bottom in
    let next = next_at key.secret state.records bottom in
    let done : Outcome (Unit {0}) = answered (open_state (state.records ++ Retire upto ∷ [])) tt in
    let fourth : Bool → Outcome (Unit {0}) = λ full. if full then refused state LedgerFull else done in
    let third : Bool → Outcome (Unit {0}) = λ past. if past then answered state tt else fourth (nat_lt limit (length state.records + 1)) in
    let second : Bool → Outcome (Unit {0}) = λ outside. if outside then refused state RetireRange else third (nat_le upto next) in
    let first : Bool → Outcome (Unit {0}) = λ moved. if moved then refused state MovedAway else second (nat_lt leaves upto) in
    ap (retired_key limit state upto acked) keyed
    ∙ ap (λ test. if not test then refused state Stopped else first (has_moved state.records)) open_now
    ∙ ap first stays ∙ ap second (le-ltb leaves upto inside) ∙ ap third (lt-leb upto next beyond)
    ∙ ap fourth (le-ltb limit (length state.records + 1) fits)

pub closed_retires : (limit : ℕ) (state : State) (upto : ℕ) (fate : Fate) (found : Option Key) → state.is_open ≡ false
    → retired_key limit state upto fate found ≡ refused state Stopped
closed_retires limit state upto fate (Some key) closed = rw closed refl
closed_retires limit state upto fate None closed = refl

-- ---- all parts of the law

pub once : (limit : ℕ) (world : World) → IsKept world.state.records world.handed → IsOnce limit world
once limit world kept = record {
  signatures = record {
    one_digest = λ x y uses others u v was too. one_digest world x y uses others u v kept was too;
    one_name = λ x y uses others u v was too. one_name world x y uses others u v kept was too;
    one_signature = λ x y in_x in_y. one_signature world.state.records x y (kept.recorded x in_x) (kept.recorded y in_y);
    recorded = kept.recorded;
    valid = λ x there. handed_valid world x kept there;
  };
  requests = record {
    counted = λ name message signature chance. handed_out limit world name message signature chance;
    read = λ name signature chance. signed_read limit world.state name signature chance;
    changed = λ key k bound name message chance. answers_changed limit world.state key k bound name message chance;
    repeated = λ key k bound name message chance. answers_repeated limit world.state world.handed key k bound name message chance kept;
    unread = λ key k bound name chance open_now stays keyed named none.
        open_request limit world.state key name chance (Some (k, bound)) open_now stays keyed named
        ∙ ap (repeated world.state key k bound chance) none;
    moved = λ key name chance open_now moved keyed. moved_request limit world.state key name chance open_now moved keyed;
    long_name = λ key name chance. long_request limit world.state key name chance;
    fresh = λ key level name message chance. fresh_fine limit world.state world.handed key level name message chance kept;
    again = λ name chance. drawn_again limit world.state name chance;
    draws = λ key name chance keyed drawn. drawn_most limit world.state key name chance keyed drawn;
    unbound = λ name other chance fault. binds_none limit world.state name other chance fault;
    exhausted = λ key name chance. exhausted_exactly limit world.state key name chance;
    undamaged = λ name chance slot. answers_whole limit world.state world.handed name chance slot kept;
    stops = λ name chance. failed_closes limit world.state name chance;
    closed = λ name chance. closed_key limit world.state name chance (the_key world.state.records);
  };
  retirings = record {
    retires = λ key upto. retires_beyond limit world.state key upto;
    moved = λ key upto fate. moved_retires limit world.state key upto fate;
    outside = λ key upto fate. retires_outside limit world.state key upto fate;
    no_further = λ key upto fate. retires_before limit world.state key upto fate;
    full = λ key upto fate. retires_full limit world.state key upto fate;
    starved = λ key upto. retires_starved limit world.state key upto;
    stops = λ upto fate. retiring_closes limit world.state upto fate;
    closed = λ upto fate. closed_retires limit world.state upto fate (the_key world.state.records);
  };
  openings = record {
    begins = λ spec secret chance can empty loaded drawn.
        let (public, is) = spec_public spec chance.fields secret can drawn in
        λ room fate. begins_key world.state spec secret chance public empty loaded drawn room fate is;
    sound = kept.ground;
    legal = λ chance slot. opens_legal world.state world.handed chance slot kept;
    reopens = λ key. opens_again world.state world.handed key kept;
  };
}
