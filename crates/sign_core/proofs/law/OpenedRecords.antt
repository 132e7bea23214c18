-- What holds of any legal records: they are opened, stay legal, and what is signed over them is valid.
use Rattle.std.proofs.Common.{drop, ◌≡◌, ◌∙◌, refl, sym, ap, subst, ℕ, zero, suc, ◌+◌, ◌-◌, ◌<◌, inl, inr, Bool, true, false, List, [], ◌∷◌, ◌++◌}
use Rattle.std.proofs.Common.{length, Option, Some, None, Result, Ok, Err, append-nil, arith}
use Rattle.std.specs.Prelude.{Contains, if◌then◌else◌, nat_le, nat_lt, not}
use Rattle.std.proofs.lemmas.Bool.{cases_Bool, le-leb}
use Rattle.std.specs.List.{AllByRecursion, concat}
use Rattle.std.specs.Cmp.Lexicographic.{bytes_decides}
use Rattle.std.proofs.lemmas.List.Elements.{Contains-push_cases}
use Rattle.typecodes.specs.declared.spec.Spec.{Spec}
use Rattle.state_file.specs.Laws.{bottom_of}
use Rattle.state_file.specs.declared.record.Bound.{Bound}
use Rattle.state_file.specs.declared.record.Key.{Key}
use Rattle.state_file.specs.declared.record.Record.{Record}
use Rattle.state_file.specs.declared.record.Record.TheVariants.{Bound as BoundRecord, Retire, Moved as MovedRecord}
use Rattle.sign_core.specs.declared.key.AnyPublic.{AnyPublic}
use Rattle.sign_core.specs.declared.fault.SignFault.{SignFault}
use Rattle.sign_core.specs.declared.fault.SignFault.TheVariants.{Changed, Damaged, Exhausted, KeyThere, LedgerFull, MessageRead, OutOfMemory, RandomFailed, LongName}
use Rattle.sign_core.specs.declared.fault.SignFault.TheVariants.{RandomRepeated, Stopped}
use Rattle.sign_core.specs.declared.fault.SignFault.TheVariants.{Moved as MovedAway}
use Rattle.sign_core.specs.Records.{are_same, binding_at, deepest, first_illegal, free_at, has_identifier, has_moved, has_randomizer, the_key, is_long, can_move}
use Rattle.sign_core.specs.Records.{leaves_of_current, next_at, wanted_count}
use Rattle.sign_core.specs.Events.{AllEvents, AreDraws, AreFields, IsEvent, tree_sizes}
use Rattle.sign_core.specs.Headline.{IsBoundTo, IsValidUnder}
use Rattle.sign_core.specs.Textbook.{public_of_key}
use Rattle.sign_core.specs.Openings.{Reopens}
use Rattle.sign_core.specs.Opened.{AreWellFormed, IsValidOver, OpenedLaw}
use Rattle.sign_core.specs.World.{Chance, Creation, Draw, Event, Fate, Handed, Opening, Outcome, State, World, acked, after, appended}
use Rattle.sign_core.specs.World.{create, cut_new, cut_old, drawing}
use Rattle.sign_core.specs.inner.Cases.{extended}
use Rattle.sign_core.proofs.steps.Cases.{begun, bound_level, bound_sound, bound_message, created_load, extended_identifier}
use Rattle.sign_core.proofs.steps.Cases.{extended_seed}
use Rattle.sign_core.specs.World.{first_draw, newly_handed, no_memory, open_state}
use Rattle.sign_core.specs.inner.Cases.{bound_trees}
use Rattle.sign_core.proofs.steps.Cases.{opened_illegal, opened_key, published}
use Rattle.sign_core.specs.World.{randomizer_of_fields, refused, reopen, request, requested, retire}
use Rattle.sign_core.specs.inner.Cases.{requested_binding}
use Rattle.sign_core.proofs.steps.Cases.{repeated, repeated_sound, requested_key}
use Rattle.sign_core.specs.World.{run, secret_of_fields, stop, migrate}
use Rattle.sign_core.proofs.steps.Cases.{retired_key}
use Rattle.sign_core.specs.Textbook.{Trees, damaged_at, digest_at, any_public_of, textbook_signature, current_at, trees_of}
use Rattle.sign_core.proofs.records.FirstDamaged.{names_damaged}
use Rattle.sign_core.proofs.law.KeptByRuns.{retire_can}
use Rattle.sign_core.proofs.law.DrawsOfRequests.{signed_read}
use Rattle.sign_core.proofs.records.CanFollow.{key_first}
use Rattle.sign_core.proofs.records.FirstIllegal.{none_from_legal}
use Rattle.sign_core.proofs.records.FreeLeaves.{deepest_is}
use Rattle.sign_core.proofs.moves.KeptRecords.{is_carried, key_carried, key_in_version, legal_carried, migrated_has, moved_can, sizes_carried}
use Rattle.sign_core.specs.World.{Migration, carried_over, left_alone, migrated, migrated_list, sealed}
use Rattle.state_file.specs.Carried.{with_moved}
use Rattle.state_file.specs.declared.record.Version.TheVariants.{Two}
use Rattle.std.proofs.lemmas.Option.{same_Some}
use Rattle.sign_core.proofs.law.KeptByEvents.{kept_choice}
use Rattle.sign_core.proofs.law.KeptByRequests.{first_drawn, later_drawn, not_false}
use Rattle.sign_core.proofs.records.Sizes.{key_has_sizes, public_made, randomizer_size}
use Rattle.sign_core.proofs.law.SoundChains.{AreOf, IsStanding, bound_stands, extend_stands, of_grown}
use Rattle.sign_core.proofs.records.Unchanged.{some_keyed}
use Rattle.sign_core.proofs.records.ValidSignatures.{checked}
use Rattle.sign_core.proofs.records.Parts.{IsTreeDraw, new_bound}

pub of_key : (records : List Record) → AreWellFormed records → (key : Key) × AreOf key records
of_key records are =
    (are.legal.key, record { legal = are.legal; sizes = are.sizes; keyed = key_first records are.legal.key are.legal.first })

-- ---- outcomes of a request

same_valid : (public : AnyPublic) (message other own signature : List ℕ) → Some message ≡ Some other
    → ◌≡◌ {A = Result (List ℕ) SignFault} (Ok own) (Ok signature) → IsValidUnder public message own → IsValidUnder public other signature
same_valid public message other own signature read is valid =
    let one : message ≡ other = cc in
    let two : own ≡ signature = cc in
    subst (λ m. IsValidUnder public m signature) one (subst (IsValidUnder public message) two valid)

module _ (key : Key) (public : AnyPublic) (is_public : any_public_of key ≡ Some public) where
  -- The outcome leaves legal records, and what it answers is a valid signature of what was read.
  abbrev pub Fits : (given : Option (List ℕ)) → Outcome (List ℕ) → Type 0
  Fits given outcome = AreOf key outcome.state.records
      × ((message signature : List ℕ) → given ≡ Some message → outcome.answer ≡ Ok signature → IsValidUnder public message signature)

  fits_refused : (given : Option (List ℕ)) (state : State) (fault : SignFault) → AreOf key state.records → Fits given (refused state fault)
  fits_refused given state fault are = (are, λ message signature read is. absurd (cc))

  fits_append : (given : Option (List ℕ)) (state : State) (entry : Record) (fate : Fate) (next : List Record → Outcome (List ℕ)) → AreOf key state.records
      → AreOf key (state.records ++ entry ∷ []) → Fits given (next (state.records ++ entry ∷ [])) → Fits given (appended state entry fate next)
  fits_append given state entry acked next are more later = later
  fits_append given state entry cut_old next are more later = (are, λ message signature read is. absurd (cc))
  fits_append given state entry cut_new next are more later = (more, λ message signature read is. absurd (cc))
  fits_append given state entry no_memory next are more later = (are, λ message signature read is. absurd (cc))

  -- ---- a new tree

  fits_seed : (given : Option (List ℕ)) (name : List ℕ) (below : ℕ) (records : List Record) (trees : Trees) (identifier : List ℕ) (fields : List (List ℕ))
      (fate : Fate) (next : List Record → Outcome (List ℕ)) → IsStanding key name (suc below) records → trees_of key.secret ≡ Some trees
      → AreFields tree_sizes (identifier ∷ fields) → has_identifier records identifier ≡ false
      → ((all : List Record) → IsStanding key name below all → Fits given (next all))
      → (let level = bottom_of key.secret - below in
      Fits given (extended_seed (open_state records) trees level (next_at key.secret records (level - 1)) identifier fields fate next))
  fits_seed given name below records trees identifier [] fate next ready are drawn new later = fits_refused given (open_state records) RandomFailed ready.are
  fits_seed given name below records trees identifier (seed ∷ []) fate next ready are drawn new later =
      fits_refused given (open_state records) RandomFailed ready.are
  fits_seed given name below records trees identifier (seed ∷ randomizer ∷ []) fate next ready are drawn new later =
      let more = extend_stands key name below records trees identifier seed randomizer ready are drawn new in
      fits_append given (open_state records) _ fate next ready.are more.are (later _ more)
  fits_seed given name below records trees identifier (seed ∷ randomizer ∷ extra ∷ rest) fate next ready are drawn new later =
      fits_refused given (open_state records) RandomFailed ready.are

  fits_identifier : (given : Option (List ℕ)) (name : List ℕ) (below : ℕ) (records : List Record) (trees : Trees) (fields : List (List ℕ)) (fate : Fate)
      (next : List Record → Outcome (List ℕ)) → IsStanding key name (suc below) records → trees_of key.secret ≡ Some trees → AreFields tree_sizes fields
      → ((all : List Record) → IsStanding key name below all → Fits given (next all))
      → (let level = bottom_of key.secret - below in
      Fits given (extended_identifier (open_state records) trees level (next_at key.secret records (level - 1)) fields fate next))
  fits_identifier given name below records trees [] fate next ready are drawn later = fits_refused given (open_state records) RandomFailed ready.are
  fits_identifier given name below records trees (identifier ∷ fields) fate next ready are drawn later =
      kept_choice (Fits given) (has_identifier records identifier) _ _ (λ there. fits_refused given (open_state records) RandomRepeated ready.are)
      (λ new. fits_seed given name below records trees identifier fields fate next ready are drawn new later)

  fits_extended : (given : Option (List ℕ)) (name : List ℕ) (below : ℕ) (records : List Record) (trees : Option Trees) (draw : Draw)
      (next : List Record → Outcome (List ℕ)) → IsStanding key name (suc below) records → trees_of key.secret ≡ trees → IsTreeDraw draw
      → ((all : List Record) → IsStanding key name below all → Fits given (next all))
      → Fits given (extended (open_state records) key (bottom_of key.secret - below) trees draw next)
  fits_extended given name below records None draw next ready are drawn later = fits_refused given (open_state records) RandomFailed ready.are
  fits_extended given name below records (Some trees) draw next ready are drawn later =
      fits_identifier given name below records trees draw.fields draw.fate next ready are drawn later

  -- ---- a new binding

  fits_bound : (given : Option (List ℕ)) (name : List ℕ) (records : List Record) (randomizer : Option (List ℕ)) (fate : Fate) → IsStanding key name 0 records
      → ((drawn : List ℕ) → randomizer ≡ Some drawn → (length drawn ≡ 32) × (has_randomizer key.secret drawn ≡ true))
      → Fits given (bound_message (open_state records) key name randomizer given fate)
  fits_bound given name records None fate ready drawn = fits_refused given (open_state records) RandomFailed ready.are
  fits_bound None name records (Some randomizer) fate ready drawn = fits_refused None (open_state records) MessageRead ready.are
  fits_bound (Some message) name records (Some randomizer) fate ready drawn =
      let bound = new_bound key records name (next_at key.secret records (bottom_of key.secret)) randomizer message in
      let all = records ++ BoundRecord bound ∷ [] in
      let (size, fits) = drawn randomizer refl in
      let stands = bound_stands key name message randomizer records ready size fits in
      let valid = checked all key name message (length records) bound public stands.are.legal stands.are.sizes stands.is_bound stands.sound is_public in
      fits_append (Some message) (open_state records) (BoundRecord bound) fate _ ready.are stands.are
      (stands.are, λ other signature read is. same_valid public message other (textbook_signature key all (length records) bound) signature read is valid)

  fits_bound_below : (name : List ℕ) (chance : Chance) (below : ℕ) (draws : List Draw) (records : List Record) → AllByRecursion IsTreeDraw draws
      → AreFields (32 ∷ []) chance.bound.fields → IsStanding key name below records
      → Fits chance.given (bound_trees key name chance below draws records)
  fits_bound_below name chance zero draws records trees bound ready =
      fits_bound chance.given name records (randomizer_of_fields key.secret chance.bound.fields) chance.bound.fate ready
      (λ drawn is. randomizer_size key.secret chance.bound.fields drawn bound is)
  fits_bound_below name chance (suc below) draws records trees bound ready =
      fits_extended chance.given name below records (trees_of key.secret) (first_draw draws) _ ready refl (first_drawn draws trees)
      (λ all more. fits_bound_below name chance below (drop 1 draws) all (later_drawn draws trees) bound more)

  fits_sound : (state : State) (name : List ℕ) (chance : Chance) (level : ℕ) (damaged : Option ℕ) → AreDraws chance → AreOf key state.records
      → (damaged ≡ None → IsStanding key name (bottom_of key.secret - level) state.records)
      → Fits chance.given (bound_sound state key name chance level damaged)
  fits_sound state name chance level (Some slot) drawn are ready = fits_refused chance.given state (Damaged slot) are
  fits_sound state name chance level None drawn are ready =
      fits_bound_below name chance (bottom_of key.secret - level) chance.trees state.records drawn.trees drawn.bound (ready refl)

  fits_level : (limit : ℕ) (state : State) (name : List ℕ) (chance : Chance) (level : Option ℕ) → AreDraws chance → AreOf key state.records
      → has_moved state.records ≡ false → binding_at state.records name ≡ None → deepest key.secret state.records ≡ level
      → Fits chance.given (bound_level limit state key name chance level)
  fits_level limit state name chance None drawn are stays unbound is = fits_refused chance.given state Exhausted are
  fits_level limit state name chance (Some level) drawn are stays unbound is =
      let (inside, free, others) = deepest_is key.secret state.records level is in
      let place : level ≡ bottom_of key.secret - (bottom_of key.secret - level) = omega (arith, inside) in
      let records = state.records in
      kept_choice (Fits chance.given) (nat_lt limit (length records + wanted_count key.secret level)) _ _
      (λ full. fits_refused chance.given state LedgerFull are)
      (λ room. kept_choice (Fits chance.given) (not chance.has_room) _ _ (λ none. fits_refused chance.given state OutOfMemory are)
      (λ some. fits_sound state name chance level (damaged_at key level records (current_at level records (length records))) drawn are
      (λ whole. record {
        are = are;
        stays = stays;
        unbound = unbound;
        inside = omega (arith, inside);
        free = subst (λ l. 0 < free_at key.secret records l) place free;
        sound = subst (λ l. damaged_at key l records (current_at l records (length records)) ≡ None) place whole;
      })))

  -- ---- a name that is bound

  fits_repeated_sound : (state : State) (name message : List ℕ) (k : ℕ) (bound : Bound) (damaged : Option ℕ) → AreOf key state.records
      → IsBoundTo state.records key name message k bound
      → damaged_at key (bottom_of key.secret) state.records (current_at (bottom_of key.secret) state.records k) ≡ damaged
      → Fits (Some message) (repeated_sound state key k bound damaged)
  fits_repeated_sound state name message k bound (Some slot) are is whole = fits_refused (Some message) state (Damaged slot) are
  fits_repeated_sound state name message k bound None are is whole = (
    are,
    λ other signature read gives. same_valid public message other (textbook_signature key state.records k bound) signature read gives
        (checked state.records key name message k bound public are.legal are.sizes is whole is_public),
  )

  fits_repeated : (state : State) (name : List ℕ) (k : ℕ) (bound : Bound) (chance : Chance) (given : Option (List ℕ)) → AreOf key state.records
      → binding_at state.records name ≡ Some (k, bound) → Fits given (repeated state key k bound chance given)
  fits_repeated state name k bound chance None are named = fits_refused None state MessageRead are
  fits_repeated state name k bound chance (Some message) are named =
      let digest = digest_at key state.records k bound.leaf bound.randomizer message in
      kept_choice (Fits (Some message)) (not (are_same digest bound.digest)) _ _ (λ other. fits_refused (Some message) state Changed are)
      (λ same. kept_choice (Fits (Some message)) (not chance.has_room) _ _ (λ none. fits_refused (Some message) state OutOfMemory are)
      (λ room. fits_repeated_sound state name message k bound _ are
      (record { keyed = are.keyed; named = named; digest = (bytes_decides digest bound.digest).0 (not_false _ same) }) refl))

  -- ---- any request

  fits_of : (limit : ℕ) (state : State) (name : List ℕ) (chance : Chance) (found : Option (ℕ × Bound)) → AreDraws chance → AreOf key state.records
      → has_moved state.records ≡ false → binding_at state.records name ≡ found → Fits chance.given (requested_binding limit state key name chance found)
  fits_of limit state name chance (Some (k, bound)) drawn are stays is = fits_repeated state name k bound chance chance.given are is
  fits_of limit state name chance None drawn are stays is =
      kept_choice (Fits chance.given) (is_long key name) _ _ (λ long. fits_refused chance.given state LongName are)
      (λ short. fits_level limit state name chance (deepest key.secret state.records) drawn are stays is refl)

  fits_key : (limit : ℕ) (state : State) (name : List ℕ) (chance : Chance) → AreDraws chance → AreOf key state.records
      → Fits chance.given (requested_key limit state name chance (Some key))
  fits_key limit state name chance drawn are =
      kept_choice (Fits chance.given) (not state.is_open) _ _ (λ closed. fits_refused chance.given state Stopped are)
      (λ open_now. kept_choice (Fits chance.given) (has_moved state.records) _ _ (λ moved. fits_refused chance.given state MovedAway are)
      (λ stays. fits_of limit state name chance (binding_at state.records name) drawn are stays refl))

  pub fits_request : (limit : ℕ) (state : State) (name : List ℕ) (chance : Chance) → AreDraws chance → AreOf key state.records
      → Fits chance.given (requested limit state name chance)
  fits_request limit state name chance drawn are =
      subst (λ found. Fits chance.given (requested_key limit state name chance found)) (sym are.keyed) (fits_key limit state name chance drawn are)

-- ---- creates, openings, retirings

-- where there is a record a create changes nothing
created_there : (failed : Option SignFault) (state : State) (spec : Spec) (chance : Creation) → 0 < length state.records
    → (created_load failed state spec chance).state ≡ state
created_there (Some fault) state spec chance some = refl
created_there None state spec chance some =
    ap (λ test. (if test then refused state KeyThere else drawing (concat chance.fields) (begun state chance (secret_of_fields spec chance.fields))).state)
    (le-leb 1 (length state.records) some)

published_same : (records : List Record) (public : Option AnyPublic) → (published records public).state.records ≡ records
published_same records (Some public) = refl
published_same records None = refl

opened_on_same : (records : List Record) (found : Option Key) → (opened_key records found).state.records ≡ records
opened_on_same records None = refl
opened_on_same records (Some key) = published_same records (any_public_of key)

opened_same : (state : State) (chance : Opening) (illegal : Option ℕ) → (opened_illegal state chance illegal).state.records ≡ state.records
opened_same state None None = opened_on_same state.records (the_key state.records)
opened_same state None (Some k) = refl
opened_same state (Some (slot, fault)) None = refl
opened_same state (Some (slot, fault)) (Some k) = refl

pub reopens : (state : State) → AreWellFormed state.records → Reopens state
reopens state sized =
    let records = state.records in
    let (key, are) = of_key records sized in
    let (public, is) = public_made key.secret key.root (key_has_sizes records key are.sizes are.keyed) in
    record {
      public = public;
      keyed = ap public_of_key are.keyed ∙ is;
      opens = ap (opened_illegal state None) (none_from_legal records are.legal) ∙ ap (opened_key records) are.keyed ∙ ap (published records) is;
    }

abbrev KeepsKey : {A : Type 0} → Key → Outcome A → Type 0
KeepsKey key outcome = AreOf key outcome.state.records

stays_choice : {A : Type 0} (key : Key) (test : Bool) (x y : Outcome A) → (test ≡ true → KeepsKey key x) → (test ≡ false → KeepsKey key y)
    → KeepsKey key (if test then x else y)
stays_choice key true x y first second = first refl
stays_choice key false x y first second = second refl

stays_append : {A : Type 0} (key : Key) (state : State) (entry : Record) (fate : Fate) (next : List Record → Outcome A) → AreOf key state.records
    → AreOf key (state.records ++ entry ∷ []) → KeepsKey key (next (state.records ++ entry ∷ [])) → KeepsKey key (appended state entry fate next)
stays_append key state entry acked next are more later = later
stays_append key state entry cut_old next are more later = are
stays_append key state entry cut_new next are more later = more
stays_append key state entry no_memory next are more later = are

stays_retired : (key : Key) (limit : ℕ) (state : State) (upto : ℕ) (fate : Fate) → AreOf key state.records
    → KeepsKey key (retired_key limit state upto fate (Some key))
stays_retired key limit state upto fate are =
    let records = state.records in
    let bottom = bottom_of key.secret in
    stays_choice key (not state.is_open) _ _ (λ closed. are)
    (λ open_now. stays_choice key (has_moved records) _ _ (λ moved. are)
    (λ stays. stays_choice key (nat_lt (leaves_of_current key.secret records bottom) upto) _ _ (λ outside. are)
    (λ inside. stays_choice key (nat_le upto (next_at key.secret records bottom)) _ _ (λ done. are)
    (λ beyond. stays_choice key (nat_lt limit (length records + 1)) _ _ (λ full. are)
    (λ room.
    let more = of_grown key records (Retire upto) are (retire_can key records upto stays inside beyond) tt in
    stays_append key state (Retire upto) fate _ are more more)))))

-- ---- runs

-- What every event keeps: the records are legal and of a key with this public one, and what was handed out is valid.
record IsRight (public : AnyPublic) (world : World) : Type 0 where
  key : Key
  is_public : any_public_of key ≡ Some public
  are : AreOf key world.state.records
  valid : (x : Handed) → Contains world.handed x → IsValidUnder public x.message x.signature

handed_right : (public : AnyPublic) (handed : List Handed) (name : List ℕ) (given : Option (List ℕ)) (answer : Result (List ℕ) SignFault)
    → ((message signature : List ℕ) → given ≡ Some message → answer ≡ Ok signature
    → IsValidUnder public message signature)
    → ((x : Handed) → Contains handed x → IsValidUnder public x.message x.signature)
    → (x : Handed) → Contains (handed ++ newly_handed name given answer) x → IsValidUnder public x.message x.signature
handed_right public handed name (Some message) (Ok signature) fits old x there = elim (Contains-push_cases handed _ x there) [
  | inl before ↦ old x before
  | inr it ↦ subst (λ (y : Handed). IsValidUnder public y.message y.signature) it (fits message signature refl refl)
]
handed_right public handed name None (Ok signature) fits old x there = old x (subst (λ l. Contains l x) (append-nil handed) there)
handed_right public handed name (Some message) (Err fault) fits old x there = old x (subst (λ l. Contains l x) (append-nil handed) there)
handed_right public handed name None (Err fault) fits old x there = old x (subst (λ l. Contains l x) (append-nil handed) there)

-- the records after a migration, and their key
record IsMoved (public : AnyPublic) (records : List Record) : Type 0 where
  key : Key
  is_public : any_public_of key ≡ Some public
  are : AreOf key records

moved_version : (public : AnyPublic) (key : Key) (records : List Record) (fate : Migration) → any_public_of key ≡ Some public → AreOf key records
    → can_move key.version ≡ true → IsMoved public (migrated_list records fate)
moved_version public key records left_alone is are moves = record { key = key; is_public = is; are = are }
moved_version public key records sealed is are moves = elim (cases_Bool (has_moved records)) as (λ u. IsMoved public (with_moved records)) [
  | inl moved ↦
      subst (IsMoved public) (sym (ap (λ test. if test then records else records ++ MovedRecord ∷ []) moved))
      (record { key = key; is_public = is; are = are })
  | inr stays ↦
      subst (IsMoved public) (sym (ap (λ test. if test then records else records ++ MovedRecord ∷ []) stays))
      (record { key = key; is_public = is; are = of_grown key records MovedRecord are (moved_can key records stays moves) tt })
]
moved_version public key records carried_over is are moves =
    let over = is_carried records key are.legal are.keyed in
    record {
      key = key_in_version Two key;
      is_public = is;
      are = record {
        legal = legal_carried records key over;
        sizes = sizes_carried records key over are.sizes;
        keyed = key_carried records key over;
      };
    }

right_after : (public : AnyPublic) (limit : ℕ) (world : World) (event : Event) → IsEvent event
    → IsRight public world → IsRight public (after limit world event)
right_after public limit world (create spec chance) can right =
    let same = created_there chance.failed_load world.state spec chance (some_keyed world.state.records right.key right.are.keyed) in
    record {
      key = right.key;
      is_public = right.is_public;
      are = subst (λ (s : State). AreOf right.key s.records) (sym same) right.are;
      valid = right.valid;
    }
right_after public limit world (reopen chance) can right =
    let same = opened_same world.state chance (first_illegal world.state.records) in
    record { key = right.key; is_public = right.is_public; are = subst (AreOf right.key) (sym same) right.are; valid = right.valid }
right_after public limit world (request name chance) can right =
    let (are, fits) = fits_request right.key public right.is_public limit world.state name chance can.1 right.are in
    record {
      key = right.key;
      is_public = right.is_public;
      are = are;
      valid = handed_right public world.handed name chance.given _ fits right.valid;
    }
right_after public limit world (retire upto fate) can right =
    let are = subst (λ found. KeepsKey right.key (retired_key limit world.state upto fate found)) (sym right.are.keyed)
    (stays_retired right.key limit world.state upto fate right.are) in
    record { key = right.key; is_public = right.is_public; are = are; valid = right.valid }
right_after public limit world (migrate fate) can right =
    let moved : IsMoved public (migrated world.state fate).records =
    migrated_has (IsMoved public) world.state fate (record { key = right.key; is_public = right.is_public; are = right.are })
    (λ key keyed moves.
    let same : right.key ≡ key = same_Some right.key key (sym right.are.keyed ∙ keyed) in
    moved_version public key world.state.records fate (subst (λ k. any_public_of k ≡ Some public) same right.is_public)
    (subst (λ k. AreOf k world.state.records) same right.are) moves) in
    record { key = moved.key; is_public = moved.is_public; are = moved.are; valid = right.valid }
right_after public limit world stop can right =
    record { key = right.key; is_public = right.is_public; are = right.are; valid = right.valid }

right_along : (public : AnyPublic) (limit : ℕ) (world : World) (events : List Event) → AllEvents events
    → IsRight public world → IsRight public (run limit world events)
right_along public limit world [] all right = right
right_along public limit world (event ∷ events) all right =
    right_along public limit (after limit world event) events all.1 (right_after public limit world event all.0 right)

-- ---- the law

-- a world of legal records that has handed nothing out
unfoldable pub silent : State → World
silent state = record { state = state; handed = [] }

none_handed : (public : AnyPublic) (handed : List Handed) → handed ≡ [] → (x : Handed) → Contains handed x → IsValidUnder public x.message x.signature
none_handed public [] empty x (k, within, at) = absurd (omega arith)
none_handed public (y ∷ rest) empty x there = absurd (cc)

pub after_state : (limit : ℕ) (world : World) (event : Event) → (after limit (silent world.state) event).state ≡ (after limit world event).state
unfolding silent
after_state limit world (create spec chance) = refl
after_state limit world (reopen chance) = refl
after_state limit world (request name chance) = refl
after_state limit world (retire upto fate) = refl
after_state limit world (migrate fate) = refl
after_state limit world stop = refl

stays_legal : (limit : ℕ) (world : World) (event : Event) → IsEvent event → AreWellFormed world.state.records → AreWellFormed (after limit world event).state.records
unfolding silent
stays_legal limit world event can sized =
    let (key, are) = of_key world.state.records sized in
    let (public, is) = public_made key.secret key.root (key_has_sizes world.state.records key are.sizes are.keyed) in
    let right = right_after public limit (silent world.state) event can
    (record { key = key; is_public = is; are = are; valid = none_handed public [] refl }) in
    subst (λ (s : State). AreWellFormed s.records) (after_state limit world event) (record { legal = right.are.legal; sizes = right.are.sizes })

request_valid : (limit : ℕ) (state : State) (name message signature : List ℕ) (chance : Chance) → AreWellFormed state.records → AreDraws chance
    → chance.given ≡ Some message → (requested limit state name chance).answer ≡ Ok signature → IsValidOver state.records message signature
request_valid limit state name message signature chance sized drawn given answers =
    let (key, are) = of_key state.records sized in
    let (public, is) = public_made key.secret key.root (key_has_sizes state.records key are.sizes are.keyed) in
    let (more, fits) = fits_request key public is limit state name chance drawn are in
    record { public = public; keyed = ap public_of_key are.keyed ∙ is; verifies = fits message signature given answers }

run_valid : (limit : ℕ) (world : World) (events : List Event) (x : Handed) → AreWellFormed world.state.records → world.handed ≡ [] → AllEvents events
    → Contains (run limit world events).handed x → IsValidOver world.state.records x.message x.signature
run_valid limit world events x sized empty all there =
    let (key, are) = of_key world.state.records sized in
    let (public, is) = public_made key.secret key.root (key_has_sizes world.state.records key are.sizes are.keyed) in
    let right = right_along public limit world events all
    (record { key = key; is_public = is; are = are; valid = none_handed public world.handed empty }) in
    record { public = public; keyed = ap public_of_key are.keyed ∙ is; verifies = right.valid x there }

pub opened_law : OpenedLaw
opened_law = record { reopens = reopens; legal = stays_legal; read = signed_read; valid = request_valid; handed = run_valid; damaged = names_damaged }
