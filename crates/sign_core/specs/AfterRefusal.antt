-- What stands after a refusal: the old records; after a request for a new name also the trees that it had begun; and
-- perhaps the record whose append failed. And what was drawn and read before it.
use Rattle.std.specs.Prelude.{◌≡◌, ◌≢◌, ◌⊎◌, ℕ, suc, ◌+◌, ◌-◌, ◌<◌, ◌≤◌, List, [], ◌∷◌, ◌++◌, length, take, slice_get}
use Rattle.std.specs.Prelude.{Some, None, Err, Bool, true, false, IsSome}
use Rattle.std.specs.List.{concat}
use Rattle.typecodes.specs.declared.spec.Spec.{Spec}
use Rattle.typecodes.specs.Spec.{IsSpec}
use Rattle.state_file.specs.Laws.{bottom_of}
use Rattle.state_file.specs.declared.record.Bound.{Bound}
use Rattle.state_file.specs.declared.record.Key.{Key}
use Rattle.state_file.specs.declared.record.Record.{Record}
use Rattle.state_file.specs.declared.record.Record.TheVariants.{Bound as BoundRecord, Key as KeyRecord, Retire}
use Rattle.state_file.specs.declared.record.Secret.{Secret}
use Rattle.state_file.specs.declared.record.Version.{Version}
use Rattle.sign_core.specs.declared.fault.SignFault.{SignFault}
use Rattle.sign_core.specs.declared.fault.SignFault.TheVariants.{MessageRead, OutOfMemory, RandomRepeated, StoreFailed}
use Rattle.sign_core.specs.Events.{AreFields, key_sizes}
use Rattle.sign_core.specs.Requests.{BeginsTree, BindsName, bytes_drawn}
use Rattle.sign_core.specs.Retirings.{IsActive}
use Rattle.sign_core.specs.Records.{binding_at, deepest}
use Rattle.sign_core.specs.World.{Chance, Creation, Draw, Fate, Opening, Outcome, State, created, new_key, opened}
use Rattle.sign_core.specs.World.{randomizer_of_fields, requested, retired, secret_of_fields}

-- These records were acknowledged and stand. Only after 25 one more may stand, the one whose append failed, and it has
-- this property.
pub record LeavesRecords {A : Type 0} (records : List Record) (IsWanted : Record → Type 0) (outcome : Outcome A)
    : Type 0 where
  pub acknowledged : outcome.acknowledged ≡ records
  pub whole : outcome.failed ≡ None → outcome.state.records ≡ records
  pub cut : (entry : Record) → outcome.failed ≡ Some entry → (outcome.answer ≡ Err StoreFailed) × IsWanted entry
      × ((outcome.state.records ≡ records) ⊎ (outcome.state.records ≡ records ++ entry ∷ []))

-- ---- a request for a new name

-- A signer is open on the records of this key, the name isn't bound, and this level is the deepest with a free leaf.
pub record WantsRecords (state : State) (name : List ℕ) (key : Key) (level : ℕ) : Type 0 where
  pub active : IsActive state key
  pub unbound : binding_at state.records name ≡ None
  pub level_is : deepest key.secret state.records ≡ Some level

-- The record begins a tree i + 1 levels below this one, made of what a request drew for it.
pub record BeginsDrawn (key : Key) (before : List Record) (level : ℕ) (draws : List Draw) (i : ℕ) (entry : Record)
    : Type 0 where
  pub draw : Draw
  pub is_draw : slice_get draws i ≡ Some draw
  pub begins : BeginsTree key before (level + i + 1) draw.fields entry

-- The record binds the name to the message that was given.
pub record BindsGiven (key : Key) (before : List Record) (name : List ℕ) (chance : Chance) (entry : Record)
    : Type 0 where
  pub bound : Bound
  pub is : entry ≡ BoundRecord bound
  pub message : List ℕ
  pub given : chance.given ≡ Some message
  pub binds : BindsName key before name message chance.bound.fields bound

-- the next record after these trees: the next tree's, or after the last one the name's binding
abbrev pub IsNextWanted : Key → (before : List Record) → (level : ℕ) → (name : List ℕ) → Chance
    → (trees : List Record) → Record → Type 0
IsNextWanted key before level name chance trees entry =
    ((length trees < bottom_of key.secret - level)
    × BeginsDrawn key (before ++ trees) level chance.trees (length trees) entry)
    ⊎ ((length trees ≡ bottom_of key.secret - level) × BindsGiven key (before ++ trees) name chance entry)

-- The old records stand, and after them the begun trees, from the top down, each made of its draw; they bind no name.
-- The record whose append failed is the next one.
pub record LeavesTrees (key : Key) (before : List Record) (level : ℕ) (name : List ℕ) (chance : Chance)
    (outcome : Outcome (List ℕ)) : Type 0 where
  pub trees : List Record
  pub within_limit : length trees ≤ bottom_of key.secret - level
  pub each : (i : ℕ) (entry : Record) → slice_get trees i ≡ Some entry
      → BeginsDrawn key (before ++ take i trees) level chance.trees i entry
  pub leaves : LeavesRecords (before ++ trees) (IsNextWanted key before level name chance trees) outcome
  pub unbound : (other : List ℕ) → binding_at (before ++ trees) other ≡ binding_at before other

-- what is drawn for the begun trees and for the next record, which may fail
abbrev pub AreDrawnFor : (below : ℕ) → Chance → (begun : ℕ) → (drawn : List ℕ) → Type 0
AreDrawnFor below chance begun drawn =
    ((begun < below) × (drawn ≡ bytes_drawn (take (suc begun) chance.trees)))
    ⊎ ((begun ≡ below) × (drawn ≡ bytes_drawn (take begun chance.trees) ++ concat chance.bound.fields))

-- A request for a new name leaves the trees that it began. It drew all fields of these and of the next record; after 24
-- see `DrewAgain`.
pub record LeavesBegun (state : State) (name : List ℕ) (chance : Chance) (outcome : Outcome (List ℕ)) : Type 0 where
  pub key : Key
  pub level : ℕ
  pub wants : WantsRecords state name key level
  pub left : LeavesTrees key state.records level name chance outcome
  pub drawn : outcome.answer ≢ Err RandomRepeated
      → AreDrawnFor (bottom_of key.secret - level) chance (length left.trees) outcome.drawn

-- What a request for a name leaves: the old records, with nothing drawn; or what it began.
abbrev pub LeavesRequested : State → (name : List ℕ) → Chance → Outcome (List ℕ) → Type 0
LeavesRequested state name chance outcome =
    (LeavesRecords state.records (λ entry. ⊥) outcome × (outcome.drawn ≡ [])) ⊎ LeavesBegun state name chance outcome

-- The refusals that can follow a new name's message: it can't be read (27), or its binding's append fails (25, 29).
abbrev pub is_after_message : SignFault → Bool
is_after_message MessageRead = true
is_after_message StoreFailed = true
is_after_message OutOfMemory = true
is_after_message _ = false

-- The turn of a new name's message had come: memory was granted, each new tree is recorded, and C is drawn.
pub record IsInTurn (state : State) (name : List ℕ) (chance : Chance) (outcome : Outcome (List ℕ)) : Type 0 where
  pub key : Key
  pub level : ℕ
  pub wants : WantsRecords state name key level
  pub room : chance.has_room ≡ true
  pub trees : length state.records + (bottom_of key.secret - level) ≤ length outcome.acknowledged
  pub randomizer : IsSome (randomizer_of_fields key.secret chance.bound.fields)
  pub refusals : (fault : SignFault) → outcome.answer ≡ Err fault → is_after_message fault ≡ true

-- ---- the other events

-- the Key with this version and the drawn secret
abbrev pub IsDrawnKey : Version → Spec → (fields : List (List ℕ)) → (drawn : List ℕ) → Record → Type 0
IsDrawnKey version spec fields drawn entry = (secret : Secret) × (secret_of_fields spec fields ≡ Some secret)
    × (drawn ≡ concat fields) × (entry ≡ KeyRecord (new_key version secret))

-- ---- the law

abbrev pub IsRefusal : {A : Type 0} → Outcome A → Type 0
IsRefusal outcome = (fault : SignFault) × (outcome.answer ≡ Err fault)

-- What a refused event leaves: a request the trees that it had begun, any other event the old records; and each perhaps
-- the record whose append failed.
pub record AfterRefusalLaw : Type 0 where
  pub request : (limit : ℕ) (state : State) (name : List ℕ) (chance : Chance)
      → IsRefusal (requested limit state name chance)
      → LeavesRequested state name chance (requested limit state name chance)
  pub retire : (limit : ℕ) (state : State) (upto : ℕ) (fate : Fate) → IsRefusal (retired limit state upto fate)
      → LeavesRecords state.records (λ entry. entry ≡ Retire upto) (retired limit state upto fate)
  pub create : (state : State) (spec : Spec) (chance : Creation) → IsSpec spec
      → AreFields (key_sizes spec) chance.fields → IsRefusal (created state spec chance)
      → LeavesRecords state.records (IsDrawnKey chance.version spec chance.fields (created state spec chance).drawn)
      (created state spec chance)
  pub opening : (state : State) (chance : Opening) → IsRefusal (opened state chance)
      → LeavesRecords state.records (λ entry. ⊥) (opened state chance)
  -- no refusal that comes before a new name's message reads it
  pub unread : (limit : ℕ) (state : State) (name : List ℕ) (chance : Chance) → binding_at state.records name ≡ None
      → (requested limit state name chance).is_read ≡ true
      → IsInTurn state name chance (requested limit state name chance)
  -- A create draws all fields of its secret, or fewer where the source fails (23). It draws none before it knows that
  -- no record is there.
  pub create_draws : (state : State) (spec : Spec) (chance : Creation) → chance.failed_load ≡ None → state.records ≡ []
      → (created state spec chance).drawn ≡ concat chance.fields
  pub create_draws_none : (state : State) (spec : Spec) (chance : Creation)
      → (chance.failed_load ≢ None) ⊎ (1 ≤ length state.records) → (created state spec chance).drawn ≡ []
