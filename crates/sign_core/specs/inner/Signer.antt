-- What private functions alone cite of `Signer.antt`'s subject.
use Rattle.std.specs.Prelude.{◌≡◌, ℕ, ◌+◌, ◌<◌, ◌≤◌, Bool, true, false, ◌||◌, List, [], ◌∷◌, ◌++◌, length, Option}
use Rattle.std.specs.Prelude.{Some, None, Result, Ok, Err}
use Rattle.std.specs.List.{concat}
use Rattle.typecodes.specs.declared.spec.Spec.{Spec}
use Rattle.state_file.specs.declared.record.Key.{Key}
use Rattle.state_file.specs.declared.record.Record.{Record}
use Rattle.state_file.specs.declared.record.Secret.{Secret}
use Rattle.state_file.specs.declared.refused.Refused.{Refused}
use Rattle.state_file.specs.declared.store.Store as store
use Rattle.state_file.specs.Disk.{Counts}
use Rattle.state_file.specs.Laws.{bottom_of}
use Rattle.state_file.specs.Store.{AddsGiven, AddsLoad, Collects, IsRecordAt, is_fault}
use Rattle.sign_core.specs.declared.key.AnyPublic.{AnyPublic}
use Rattle.sign_core.specs.declared.fault.SignFault.{SignFault}
use Rattle.sign_core.specs.declared.fault.SignFault.TheVariants.{DeviceFailed, NoMemoryToOpen, OutOfMemory, KeyThere}
use Rattle.sign_core.specs.declared.fault.SignFault.TheVariants.{RandomFailed, StoreFailed, Illegal, Moved, Stopped}
use Rattle.sign_core.specs.declared.fault.SignFault.TheVariants.{NoKey, Unreadable}
use Rattle.sign_core.specs.declared.ledger.LedgerFault.{LedgerFault}
use Rattle.sign_core.specs.declared.ledger.LedgerFault.TheVariants.{Empty, Illegal as IllegalRecord}
use Rattle.sign_core.specs.declared.ledger.LedgerFault.TheVariants.{OutOfMemory as NoMemory}
use Rattle.sign_core.specs.declared.source.Source as source
use Rattle.sign_core.specs.Source.{Provides}
use Rattle.sign_core.specs.Records.{can_follow, the_key, leaves_of_current, next_at}
use Rattle.sign_core.specs.Events.{AreFields, key_sizes}
use Rattle.sign_core.specs.Textbook.{public_of_key}
use Rattle.sign_core.specs.World.{Fate, Outcome, State, answered, appended, open_state, secret_of_fields}
use Rattle.sign_core.specs.inner.Ledger.{LacksRoom}
use Rattle.sign_core.specs.Ledger.{Table, TakesMemory}
use Rattle.sign_core.specs.Signer.{View, is_random_failed, UsesMemory, unreadable_slot, state_of, is_store_failed}
use Rattle.sign_core.specs.Signer.{is_out_of_memory, is_device_failed, LeavesOld, Ends, IsAnswered, random_of_result}
use Rattle.sign_core.specs.Signer.{is_stopped, store_of_result}

abbrev pub is_no_memory : SignFault → Bool
is_no_memory NoMemoryToOpen = true
is_no_memory _ = false

abbrev pub added : State → Record → Fate → Outcome (Unit {0})
added state entry fate = appended state entry fate (λ records. answered (open_state records) tt)

-- A signer appends a record, with some fate, and takes it up where the append is acknowledged.
pub record Adds {S R : Type 0} (g : store.Ghosts S) (old new : View S R) (entry : Record)
    (answer : Result (Unit {0}) SignFault) : Type 0 where
  pub fate : Fate
  pub ends : Ends g old new (added (state_of old) entry fate) answer
  pub random : new.random ≡ old.random
  pub refusals : Counts is_out_of_memory (g.refusals old.store) (g.refusals new.store) answer
  pub memory : UsesMemory old new
  pub untaken : (TakesMemory entry → ⊥) → new.spare ≡ old.spare

-- why a signer refuses at once: it is closed, or its records go on in another file
abbrev pub Hinders : (is_open has_moved : Bool) → SignFault → Type 0
Hinders is_open has_moved Stopped = is_open ≡ false
Hinders is_open has_moved Moved = (is_open ≡ true) × (has_moved ≡ true)
Hinders is_open has_moved _ = ⊥

-- The next leaf of the current bottom tree, and how many leaves that has.
abbrev pub AreBottomLeaves : List Record → ℕ × ℕ → Type 0
AreBottomLeaves records bottom = (key : Key) → the_key records ≡ Some key
    → (bottom.0 ≡ next_at key.secret records (bottom_of key.secret))
    × (bottom.1 ≡ leaves_of_current key.secret records (bottom_of key.secret))

-- What looking for a key in a store finds, by the answer: none is there, one is, or the load failed.
abbrev pub FindsNone : {A : Type 0} (list : List Record) (honest old_stopped new_stopped : Bool)
    (failures_before failures_after : ℕ) → Result A SignFault → Type 0
FindsNone list honest old_stopped new_stopped before after (Ok _) =
    (old_stopped ≡ false) × (length list ≡ 0) × (new_stopped ≡ false) × (after ≡ before)
FindsNone list honest old_stopped new_stopped before after (Err KeyThere) =
    (old_stopped ≡ false) × (1 ≤ length list) × (after ≡ before)
FindsNone list honest old_stopped new_stopped before after (Err Stopped) = (old_stopped ≡ true) × (after ≡ before)
FindsNone list honest old_stopped new_stopped before after (Err (Unreadable slot)) =
    (old_stopped ≡ false) × (honest ≡ false) × (slot ≡ 0) × (0 < length list) × (after ≡ before)
FindsNone list honest old_stopped new_stopped before after (Err StoreFailed) =
    (old_stopped ≡ false) × (after ≡ before + 1)
FindsNone list honest old_stopped new_stopped before after (Err OutOfMemory) =
    (old_stopped ≡ false) × (after ≡ before)
FindsNone list honest old_stopped new_stopped before after (Err _) = ⊥

pub record LooksForKey {S A : Type 0} (g : store.Ghosts S) (old new : S) (answer : Result A SignFault) : Type 0 where
  pub finds : FindsNone (g.list old) (g.honest old) (g.stopped old) (g.stopped new) (g.failures old) (g.failures new)
      answer
  pub stopped : g.stopped new ≡ (is_fault is_store_failed answer || g.stopped old)
  pub list : g.list new ≡ g.list old
  pub moments : LeavesOld g old new
  pub refusals : Counts is_out_of_memory (g.refusals old) (g.refusals new) answer
  pub unreadable : Collects unreadable_slot (g.unreadable old) (g.unreadable new) answer
  pub asked : AddsLoad is_stopped 0 (g.loads old) (g.loads new) answer
  pub honest : g.honest new ≡ g.honest old
  pub most : g.most new ≡ g.most old
  pub stays : g.stopped old ≡ true → new ≡ old

-- The drawn fields make the secret; or they are fewer, where the source fails.
abbrev pub IsDrawn : Spec → (fields : List (List ℕ)) → Result Secret SignFault → Type 0
IsDrawn spec fields (Ok secret) = secret_of_fields spec fields ≡ Some secret
IsDrawn spec fields (Err RandomFailed) = secret_of_fields spec fields ≡ None
IsDrawn spec fields (Err _) = ⊥

pub record DrawsSecret {R : Type 0} (r : source.Ghosts R) (spec : Spec) (old new : R) (answer : Result Secret SignFault)
    : Type 0 where
  pub fields : List (List ℕ)
  pub drawn : IsDrawn spec fields answer
  pub possible : AreFields (key_sizes spec) fields
  pub source : Provides (r.upcoming old) (concat fields) (r.upcoming new)
  pub failures : Counts is_random_failed (r.failures old) (r.failures new) answer

-- What the load of record k gives in an opening, by the answer.
abbrev pub LoadsAt : (honest : Bool) (list : List Record) (old_stopped : Bool) (k : ℕ) (new_stopped : Bool)
    (failures_before failures_after : ℕ) → Result (Option Record) SignFault → Type 0
LoadsAt honest list old_stopped k new_stopped before after (Ok None) =
    (old_stopped ≡ false) × (length list ≤ k) × (new_stopped ≡ false) × (after ≡ before)
LoadsAt honest list old_stopped k new_stopped before after (Ok (Some entry)) =
    (old_stopped ≡ false) × (k < length list) × IsRecordAt honest list k entry × (new_stopped ≡ false)
    × (after ≡ before)
LoadsAt honest list old_stopped k new_stopped before after (Err Stopped) = (old_stopped ≡ true) × (after ≡ before)
LoadsAt honest list old_stopped k new_stopped before after (Err (Unreadable slot)) =
    (old_stopped ≡ false) × (honest ≡ false) × (slot ≡ k) × (k < length list) × (after ≡ before)
LoadsAt honest list old_stopped k new_stopped before after (Err DeviceFailed) =
    (old_stopped ≡ false) × (after ≡ before + 1)
LoadsAt honest list old_stopped k new_stopped before after (Err NoMemoryToOpen) =
    (old_stopped ≡ false) × (after ≡ before)
LoadsAt honest list old_stopped k new_stopped before after (Err _) = ⊥

pub record LoadsRecord {S : Type 0} (g : store.Ghosts S) (old new : S) (k : ℕ)
    (answer : Result (Option Record) SignFault) : Type 0 where
  pub loads : LoadsAt (g.honest old) (g.list old) (g.stopped old) k (g.stopped new) (g.failures old) (g.failures new)
      answer
  pub stopped : g.stopped new ≡ (is_fault is_device_failed answer || g.stopped old)
  pub list : g.list new ≡ g.list old
  pub moments : LeavesOld g old new
  pub refusals : Counts is_no_memory (g.refusals old) (g.refusals new) answer
  pub unreadable : Collects unreadable_slot (g.unreadable old) (g.unreadable new) answer
  pub asked : AddsLoad is_stopped k (g.loads old) (g.loads new) answer
  pub gave : AddsGiven (g.given old) (g.given new) answer
  pub honest : g.honest new ≡ g.honest old
  pub most : g.most new ≡ g.most old
  pub stays : g.stopped old ≡ true → new ≡ old

-- what an opening answers where records aren't taken up
abbrev pub loading_fault : LedgerFault → SignFault
loading_fault Empty = NoKey
loading_fault (IllegalRecord k) = Illegal k
loading_fault NoMemory = NoMemoryToOpen

-- Taking up the next record, by the answer: it follows the others; or it can't, and its place is answered; or it could,
-- and there is no memory for it.
abbrev pub TakesUpLoaded : {A : Type 0} (old new : Table) (entry : Record) → Result A SignFault → Type 0
TakesUpLoaded old new entry (Ok _) =
    (can_follow (Some old.key) old.records entry ≡ true) × (new.key ≡ old.key)
    × (new.records ≡ old.records ++ entry ∷ [])
TakesUpLoaded old new entry (Err (Illegal k)) =
    (can_follow (Some old.key) old.records entry ≡ false) × (k ≡ length old.records) × (new.records ≡ old.records)
TakesUpLoaded old new entry (Err NoMemoryToOpen) =
    (can_follow (Some old.key) old.records entry ≡ true) × LacksRoom entry old × (new.records ≡ old.records)
TakesUpLoaded old new entry (Err _) = ⊥

-- The records are taken up, and their key has a public one; or the fault is answered.
abbrev pub IsTakenUp : Result Table SignFault → Outcome AnyPublic → Type 0
IsTakenUp (Ok table) outcome = (public : AnyPublic) × (outcome.answer ≡ Ok public)
    × (public_of_key (the_key table.records) ≡ Some public) × (table.records ≡ outcome.acknowledged)
IsTakenUp (Err fault) outcome = outcome.answer ≡ Err fault

-- A signer has the store and the source, or its refusal gives them back; and its answer is that of its records.
pub record HoldsParts {S R : Type 0} (store : S) (random : R) (records : Result Table SignFault)
    (result : Result (View S R) (Refused (S × R) SignFault)) : Type 0 where
  pub store_is : store_of_result result ≡ store
  pub random_is : random_of_result result ≡ random
  pub answer : (outcome : Outcome AnyPublic) → IsTakenUp records outcome → IsAnswered result outcome
