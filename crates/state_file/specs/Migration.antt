-- What the steps of a migration do: a place is looked at, a file is sealed, and the place is filled.
use Rattle.std.specs.Prelude.{◌≡◌, ◌≢◌, ◌⊎◌, ℕ, ◌+◌, ◌*◌, true, false, IsTrue, IfErr, IfOk, OnOk, List, ◌∷◌, []}
use Rattle.std.specs.Prelude.{length, Result, Ok, Err}
use Rattle.state_file.specs.Carried.{carried, with_moved}
use Rattle.state_file.specs.Disk.{ChangesOnly, IsSynced, LeavesOnly, MayLeave}
use Rattle.state_file.specs.DiskCalls.{CountsFailures, OnlyReads}
use Rattle.state_file.specs.File.{HasNoKey, SpellsRecords, StandsFor}
use Rattle.state_file.specs.Filling.{CountsEither, LeftByFill}
use Rattle.state_file.specs.FileStore.{WhileStoreRuns, disk_of, has_stopped, outcome_of, records_of}
use Rattle.state_file.specs.Gates.{AddsSlot, slot_and_gate}
use Rattle.state_file.specs.Laws.{CanSign, has_moved}
use Rattle.state_file.specs.declared.disk.Disk as disk
use Rattle.state_file.specs.MigrateFault.{is_failed_migration}
use Rattle.state_file.specs.Place.{FindsPlace, RefusesPlace}
use Rattle.state_file.specs.Sealing.{Seals}
use Rattle.state_file.specs.declared.migration.MigrateFault.{MigrateFault}
use Rattle.state_file.specs.declared.migration.MigrateFault.TheVariants.{DeviceFailed}
use Rattle.state_file.specs.declared.migration.place.Place.{Place}
use Rattle.state_file.specs.declared.migration.sealed.Sealed.{Sealed}
use Rattle.state_file.specs.declared.refused.Refused.{Refused}
use Rattle.state_file.specs.declared.store.file_store.FileStore.{FileStore}

-- ---- a place

abbrev pub place_disk : {E : Type 0} {bound : _} → Place E bound → E
place_disk place = place.disk

-- the disk afterwards: the place's, or the one in a refusal
abbrev pub disk_checked : {E F : Type 0} {bound : _} → Result (Place E bound) (Refused E F) → E
disk_checked (Ok place) = place.disk
disk_checked (Err refused) = refused.given

-- A place was looked at. Nothing was written: meanwhile a crash leaves only what it could leave before.
pub record ChecksPlace {E : Type 0} {bound : _} (e : disk.Ghosts E) (given : E)
    (result : Result (Place E bound) (Refused E MigrateFault)) : Type 0 where
  pub answer : IsTrue (e.honest given)
      → FindsPlace (e.state given).content (e.state (disk_checked result)) (outcome_of result)
  pub refuses : IfErr result (λ refused. RefusesPlace refused.fault)
  pub moments : IsTrue (e.honest given)
      → LeavesOnly e.moment e.left_since given (disk_checked result) (MayLeave (e.state given))
  pub failures : CountsFailures e is_failed_migration given (disk_checked result) (outcome_of result)

-- ---- a file that is sealed

abbrev pub store_of : {D : Type 0} {bound : _} → Sealed D bound → FileStore D bound
store_of sealed = sealed.store

-- the store afterwards: the sealed one, or the one in a refusal
abbrev pub store_sealed : {D F : Type 0} {bound : _} → Result (Sealed D bound) (Refused (FileStore D bound) F)
    → FileStore D bound
store_sealed (Ok sealed) = sealed.store
store_sealed (Err refused) = refused.given

-- A store was sealed. A crash at any moment leaves the old records, or these with a Moved. A refusal other than 45
-- leaves the store as it was, and so does sealing it a second time.
pub record SealsStore {D : Type 0} {bound : _} (d : disk.Ghosts D) (old : FileStore D bound)
    (result : Result (Sealed D bound) (Refused (FileStore D bound) MigrateFault)) : Type 0 where
  pub answer : Seals (records_of old) (has_stopped old) (records_of (store_sealed result))
      (has_stopped (store_sealed result)) (d.failures (disk_of old)) (d.failures (disk_of (store_sealed result)))
      (outcome_of result)
  pub stays : IfErr result (λ refused. refused.fault ≢ DeviceFailed → refused.given ≡ old)
  pub stays_sealed : has_moved (records_of old) ≡ true → store_sealed result ≡ old
  pub moments : WhileStoreRuns d old
      (LeavesOnly d.moment d.left_since (disk_of old) (disk_of (store_sealed result))
      (λ c. StandsFor (records_of old) c ⊎ StandsFor (with_moved (records_of old)) c))
  pub bytes : WhileStoreRuns d old
      (LeavesOnly d.moment d.left_since (disk_of old) (disk_of (store_sealed result))
      (ChangesOnly (slot_and_gate (length (records_of old)) ∷ []) (d.state (disk_of old)).content))
  pub adds : IsTrue (d.honest (disk_of old)) → has_moved (records_of old) ≡ false
      → IfOk result (λ sealed. AddsSlot (length (records_of old)) (d.state (disk_of old)).content
      (d.state (disk_of (store_of sealed))))
  pub failures : CountsFailures d is_failed_migration (disk_of old) (disk_of (store_sealed result)) (outcome_of result)

-- ---- a place that is filled

-- A place was filled with a sealed file's records, or a device failed. The old disk is only read: a crash leaves its
-- records, which end with a Moved. It leaves the new place without a key, or with all that is carried over; after Ok,
-- with that.
pub record FillsPlace {D E : Type 0} (d : disk.Ghosts D) (e : disk.Ghosts E) (sealed : Sealed D d) (place : Place E e)
    (old : D) (new : E) (result : Result ℕ MigrateFault) : Type 0 where
  pub old_reads : IsTrue (d.honest (disk_of (store_of sealed)))
      → OnlyReads d.state d.moment d.left_since (disk_of (store_of sealed)) old
  pub old_moments : IsTrue (d.honest (disk_of (store_of sealed)))
      → LeavesOnly d.moment d.left_since (disk_of (store_of sealed)) old
      (λ c. SpellsRecords c (records_of (store_of sealed)))
  pub new_moments : IsTrue (e.honest (place_disk place))
      → LeavesOnly e.moment e.left_since (place_disk place) new
      (LeftByFill (d.honest (disk_of (store_of sealed))) (records_of (store_of sealed))
      (256 * length (carried (records_of (store_of sealed))) + 1) (e.state (place_disk place)).content)
  pub done : IsTrue (d.honest (disk_of (store_of sealed))) → IsTrue (e.honest (place_disk place))
      → OnOk result
      (IsSynced (e.state new) × SpellsRecords (e.state new).content (carried (records_of (store_of sealed))))
  pub number : IfOk result (λ n. n ≡ length (carried (records_of (store_of sealed))))
  pub failures : CountsEither (d.honest (disk_of (store_of sealed))) (d.failures (disk_of (store_of sealed)))
      (d.failures old) (e.failures (place_disk place)) (e.failures new) result
  pub old_past_ends : IsTrue (d.honest (disk_of (store_of sealed)))
      → d.past_ends old ≡ d.past_ends (disk_of (store_of sealed))
  pub new_past_ends : e.past_ends new ≡ e.past_ends (place_disk place)
  pub old_honest : d.honest old ≡ d.honest (disk_of (store_of sealed))
  pub new_honest : e.honest new ≡ e.honest (place_disk place)

-- ---- laws

-- While there is a place, a crash leaves no key on its disk, and so nothing that can sign.
pub record PlaceLaw {E : Type 0} (e : disk.Ghosts E) : Type 0 where
  pub no_key : (place : Place E e) (c : List ℕ) → IsTrue (e.honest (place_disk place))
      → e.left_since (place_disk place) (e.moment (place_disk place)) c → HasNoKey c
  pub signs_nothing : (place : Place E e) (c : List ℕ) → IsTrue (e.honest (place_disk place))
      → e.left_since (place_disk place) (e.moment (place_disk place)) c → CanSign c → ⊥

-- A sealed file's records end with a Moved, and its store runs. A crash on its disk leaves these records, and so
-- nothing that can sign.
pub record SealedLaw {D : Type 0} (d : disk.Ghosts D) : Type 0 where
  pub moved : (sealed : Sealed D d) → has_moved (records_of (store_of sealed)) ≡ true
  pub running : (sealed : Sealed D d) → has_stopped (store_of sealed) ≡ false
  pub leaves : (sealed : Sealed D d) (c : List ℕ) → IsTrue (d.honest (disk_of (store_of sealed)))
      → d.left_since (disk_of (store_of sealed)) (d.moment (disk_of (store_of sealed))) c
      → SpellsRecords c (records_of (store_of sealed))
  pub signs_nothing : (sealed : Sealed D d) (c : List ℕ) → IsTrue (d.honest (disk_of (store_of sealed)))
      → d.left_since (disk_of (store_of sealed)) (d.moment (disk_of (store_of sealed))) c → CanSign c → ⊥
