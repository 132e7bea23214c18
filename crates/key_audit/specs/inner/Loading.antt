-- What an audit or a listing loads from a store: its records, and tags of them.
use Rattle.std.specs.Prelude.{◌≡◌, ℕ, ◌<◌, ◌≤◌, Bool, false, IsTrue, List, [], length}
use Rattle.std.specs.Prelude.{Option, Some, None, Result, Ok, Err}
use Rattle.state_file.specs.declared.disk.Disk as disk
use Rattle.state_file.specs.declared.record.Record.{Record}
use Rattle.state_file.specs.declared.store.file_store.FileStore.{FileStore}
use Rattle.state_file.specs.FileStore.{disk_of, given_of, loads_of, records_of, unreadable_of}
use Rattle.state_file.specs.Store.{IsRecordAt}
use Rattle.sign_core.specs.Records.{first_illegal}
use Rattle.key_audit.specs.declared.report.AuditFault.{AuditFault}
use Rattle.key_audit.specs.declared.report.AuditFault.TheVariants.{Stopped, NoKey, Damaged, Illegal, DeviceFailed}
use Rattle.key_audit.specs.declared.report.AuditFault.TheVariants.{OutOfMemory}
use Rattle.key_audit.specs.Audit.{IsSlotTag, ReadsStore}

abbrev pub FindsRecord : (honest : Bool) → List Record → (k : ℕ) → Result (Option Record) AuditFault → Type 0
FindsRecord honest list k (Ok None) = length list ≤ k
FindsRecord honest list k (Ok (Some entry)) = (k < length list) × IsRecordAt honest list k entry
FindsRecord honest list k (Err Stopped) = Unit {0}
FindsRecord honest list k (Err (Damaged slot)) = (honest ≡ false) × (slot ≡ k) × (k < length list)
FindsRecord honest list k (Err DeviceFailed) = Unit {0}
FindsRecord honest list k (Err _) = ⊥

pub record LoadsSlot {D : Type 0} (d : disk.Ghosts D) (old new : FileStore D d) (k : ℕ)
    (answer : Result (Option Record) AuditFault) : Type 0 where
  pub store : ReadsStore d old new answer
  pub finds : FindsRecord (d.honest (disk_of old)) (records_of old) k answer

-- As many records as a store has, and over an honest disk its own.
pub record AreLoaded (honest : Bool) (list records : List Record) : Type 0 where
  pub same_count : length records ≡ length list
  pub same : IsTrue honest → records ≡ list

-- why records weren't loaded
abbrev pub StopsLoading : (honest : Bool) → List Record → AuditFault → Type 0
StopsLoading honest list Stopped = Unit {0}
StopsLoading honest list (Damaged k) = (honest ≡ false) × (k < length list)
StopsLoading honest list DeviceFailed = Unit {0}
StopsLoading honest list _ = ⊥

-- why loaded records aren't a key's
abbrev pub IsRefusedLedger : List Record → AuditFault → Type 0
IsRefusedLedger records NoKey = records ≡ []
IsRefusedLedger records (Illegal k) = first_illegal records ≡ Some k
IsRefusedLedger records OutOfMemory = 0 < length records
IsRefusedLedger records _ = ⊥

-- No record is loaded.
pub record KeepsLoads {D : Type 0} {bound : _} (old new : FileStore D bound) : Type 0 where
  pub loads : loads_of new ≡ loads_of old
  pub given : given_of new ≡ given_of old
  pub unreadable : unreadable_of new ≡ unreadable_of old

-- ---- tags

abbrev pub GivesTag : (IsTagOf : ℕ → List ℕ → Type 0) → (honest : Bool) → (k : ℕ) → Result (List ℕ) AuditFault → Type 0
GivesTag IsTagOf honest k (Ok tag) = IsTrue honest → IsTagOf k tag
GivesTag IsTagOf honest k (Err Stopped) = Unit {0}
GivesTag IsTagOf honest k (Err DeviceFailed) = Unit {0}
GivesTag IsTagOf honest k (Err _) = ⊥

pub record ReadsSlotTag {D : Type 0} (d : disk.Ghosts D) (old new : FileStore D d) (k : ℕ)
    (answer : Result (List ℕ) AuditFault) : Type 0 where
  pub store : ReadsStore d old new answer
  pub loads : KeepsLoads old new
  pub gives : GivesTag (IsSlotTag d (disk_of old)) (d.honest (disk_of old)) k answer
