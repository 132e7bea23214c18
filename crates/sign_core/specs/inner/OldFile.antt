-- What private functions alone cite of `OldFile.antt`'s subject.
use Rattle.std.specs.Prelude.{◌≡◌, ℕ, false, IsTrue, IfErr, IfOk, List, []}
use Rattle.std.specs.Prelude.{Some, Result, Ok, Err}
use Rattle.state_file.specs.Disk.{DiskState, LeavesOnly, MayLeave, settled}
use Rattle.state_file.specs.DiskCalls.{CountsFailures}
use Rattle.state_file.specs.FileStore.{disk_of_result, has_stopped, outcome_of, records_of}
use Rattle.state_file.specs.Laws.{IsLegal}
use Rattle.state_file.specs.MigrateFault.{is_failed_migration}
use Rattle.state_file.specs.Slot.{file_version}
use Rattle.state_file.specs.declared.disk.Disk as disk
use Rattle.state_file.specs.declared.migration.MigrateFault.{MigrateFault}
use Rattle.state_file.specs.declared.migration.MigrateFault.TheVariants.{NoKey, NotKeyFile, Version as VersionFault}
use Rattle.state_file.specs.declared.migration.MigrateFault.TheVariants.{Damaged, Illegal, DeviceFailed, OutOfMemory}
use Rattle.state_file.specs.declared.record.Record.{Record}
use Rattle.state_file.specs.declared.record.Version.TheVariants.{One, Two}
use Rattle.state_file.specs.declared.refused.Refused.{Refused}
use Rattle.state_file.specs.declared.store.file_store.FileStore.{FileStore}
use Rattle.sign_core.specs.Ledger.{RunsOutOfMemory}
use Rattle.sign_core.specs.Records.{first_illegal}
use Rattle.sign_core.specs.OldFile.{SpellsMovable, ReportsOld}

-- What each refusal says of the records. That they are legal comes before their version.
abbrev pub RefusesRecords : List Record → MigrateFault → Type 0
RefusesRecords records NoKey = records ≡ []
RefusesRecords records VersionFault = IsLegal records × (file_version records ≡ Two)
RefusesRecords records (Illegal k) = first_illegal records ≡ Some k
RefusesRecords records OutOfMemory = RunsOutOfMemory records
RefusesRecords records _ = ⊥

-- The answer: they are legal and of version 1, or are refused.
abbrev pub JudgesRecords : {A : Type 0} → List Record → Result A MigrateFault → Type 0
JudgesRecords records (Ok _) = IsLegal records × (file_version records ≡ One)
JudgesRecords records (Err fault) = RefusesRecords records fault

-- The refusals of an old place, over any disk.
abbrev pub RefusesOld : MigrateFault → Type 0
RefusesOld NoKey = Unit {0}
RefusesOld NotKeyFile = Unit {0}
RefusesOld VersionFault = Unit {0}
RefusesOld (Damaged k) = Unit {0}
RefusesOld (Illegal k) = Unit {0}
RefusesOld DeviceFailed = Unit {0}
RefusesOld OutOfMemory = Unit {0}
RefusesOld _ = ⊥

-- Unless the device failed, a disk's content is what it was, all of it synced.
abbrev pub KeepsContent : {A : Type 0} → (content : List ℕ) → (after : DiskState) → Result A MigrateFault → Type 0
KeepsContent content after (Ok _) = after ≡ settled content
KeepsContent content after (Err DeviceFailed) = Unit {0}
KeepsContent content after (Err _) = after ≡ settled content

-- The old place was opened, and its records were judged. Nothing was written: meanwhile a crash leaves only what it
-- could leave before.
pub record OpensOld {D : Type 0} (d : disk.Ghosts D) (given : D)
    (result : Result (FileStore D d) (Refused D MigrateFault)) : Type 0 where
  pub found : IsTrue (d.honest given)
      → IfOk result (λ store. SpellsMovable (d.state given).content (records_of store))
  pub refuses : IfErr result (λ refused. RefusesOld refused.fault)
  pub reports : IsTrue (d.honest given)
      → IfErr result (λ refused. ReportsOld (d.state given).content refused.fault)
  pub running : IfOk result (λ store. has_stopped store ≡ false)
  pub keeps : IsTrue (d.honest given)
      → KeepsContent (d.state given).content (d.state (disk_of_result result)) (outcome_of result)
  pub moments : IsTrue (d.honest given)
      → LeavesOnly d.moment d.left_since given (disk_of_result result) (MayLeave (d.state given))
  pub counts : CountsFailures d is_failed_migration given (disk_of_result result) (outcome_of result)
