-- What the faults of a migration say.
use Rattle.std.specs.Prelude.{ℕ, Bool, true, false, List, codes}
use Rattle.state_file.specs.declared.migration.MigrateFault.{MigrateFault}
use Rattle.state_file.specs.declared.migration.MigrateFault.TheVariants.{Stopped, NoKey, NotKeyFile}
use Rattle.state_file.specs.declared.migration.MigrateFault.TheVariants.{Version as VersionFault, Damaged, Illegal}
use Rattle.state_file.specs.declared.migration.MigrateFault.TheVariants.{DeviceFailed, OutOfMemory, KeyThere, Full}

abbrev pub migrate_fault_number : MigrateFault → ℕ
migrate_fault_number Stopped = 26
migrate_fault_number NoKey = 40
migrate_fault_number NotKeyFile = 41
migrate_fault_number VersionFault = 42
migrate_fault_number (Damaged slot) = 43
migrate_fault_number (Illegal slot) = 44
migrate_fault_number DeviceFailed = 45
migrate_fault_number OutOfMemory = 46
migrate_fault_number KeyThere = 50
migrate_fault_number Full = 52

-- the names that are printed beside them
abbrev pub migrate_fault_name : MigrateFault → List ℕ
migrate_fault_name Stopped = codes "Stopped"
migrate_fault_name NoKey = codes "NoKey"
migrate_fault_name NotKeyFile = codes "NotKeyFile"
migrate_fault_name VersionFault = codes "Version"
migrate_fault_name (Damaged slot) = codes "Damaged"
migrate_fault_name (Illegal slot) = codes "Illegal"
migrate_fault_name DeviceFailed = codes "DeviceFailed"
migrate_fault_name OutOfMemory = codes "OutOfMemory"
migrate_fault_name KeyThere = codes "KeyThere"
migrate_fault_name Full = codes "Full"

-- Only 45 counts as a failure.
abbrev pub is_failed_migration : MigrateFault → Bool
is_failed_migration DeviceFailed = true
is_failed_migration _ = false
