-- What a migration finds at the old place: the records of a key of version 1, or a reason why there are none.
use Rattle.std.specs.Prelude.{◌≡◌, ◌⊎◌, ℕ, List, Some}
use Rattle.state_file.specs.File.{SpellsRecords}
use Rattle.state_file.specs.Laws.{IsLegal}
use Rattle.state_file.specs.Opening.{OpensAs, damaged, no_key, no_key_file, unknown_version}
use Rattle.state_file.specs.Slot.{file_version}
use Rattle.state_file.specs.declared.file.opening.OpenFault.{OpenFault}
use Rattle.state_file.specs.declared.file.opening.OpenFault.TheVariants.{NoKey as OpenNoKey}
use Rattle.state_file.specs.declared.file.opening.OpenFault.TheVariants.{NotKeyFile as OpenNotKeyFile}
use Rattle.state_file.specs.declared.file.opening.OpenFault.TheVariants.{Version as OpenVersion, Damaged as OpenDamaged}
use Rattle.state_file.specs.declared.file.opening.OpenFault.TheVariants.{DeviceFailed as OpenFailed}
use Rattle.state_file.specs.declared.migration.MigrateFault.{MigrateFault}
use Rattle.state_file.specs.declared.migration.MigrateFault.TheVariants.{NoKey, NotKeyFile, Version as VersionFault}
use Rattle.state_file.specs.declared.migration.MigrateFault.TheVariants.{Damaged, Illegal, DeviceFailed, OutOfMemory}
use Rattle.state_file.specs.declared.record.Record.{Record}
use Rattle.state_file.specs.declared.record.Version.TheVariants.{One, Two}
use Rattle.sign_core.specs.Ledger.{RunsOutOfMemory}
use Rattle.sign_core.specs.Records.{first_illegal}

-- what is answered where the old place isn't opened
abbrev pub opening_fault : OpenFault → MigrateFault
opening_fault OpenNoKey = NoKey
opening_fault OpenNotKeyFile = NotKeyFile
opening_fault OpenVersion = VersionFault
opening_fault (OpenDamaged k) = Damaged k
opening_fault OpenFailed = DeviceFailed

-- ---- the old place

-- A content spells these records, which are legal and of version 1: they can move.
pub record SpellsMovable (content : List ℕ) (records : List Record) : Type 0 where
  pub spelled : SpellsRecords content records
  pub legal : IsLegal records
  pub version : file_version records ≡ One

-- The content's version isn't known, or it spells legal records of version 2.
abbrev pub IsOfOtherVersion : List ℕ → Type 0
IsOfOtherVersion content = OpensAs content unknown_version
    ⊎ ((records : List Record) × SpellsRecords content records × IsLegal records × (file_version records ≡ Two))

-- What each refusal reports of a content without such records.
abbrev pub ReportsOld : List ℕ → MigrateFault → Type 0
ReportsOld content NoKey = OpensAs content no_key
ReportsOld content NotKeyFile = OpensAs content no_key_file
ReportsOld content VersionFault = IsOfOtherVersion content
ReportsOld content (Damaged k) = OpensAs content (damaged k)
ReportsOld content (Illegal k) =
    (records : List Record) × SpellsRecords content records × (first_illegal records ≡ Some k)
ReportsOld content OutOfMemory = (records : List Record) × SpellsRecords content records × RunsOutOfMemory records
ReportsOld content DeviceFailed = Unit {0}
ReportsOld content _ = ⊥
