-- What opening a place reports, and leaves.
use Rattle.std.specs.Prelude.{◌≡◌, ℕ, Bool, true, false, List, Result, Ok, Err, codes}
use Rattle.state_file.specs.File.{SpellsRecords, HasNoKey, HasUnknownVersion, IsDamagedAt, IsNoKeyFile}
use Rattle.state_file.specs.Disk.{DiskState, settled}
use Rattle.state_file.specs.declared.file.opening.OpenFault.{OpenFault}
use Rattle.state_file.specs.declared.file.opening.OpenFault.TheVariants.{NoKey, NotKeyFile, Version as VersionFault}
use Rattle.state_file.specs.declared.file.opening.OpenFault.TheVariants.{Damaged, DeviceFailed}
use Rattle.state_file.specs.declared.record.Record.{Record}

-- ---- the numbers and names of faults

abbrev pub open_fault_number : OpenFault → ℕ
open_fault_number NoKey = 40
open_fault_number NotKeyFile = 41
open_fault_number VersionFault = 42
open_fault_number (Damaged slot) = 43
open_fault_number DeviceFailed = 45

abbrev pub open_fault_name : OpenFault → List ℕ
open_fault_name NoKey = codes "NoKey"
open_fault_name NotKeyFile = codes "NotKeyFile"
open_fault_name VersionFault = codes "Version"
open_fault_name (Damaged slot) = codes "Damaged"
open_fault_name DeviceFailed = codes "DeviceFailed"

-- ---- what opening finds

-- a content's records, or why it has none
pub data ContentKind : Type 0 where
  spelled : List Record → ContentKind
  no_key : ContentKind
  no_key_file : ContentKind
  unknown_version : ContentKind
  damaged : ℕ → ContentKind

abbrev pub OpensAs : List ℕ → ContentKind → Type 0
OpensAs content (spelled records) = SpellsRecords content records
OpensAs content no_key = HasNoKey content
OpensAs content no_key_file = IsNoKeyFile content
OpensAs content unknown_version = HasUnknownVersion content
OpensAs content (damaged k) = IsDamagedAt content k

-- ---- what an opening reports, and leaves

-- what each refusal says of the content
abbrev pub ReportsContent : List ℕ → OpenFault → Type 0
ReportsContent content NoKey = OpensAs content no_key
ReportsContent content NotKeyFile = OpensAs content no_key_file
ReportsContent content VersionFault = OpensAs content unknown_version
ReportsContent content (Damaged k) = OpensAs content (damaged k)
ReportsContent content DeviceFailed = Unit {0}

-- Unless the device failed, a refusal leaves the content, all synced.
abbrev pub KeepsContent : List ℕ → DiskState → OpenFault → Type 0
KeepsContent content new NoKey = new ≡ settled content
KeepsContent content new NotKeyFile = new ≡ settled content
KeepsContent content new VersionFault = new ≡ settled content
KeepsContent content new (Damaged k) = new ≡ settled content
KeepsContent content new DeviceFailed = Unit {0}

-- So does an Ok.
abbrev pub Settles : {A : Type 0} → List ℕ → DiskState → Result A OpenFault → Type 0
Settles content new (Ok _) = new ≡ settled content
Settles content new (Err fault) = KeepsContent content new fault

-- Only 45 counts as a failure.
abbrev pub is_failed_opening : OpenFault → Bool
is_failed_opening NoKey = false
is_failed_opening NotKeyFile = false
is_failed_opening VersionFault = false
is_failed_opening (Damaged k) = false
is_failed_opening DeviceFailed = true
