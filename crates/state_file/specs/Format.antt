-- What preparing a place does.
use Rattle.std.specs.Prelude.{◌≡◌, ◌⊎◌, ℕ, ◌<◌, ◌≤◌, List, [], ◌∷◌, length, slice_range, Result, Ok}
use Rattle.std.specs.Prelude.{Err, Bool, true, false, codes}
use Rattle.state_file.specs.File.{IsClosed, IsOpen}
use Rattle.state_file.specs.Disk.{DiskState, MayLeave, settled, ChangesOnly, range_of}
use Rattle.state_file.specs.Gates.{IsAtRest}
use Rattle.state_file.specs.declared.file.format.FormatFault.{FormatFault}
use Rattle.state_file.specs.declared.file.format.FormatFault.TheVariants.{NotKeyFile, DeviceFailed, KeyThere}

-- the numbers and names of faults
abbrev pub format_fault_number : FormatFault → ℕ
format_fault_number NotKeyFile = 41
format_fault_number DeviceFailed = 45
format_fault_number KeyThere = 50

abbrev pub format_fault_name : FormatFault → List ℕ
format_fault_name NotKeyFile = codes "NotKeyFile"
format_fault_name DeviceFailed = codes "DeviceFailed"
format_fault_name KeyThere = codes "KeyThere"

-- What preparing leaves: of under 257 bytes the first is zero and the others stay; 257 bytes all stay.
abbrev pub PreparesPlace : (content : List ℕ) (new : DiskState) → Type 0
PreparesPlace content new =
    IsAtRest [] new
    × (((length content < 257) × (slice_range new.content 0 1 ≡ 0 ∷ [])
    × ChangesOnly (range_of 0 (0 ∷ []) ∷ []) content new.content)
    ⊎ ((length content ≡ 257) × IsClosed content 0 × (new.content ≡ content)))

-- when each refusal comes, by the content, and what it leaves
abbrev pub RefusesFormat : (content : List ℕ) (new : DiskState) → FormatFault → Type 0
RefusesFormat content new KeyThere = (257 ≤ length content) × IsOpen content 0
    × (new ≡ settled content)
RefusesFormat content new NotKeyFile = (257 < length content) × IsClosed content 0 × (new ≡ settled content)
RefusesFormat content new DeviceFailed = Unit {0}

abbrev pub Formats : {A : Type 0} (content : List ℕ) (new : DiskState) → Result A FormatFault → Type 0
Formats content new (Ok _) = PreparesPlace content new
Formats content new (Err fault) = RefusesFormat content new fault

-- What a crash may leave meanwhile: what it could leave before, or the content with any first byte, where that has
-- under 257 bytes. So from 257 bytes up nothing is written.
abbrev pub LeftByFormat : DiskState → List ℕ → Type 0
LeftByFormat old c = MayLeave old c
    ⊎ ((length old.content < 257) × ChangesOnly (range_of 0 (0 ∷ []) ∷ []) old.content c)

-- Only 45 counts as a failure.
abbrev pub is_failed_format : FormatFault → Bool
is_failed_format KeyThere = false
is_failed_format NotKeyFile = false
is_failed_format DeviceFailed = true
