-- The parts of an opening: the length, the first slot, and each slot after it.
use Rattle.std.specs.Prelude.{◌≡◌, ℕ, ◌+◌, ◌*◌, ◌/◌, ◌<◌, ◌≤◌, true, List, length, take, drop, Option, Some, None}
use Rattle.std.specs.Prelude.{Result, IfErr, IsTrue}
use Rattle.state_file.specs.File.{Holds, IsWhole, MayHaveKey, SpellsRecords, begins_key, fields_at, most_records}
use Rattle.state_file.specs.File.{previous_tag, tag_at, version_of}
use Rattle.state_file.specs.Disk.{IsSteady}
use Rattle.state_file.specs.Slot.{file_version}
use Rattle.state_file.specs.declared.disk.Disk as disk
use Rattle.state_file.specs.declared.file.opening.OpenFault.{OpenFault}
use Rattle.state_file.specs.declared.file.opening.OpenFault.TheVariants.{NoKey, NotKeyFile, Version as VersionFault}
use Rattle.state_file.specs.declared.file.opening.OpenFault.TheVariants.{Damaged, DeviceFailed}
use Rattle.state_file.specs.declared.record.Record.{Record}
use Rattle.state_file.specs.declared.record.Version.{Version}
use Rattle.state_file.specs.Opening.{ReportsContent}

abbrev pub ReportsDisk : {D A : Type 0} (d : disk.Ghosts D) → D → Result A OpenFault → Type 0
ReportsDisk d old answer = IsTrue (d.honest old) → IfErr answer (ReportsContent (d.state old).content)

-- Reads of an honest disk don't waver, and it has at least this many bytes.
abbrev pub HasBytes : {D : Type 0} (d : disk.Ghosts D) → D → ℕ → Type 0
HasBytes d old count = IsTrue (d.honest old) → IsSteady (d.state old) × (count ≤ length (d.state old).content)

-- Reads of an honest disk don't waver, and this is its length.
abbrev pub IsLengthOf : {D : Type 0} (d : disk.Ghosts D) → D → ℕ → Type 0
IsLengthOf d old len = IsTrue (d.honest old) → IsSteady (d.state old) × (len ≡ length (d.state old).content)

-- The first slot is a Key's, of this version.
pub record StartsWithKey (version : Version) (content : List ℕ) : Type 0 where
  pub may : MayHaveKey content
  pub key : begins_key (fields_at content 0) ≡ true
  pub known : version_of (fields_at content 0) ≡ Some version

-- The buffer has slot k's piece: 256 slots from a multiple of 256 on, as far as the content goes.
pub record HasPiece (content : List ℕ) (k : ℕ) (piece : List ℕ) : Type 0 where
  pub bytes : (n : ℕ) → n ≤ 65536 → 65536 * (k / 256) + n ≤ length content
      → take n piece ≡ take n (drop (65536 * (k / 256)) content)

-- What is known of a content when its slot k is looked at: its length, slot k's piece, and the tag before the slot.
pub record IsReached (content : List ℕ) (len : ℕ) (piece : List ℕ) (k : ℕ) (previous : List ℕ) : Type 0 where
  pub is_length : len ≡ length content
  pub has_piece : HasPiece content k piece
  pub is_previous : previous ≡ previous_tag content k

-- The slot holds the record, in this version, and has the tag; the next gate is in the content.
pub record HasSlot (version : Version) (content : List ℕ) (k : ℕ) (entry : Record) (tag : List ℕ) : Type 0 where
  pub within_limit : k < most_records
  pub ends : 256 * (k + 1) < length content
  pub holds : Holds version content k entry
  pub tagged : tag ≡ tag_at content k

-- the record that the slot holds in this version, if any
abbrev pub HasEntry : Version → List ℕ → ℕ → Option Record → Type 0
HasEntry version content k None = (entry : Record) → Holds version content k entry → ⊥
HasEntry version content k (Some entry) = Holds version content k entry

-- what each refusal of a slot says of it
abbrev pub ReportsSlot : Version → List ℕ → ℕ → OpenFault → Type 0
ReportsSlot version content slot NoKey = ⊥
ReportsSlot version content slot NotKeyFile = ⊥
ReportsSlot version content slot VersionFault = ⊥
ReportsSlot version content slot (Damaged k) = (k ≡ slot) × (IsWhole version content slot → ⊥)
ReportsSlot version content slot DeviceFailed = Unit {0}

pub record IsFound (version : Version) (content : List ℕ) (records : List Record) (tag : List ℕ) : Type 0 where
  pub of_version : version ≡ file_version records
  pub spelled : SpellsRecords content records
  pub last : tag ≡ previous_tag content (length records)
