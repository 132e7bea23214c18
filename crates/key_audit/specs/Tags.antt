-- The tags of a state file's slots, by its records alone.
use Rattle.std.specs.Prelude.{◌≡◌, ℕ, zero, suc, ◌<◌, List, ◌++◌, length, replicate, slice_get, Some}
use Rattle.typecodes.specs.Layout.{AreBytes, Spells}
use Rattle.state_file.specs.declared.record.Record.{Record}
use Rattle.state_file.specs.File.{SpellsRecords, tag_at, tag_of}
use Rattle.state_file.specs.Slot.{slot_record, file_version}

-- The tag before record k: 32 zeros before the first. Each other one is the hash of the tag before it and of a record's
-- bytes in the list's version; a record has one list of bytes there.
abbrev pub IsTagBefore : List Record → ℕ → List ℕ → Type 0
IsTagBefore records zero tag = tag ≡ replicate 32 0
IsTagBefore records (suc k) tag = (entry : Record) × (fields previous : List ℕ)
    × (slice_get records k ≡ Some entry) × AreBytes fields × Spells (slot_record (file_version records)) entry fields
    × IsTagBefore records k previous × (tag ≡ tag_of previous fields)

abbrev pub IsTag : List Record → ℕ → List ℕ → Type 0
IsTag records k tag = IsTagBefore records (suc k) tag

pub record TagLaw : Type 0 where
  -- a record has one tag
  pub one : (records : List Record) (k : ℕ) (a b : List ℕ) → IsTag records k a → IsTag records k b → a ≡ b
  -- in a content that spells the records, it is the slot's
  pub stands : (content : List ℕ) (records : List Record) (k : ℕ) → AreBytes content → SpellsRecords content records
      → k < length records → IsTag records k (tag_at content k)
  -- it stays, whatever records follow
  pub lasts : (records more : List Record) (k : ℕ) (tag : List ℕ) → IsTag records k tag → IsTag (records ++ more) k tag
