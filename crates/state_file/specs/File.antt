-- A disk's content as a state file: slots of 256 bytes, slot k from byte 256 * k on, each with a gate, a record and a
-- tag.
use Rattle.std.specs.Prelude.{◌≡◌, ◌≢◌, ◌⊎◌, ℕ, zero, suc, ◌+◌, ◌*◌, ◌^◌, ◌<◌, ◌≤◌, Bool, true, false, ◌==◌, List, ◌∷◌}
use Rattle.std.specs.Prelude.{◌++◌, length, take, drop, replicate, slice_get, slice_index, Option, Some, None, [], Ok}
use Rattle.std.specs.Cmp.Lexicographic.{pointwise}
use Rattle.byteorder.specs.Endian.{big_number}
use Rattle.sha2.specs.Sha256.{sha256}
use Rattle.typecodes.specs.Layout.{Spells}
use Rattle.typecodes.specs.Types.{named}
use Rattle.state_file.specs.declared.record.Key.{Key}
use Rattle.state_file.specs.declared.record.Record.{Record}
use Rattle.state_file.specs.declared.record.Record.TheVariants.{Key as KeyRecord}
use Rattle.state_file.specs.declared.record.Version.{Version}
use Rattle.state_file.specs.Slot.{magic, slot_record, version_code, file_version, versions}
use Rattle.typecodes.specs.Cursor.{read}
use Rattle.state_file.specs.Disk.{DiskState, IsSynced}
use Rattle.state_file.specs.Store.{begins_with_key}

-- ---- the parts of a slot

-- its gate, byte 0, if the content reaches it
abbrev pub gate : List ℕ → ℕ → Option ℕ
gate content k = slice_get content (256 * k)

abbrev pub open_value : ℕ
open_value = 0xA5

-- any other value closes a gate
abbrev pub IsOpen : List ℕ → ℕ → Type 0
IsOpen content k = gate content k ≡ Some open_value

-- the content reaches this offset, and a gate there is closed
abbrev pub IsClosedAt : List ℕ → ℕ → Type 0
IsClosedAt content offset = (offset < length content) × (slice_index content offset ≢ open_value)

abbrev pub IsClosed : List ℕ → ℕ → Type 0
IsClosed content k = IsClosedAt content (256 * k)

-- its kind and fields, bytes 1 to 223
abbrev pub fields_at : List ℕ → ℕ → List ℕ
fields_at content k = take 223 (drop (256 * k + 1) content)

-- its tag, bytes 224 to 255
abbrev pub tag_at : List ℕ → ℕ → List ℕ
tag_at content k = take 32 (drop (256 * k + 224) content)

-- the tag before slot 0
abbrev pub first_tag : List ℕ
first_tag = replicate 32 0

-- the tag before slot k
abbrev pub previous_tag : List ℕ → ℕ → List ℕ
previous_tag content zero = first_tag
previous_tag content (suc k) = tag_at content k

-- a slot's tag, from the tag before it and the slot's fields
abbrev pub tag_of : List ℕ → List ℕ → List ℕ
tag_of previous fields = sha256 (previous ++ fields)

-- the slot holds the record, in this version
pub record Holds (version : Version) (content : List ℕ) (k : ℕ) (entry : Record) : Type 0 where
  pub spelled : Spells (slot_record version) entry (fields_at content k)
  pub tagged : tag_at content k ≡ tag_of (previous_tag content k) (fields_at content k)

-- ---- contents with a key

-- the greatest number of records in a file
abbrev pub most_records : ℕ
most_records = 2 ^ 31

-- The content spells these records, in their Key's version. The first slots are open and hold them, and the next gate
-- is in the content and closed. Bytes after it don't count.
pub record SpellsRecords (content : List ℕ) (records : List Record) : Type 0 where
  pub within_limit : length records ≤ most_records
  pub opened : (k : ℕ) → k < length records → IsOpen content k
  pub closed : IsClosed content (length records)
  pub first : (key : Key) × (slice_get records 0 ≡ Some (KeyRecord key))
  pub holds : (k : ℕ) (entry : Record) → slice_get records k ≡ Some entry
      → Holds (file_version records) content k entry

-- An append to this many records, even one that a crash cut, writes their next slot and the gate after it. The content
-- is longer than that.
abbrev pub IsLongerThanAppended : ℕ → List ℕ → Type 0
IsLongerThanAppended count content = 256 * (count + 1) + 1 < length content

-- ---- contents without a key

-- The content has no key: under 257 bytes, or a closed first gate.
abbrev pub HasNoKey : List ℕ → Type 0
HasNoKey content = (length content < 257) ⊎ IsClosed content 0

-- otherwise there may be a key
pub record MayHaveKey (content : List ℕ) : Type 0 where
  pub at_least_257 : 257 ≤ length content
  pub opened : IsOpen content 0

-- whether a slot's fields begin as a Key's: its kind and the magic
abbrev pub begins_key : List ℕ → Bool
begins_key fields = pointwise (λ a b. a == b) (take 9 fields) (1 ∷ magic)

-- the version in a Key's fields, if it is known
abbrev pub version_of : List ℕ → Option Version
version_of fields = named version_code versions (big_number 2 (drop 9 fields))

-- The first slot holds no Key.
pub record IsNoKeyFile (content : List ℕ) : Type 0 where
  pub may : MayHaveKey content
  pub other : begins_key (fields_at content 0) ≡ false

pub record HasUnknownVersion (content : List ℕ) : Type 0 where
  pub may : MayHaveKey content
  pub key : begins_key (fields_at content 0) ≡ true
  pub other : version_of (fields_at content 0) ≡ None

-- A slot is whole: it is open, below the greatest number of records, holds a record of this version, and the next gate
-- is in the content.
pub record IsWhole (version : Version) (content : List ℕ) (k : ℕ) : Type 0 where
  pub opened : IsOpen content k
  pub within_limit : k < most_records
  pub ends : 256 * (k + 1) < length content
  pub entry : Record
  pub holds : Holds version content k entry

-- Slot k is the first damaged one: it is open and not whole, and all before it are whole.
pub record IsDamagedAt (content : List ℕ) (k : ℕ) : Type 0 where
  pub may : MayHaveKey content
  pub key : begins_key (fields_at content 0) ≡ true
  pub version : Version
  pub known : version_of (fields_at content 0) ≡ Some version
  pub before : (j : ℕ) → j < k → IsWhole version content j
  pub opened : IsOpen content k
  pub damaged : IsWhole version content k → ⊥

-- ---- the records that a content stands for

-- the content spells these records, or has no key where there are none
abbrev pub StandsFor : List Record → List ℕ → Type 0
StandsFor [] content = HasNoKey content
StandsFor (entry ∷ entries) content = SpellsRecords content (entry ∷ entries)

-- The content spells these records, and the gate after them is closed. This implies `StandsFor`, in a form whose proofs
-- are all equal.
pub record IsFileOf (records : List Record) (content : List ℕ) : Type 0 where
  pub within_limit : length records ≤ most_records
  pub first : begins_with_key records ≡ true
  pub opened : (k : ℕ) → k < length records → IsOpen content k
  pub closed : IsClosed content (length records)
  pub spelled : (k : ℕ) (entry : Record) → slice_get records k ≡ Some entry
      → read (slot_record (file_version records)) (fields_at content k) 0 ≡ Ok (entry, 223)
  pub tagged : (k : ℕ) → k < length records → tag_at content k ≡ tag_of (previous_tag content k) (fields_at content k)

-- The lists that the contents left since a moment stand for. A content that stands for none counts as every list.
abbrev pub LeftLists : (ℕ → List ℕ → Type 0) → ℕ → List Record → Type 0
LeftLists left_since t list = (content : List ℕ) × left_since t content
    × (StandsFor list content ⊎ ((other : List Record) → StandsFor other content → ⊥))

-- all is synced, and this is the last slot's tag
pub record IsSyncedFile (records : List Record) (tag : List ℕ) (state : DiskState) : Type 0 where
  pub synced : IsSynced state
  pub file : IsFileOf records state.content
  pub last : tag ≡ previous_tag state.content (length records)
