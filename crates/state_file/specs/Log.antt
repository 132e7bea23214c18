-- The log of a disk in memory, and what a crash leaves after it. A moment is a number of entries.
use Rattle.std.specs.Prelude.{◌≡◌, ℕ, ◌+◌, ◌<◌, ◌≤◌, ◌==◌, if◌then◌else◌, max, List, [], ◌∷◌, length, take}
use Rattle.std.specs.Prelude.{false, reverse, slice_index}
use Rattle.state_file.specs.Disk.{Range, IsOutside, greatest_end, ChangesOnly, DiskState}
use Rattle.state_file.specs.declared.disk.log.Entry.{Entry}
use Rattle.state_file.specs.declared.disk.log.Entry.TheVariants.{Wrote, Synced}

-- the content at the last sync, or the first content; the log has its newest entry first
abbrev pub base_of : List ℕ → List Entry → List ℕ
base_of first [] = first
base_of first (Wrote from to ∷ earlier) = base_of first earlier
base_of first (Synced content ∷ earlier) = content.items

-- the ranges since the last sync
abbrev pub ranges_of : List Entry → List Range
ranges_of [] = []
ranges_of (Wrote from to ∷ earlier) = record { from = from; to = to } ∷ ranges_of earlier
ranges_of (Synced content ∷ earlier) = []

-- the disk's state after this log, which has its oldest entry first
abbrev pub logged_state : (content first : List ℕ) (log : List Entry) → DiskState
logged_state content first log =
    record { content = content; base = base_of first (reverse log); ranges = ranges_of (reverse log); wavers = false }

-- what a crash right after this log may leave
abbrev pub LeftBy : (first : List ℕ) (log : List Entry) → List ℕ → Type 0
LeftBy first log = ChangesOnly (ranges_of (reverse log)) (base_of first (reverse log))

-- what a crash may have left at any moment from t entries on
abbrev pub LeftSince : (first : List ℕ) (log : List Entry) → ℕ → List ℕ → Type 0
LeftSince first log t c = (k : ℕ) × (t ≤ k) × (k ≤ length log) × LeftBy first (take k log) c

-- New is old with these bytes at this offset, and zeros in a gap before them. No bytes change nothing.
pub record Overlays (at : ℕ) (bytes old new : List ℕ) : Type 0 where
  pub len : length new ≡ (if length bytes == 0 then length old else max (length old) (at + length bytes))
  pub put : (i : ℕ) → i < length bytes → slice_index new (at + i) ≡ slice_index bytes i
  pub before : (i : ℕ) → i < length old → i < at → slice_index new i ≡ slice_index old i
  pub after : (i : ℕ) → i < length old → at + length bytes ≤ i → slice_index new i ≡ slice_index old i
  pub gap : (i : ℕ) → length old ≤ i → i < at → i < length new → slice_index new i ≡ 0

-- The longest content that a crash may leave, with this byte wherever it may leave any.
pub record IsLongestLeft (byte : ℕ) (base : List ℕ) (ranges : List Range) (c : List ℕ) : Type 0 where
  pub longest : length c ≡ greatest_end (length base) ranges
  pub kept : (offset : ℕ) → offset < length base → IsOutside offset ranges
      → slice_index c offset ≡ slice_index base offset
  pub inside : (offset : ℕ) → offset < length c → (IsOutside offset ranges → ⊥) → slice_index c offset ≡ byte
  pub after : (offset : ℕ) → offset < length c → length base ≤ offset → slice_index c offset ≡ byte
