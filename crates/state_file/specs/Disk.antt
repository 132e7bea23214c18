-- What the calls of a disk do, and what a crash may leave between two syncs.
use Rattle.std.specs.Prelude.{◌≡◌, ◌⊎◌, ℕ, ◌+◌, ◌<◌, ◌≤◌, max, List, [], ◌∷◌, length, slice_index, slice_range}
use Rattle.std.specs.Prelude.{Result, Ok, Err, Bool, true, false, IsTrue, if◌then◌else◌}
use Rattle.state_file.specs.declared.disk.DiskFault.{DiskFault}
use Rattle.state_file.specs.declared.disk.DiskFault.TheVariants.{Failed, PastEnd, OutOfMemory}

-- the offsets from `from` on and below `to`
pub record Range : Type 0 where
  pub from : ℕ
  pub to : ℕ

-- the range of these bytes, from this offset on
abbrev pub range_of : ℕ → List ℕ → Range
range_of at bytes = record { from = at; to = at + length bytes }

abbrev pub IsOutside : ℕ → List Range → Type 0
IsOutside offset [] = Unit {0}
IsOutside offset (range ∷ ranges) = ((offset < range.from) ⊎ (range.to ≤ offset)) × IsOutside offset ranges

-- the greatest of a length and of the ranges' ends
abbrev pub greatest_end : ℕ → List Range → ℕ
greatest_end len [] = len
greatest_end len (range ∷ ranges) = max range.to (greatest_end len ranges)

-- The inner ranges lie in the outer ones, and reach no further.
pub record AreWithin (outer inner : List Range) : Type 0 where
  pub outside : (offset : ℕ) → IsOutside offset outer → IsOutside offset inner
  pub ends : (len : ℕ) → greatest_end len inner ≤ greatest_end len outer

-- New differs from old at most in these ranges and past old's end.
pub record ChangesOnly (ranges : List Range) (old new : List ℕ) : Type 0 where
  pub kept : (offset : ℕ) → offset < length old → IsOutside offset ranges
      → slice_index new offset ≡ slice_index old offset
  pub no_shorter : length old ≤ length new
  pub no_longer : length new ≤ greatest_end (length old) ranges

-- a disk at one moment
pub record DiskState : Type 0 where
  -- what a read gives; while reads waver, what it gives once a sync succeeds
  pub content : List ℕ
  -- the content right after the last sync that succeeded
  pub base : List ℕ
  -- the ranges written since then, or refused in a write
  pub ranges : List Range
  -- Whether reads waver: a sync failed, and none has succeeded since. Each read then gives some content that a crash
  -- may leave, and two reads need not agree.
  pub wavers : Bool

-- a disk with this content, all synced
abbrev pub settled : List ℕ → DiskState
settled content = record { content = content; base = content; ranges = []; wavers = false }

-- reads give the content
abbrev pub IsSteady : DiskState → Type 0
IsSteady state = state.wavers ≡ false

-- a crash leaves what a read gives
abbrev pub IsSynced : DiskState → Type 0
IsSynced state = state ≡ settled state.content

-- what a crash may leave now: any bytes in the ranges and past the base's end
abbrev pub MayLeave : DiskState → List ℕ → Type 0
MayLeave state = ChangesOnly state.ranges state.base

-- One more range may be unsynced, and the content changed at most there. Neither how the unsynced bytes are cut into
-- ranges matters, nor whether the disk touched all bytes of the range: a write in parts is one write. It may have
-- touched fewer bytes, none beside the range, and what was unsynced before stays unsynced.
pub record OpensRange (range : Range) (old new : DiskState) : Type 0 where
  pub changes : ChangesOnly (range ∷ []) old.content new.content
  pub no_more : AreWithin (range ∷ old.ranges) new.ranges
  pub no_fewer : AreWithin new.ranges old.ranges
  pub same_base : new.base ≡ old.base
  pub same_wavers : new.wavers ≡ old.wavers

-- What a write does. If it is refused, it may have written any part of its range, or done nothing.
abbrev pub WritesBytes : {A E : Type 0} (at : ℕ) (bytes : List ℕ) (old new : DiskState) → Result A E → Type 0
WritesBytes at bytes old new (Ok _) = OpensRange (range_of at bytes) old new
    × (slice_range new.content at (at + length bytes) ≡ bytes)
WritesBytes at bytes old new (Err _) = (new ≡ old) ⊎ OpensRange (range_of at bytes) old new

-- What a sync does. A refused one promises nothing: each read may then give another content that a crash may leave,
-- until a sync succeeds.
abbrev pub Syncs : {A E : Type 0} (old new : DiskState) → Result A E → Type 0
Syncs old new (Ok _) = new ≡ settled old.content
Syncs old new (Err _) = (new.base ≡ old.base) × (new.ranges ≡ old.ranges)

-- A count grows by one at a refusal of this kind, and at no other answer.
abbrev pub Counts : {A E : Type 0} (is_counted : E → Bool) (before after : ℕ) → Result A E → Type 0
Counts is_counted before after (Ok _) = after ≡ before
Counts is_counted before after (Err fault) = after ≡ (if is_counted fault then before + 1 else before)

abbrev pub is_failure : DiskFault → Bool
is_failure fault = true

-- the refused read reached past the end
abbrev pub is_past_end : DiskFault → Bool
is_past_end Failed = false
is_past_end PastEnd = true
is_past_end OutOfMemory = false

-- ---- moments of a disk or of a store, and what a crash leaves at them

-- Time passed. A crash since t may have left what it may have left before, or what it may leave now.
pub record Elapses {C : Type 0} (before now : ℕ) (past since : ℕ → C → Type 0) (may_leave : C → Type 0) : Type 0 where
  pub later : before ≤ now
  pub nothing_else : (t : ℕ) (c : C) → t ≤ before → since t c → past t c ⊎ may_leave c
  pub keeps : (t : ℕ) (c : C) → t ≤ before → past t c → since t c

-- Time passed in a call of a disk, and a crash may now leave what the new state allows.
abbrev pub TimePasses : {D : Type 0} (state : D → DiskState) (moment : D → ℕ) (left_since : D → ℕ → List ℕ → Type 0)
    (old new : D) → Type 0
TimePasses state moment left_since old new =
    Elapses (moment old) (moment new) (left_since old) (left_since new) (MayLeave (state new))

-- What each call of a disk does: over an honest disk time passes; a refusal counts as a failure; honesty stays.
pub record CallsDisk {D A : Type 0} (is_honest : D → Bool) (state : D → DiskState) (moment : D → ℕ)
    (left_since : D → ℕ → List ℕ → Type 0) (refused : D → ℕ) (old new : D) (answer : Result A DiskFault)
    : Type 0 where
  pub time : IsTrue (is_honest old) → TimePasses state moment left_since old new
  pub failures : Counts is_failure (refused old) (refused new) answer
  pub honest : is_honest new ≡ is_honest old

-- Whatever a crash leaves at any moment from old on has P. What it could leave before isn't forgotten.
pub record LeavesOnly {D C : Type 0} (moment : D → ℕ) (left_since : D → ℕ → C → Type 0) (old new : D) (P : C
    → Type 0) : Type 0 where
  pub later : moment old ≤ moment new
  pub each : (c : C) → left_since new (moment old) c → P c
  -- the same for a run that began earlier
  pub before : (t : ℕ) (c : C) → t ≤ moment old → left_since new t c → left_since old t c ⊎ P c
  -- what a crash could leave between an earlier moment and old counts at new, too
  pub keeps : (t : ℕ) (c : C) → t ≤ moment old → left_since old t c → left_since new t c
