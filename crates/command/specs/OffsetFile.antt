-- What the calls of an open file answer, and what an honest one does: the model of a disk, for calls that may do only
-- a part of what is requested.
use Rattle.std.specs.Prelude.{◌≡◌, ◌+◌, ◌<◌, ◌≤◌, ℕ, Bool, IsTrue, List, [], length, slice_range}
use Rattle.std.specs.Prelude.{Result, Ok, Err, ⊤}
use Rattle.std.specs.IoError.{error_kind}
use Rattle.std.specs.declared.io.Error.{Error}
use Rattle.std.specs.declared.io.ErrorKind.{ErrorKind}
use Rattle.state_file.specs.Disk.{DiskState, IsSteady, MayLeave, OpensRange, TimePasses, range_of}
use Rattle.typecodes.specs.Message.{ReadOutcome}
use Rattle.typecodes.specs.Sink.{WriteOutcome}

-- the answer, with only the kind of its error
abbrev pub kept : {A : Type 0} → Result A Error → Result A ErrorKind
kept (Ok value) = Ok value
kept (Err error) = Err (error_kind error)

-- A read may show this content: the file's; while reads waver, any that a crash may leave.
pub record Shows (state : DiskState) (c : List ℕ) : Type 0 where
  pub steady : IsSteady state → c ≡ state.content
  pub may_leave : MayLeave state c

-- A read for `room` bytes gave these of a content that the file shows. It gives none only from the content's end on.
abbrev pub GivesPart : (at room : ℕ) → DiskState → ReadOutcome → Type 0
GivesPart at room state (Ok bytes) = (c : List ℕ) × Shows state c × (bytes ≡ slice_range c at (at + length bytes))
    × (bytes ≡ [] → 0 < room → length c ≤ at)
GivesPart at room state (Err kind) = ⊤

-- A write was offered these bytes, and took the first of them or failed. Any part of their range may have changed.
abbrev pub TakesPart : (at : ℕ) (bytes : List ℕ) (old new : DiskState) → WriteOutcome → Type 0
TakesPart at bytes old new (Ok first) =
    OpensRange (range_of at bytes) old new × (slice_range new.content at (at + length first) ≡ first)
TakesPart at bytes old new (Err kind) = OpensRange (range_of at bytes) old new

-- What each call of a file does: over an honest file time passes; honesty stays.
pub record CallsFile {F : Type 0} (is_honest : F → Bool) (state : F → DiskState) (moment : F → ℕ)
    (left_since : F → ℕ → List ℕ → Type 0) (old new : F) : Type 0 where
  pub time : IsTrue (is_honest old) → TimePasses state moment left_since old new
  pub honest : is_honest new ≡ is_honest old
