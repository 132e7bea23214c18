-- The frames of requests in an input, and what reads of an input give.
use Rattle.std.specs.Prelude.{◌≡◌, ℕ, ◌<◌, ◌≤◌, Bool, true, false, List, [], ◌∷◌, ◌++◌, length, Option, Some}
use Rattle.std.specs.Prelude.{None, Ok, Err, slice_index, if◌then◌else◌}
use Rattle.std.specs.Io.KnownBytes.{Consumes, IsAtEnd}
use Rattle.std.specs.declared.io.ErrorKind.{ErrorKind}
use Rattle.typecodes.specs.declared.fault.Cause.TheVariants.{Truncated}
use Rattle.typecodes.specs.declared.message.Message as message
use Rattle.typecodes.specs.Fault.{fault_at}
use Rattle.typecodes.specs.Fields.{block, number}
use Rattle.typecodes.specs.Layout.{HasFault, Layout, Spells, done, field, ◌>>=◌}
use Rattle.typecodes.specs.Message.{Gave, ReadOutcome, Transitions}

-- ---- what reads of an input give

-- How reads of an input end: more may come, it was at its end, or a read failed.
pub data Ending : Type 0 where
  going : Ending
  ended : Ending
  broken : Ending

-- The last read, by the ending: none; one that gave nothing; one that failed, with any kind of error.
abbrev pub LastRead : Ending → (last : List ReadOutcome) → Type 0
LastRead going last = last ≡ []
LastRead ended last = last ≡ Ok [] ∷ []
LastRead broken last = (kind : ErrorKind) × (last ≡ Err kind ∷ [])

-- At the end of an input no bytes are left, where that is known.
abbrev pub LeavesNone : Ending → (left : Option (List ℕ)) → Type 0
LeavesNone going left = Unit {0}
LeavesNone ended left = IsAtEnd left
LeavesNone broken left = Unit {0}

-- Reads of an input gave these bytes, and then had this ending.
pub record ReadsInput {M : Type 0} (m : message.Ghosts M) (given : List ℕ) (ending : Ending) (old new : M)
    : Type 0 where
  pub earlier : List ReadOutcome
  pub last : List ReadOutcome
  pub reads : Transitions m.transition (earlier ++ last) old new
  pub gave : Gave earlier given
  pub ends : LastRead ending last
  pub bytes : Consumes (m.remaining old) (m.remaining new) given
  pub none : LeavesNone ending (m.remaining new)

-- ---- frames

abbrev pub byte : Layout ℕ
byte = field 1 (λ bytes. done (slice_index bytes 0))

-- a head after its first byte: the name, and the size of the message
abbrev pub after_size : (size : ℕ) → Layout (List ℕ × ℕ)
after_size size = do
  name ← block size
  announced ← number
  done (name, announced)

-- a head: the size of the name, the name, and the size of the message
abbrev pub head : Layout (List ℕ × ℕ)
head = do
  size ← byte
  after_size size

-- A request: its name, the announced length of its message in bytes, the bytes that came, and whether they are all.
pub record Request : Type 0 where
  pub name : List ℕ
  pub announced : ℕ
  pub message : List ℕ
  pub is_whole : Bool

-- These bytes are a frame of the request: its head, and what came of the message.
abbrev pub IsFrame : Request → List ℕ → Type 0
IsFrame request bytes =
    (front : List ℕ) × Spells head (request.name, request.announced) front × (bytes ≡ front ++ request.message)

abbrev pub IsWholeMessage : Request → Type 0
IsWholeMessage request = (request.is_whole ≡ true) × (length request.message ≡ request.announced)

-- Where an input ends, fewer bytes of a message came than were announced. A read may also fail after the last one.
abbrev pub CutsAt : Ending → (came announced : ℕ) → Type 0
CutsAt going came announced = ⊥
CutsAt ended came announced = came < announced
CutsAt broken came announced = came ≤ announced

-- The message was cut, with this ending.
abbrev pub IsCut : Ending → Request → Type 0
IsCut ending request =
    (request.is_whole ≡ false) × CutsAt ending (length request.message) request.announced

-- what its message gives to a reader, if it can be read
abbrev pub given_message : Request → Option (List ℕ)
given_message request = if request.is_whole then Some request.message else None

-- The bytes end inside a field of the layout, at whatever offset they begin.
abbrev pub CutsField : {V : Type 0} → Layout V → List ℕ → Type 0
CutsField layout bytes = (from : ℕ) → (place : ℕ) × HasFault layout bytes from (fault_at place Truncated)
