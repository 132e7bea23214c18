-- What happens to files.
use Rattle.std.specs.Prelude.{ℕ, List, ◌≡◌, [], ◌∷◌, ◌++◌, Result, Ok, Err, Option, None, Bool}
use Rattle.std.specs.declared.io.ErrorKind.{ErrorKind}
use Rattle.command.specs.declared.refusal.Refusal.{Refusal}
use Rattle.command.specs.declared.refusal.Refusal.TheVariants.{Locked}
use Rattle.command.specs.declared.trace.Role.{Role}
use Rattle.command.specs.declared.trace.Role.TheVariants.{State}
use Rattle.command.specs.declared.trace.Event.{Event}
use Rattle.command.specs.declared.trace.Event.TheVariants as event
use Rattle.typecodes.specs.Message.{FailsBy, GivesText, GivesAll, GoesOn, ReadOutcome, Transition}

-- One thing that happened to a file, which is named by its role, its path or both.
pub data Happening : Type 0 where
  -- for reading a file, or a state file for reading and writing
  opened : Role → List ℕ → Happening
  not_opened : Role → List ℕ → Happening
  -- a state file for reading alone, with a lock or without
  opened_to_read : List ℕ → Happening
  opened_unlocked : List ℕ → Happening
  -- a state file, which was made if there was none
  made : List ℕ → Happening
  not_made : List ℕ → Happening
  -- a state file, by another
  locked : List ℕ → Happening
  -- a read's bytes, or its error
  given : Role → List ℕ → Happening
  failed : Role → ErrorKind → Happening
  -- of a file at offsets: the length
  measured : Result ℕ ErrorKind → Happening
  -- a read of `room` bytes
  read_at : (at room : ℕ) → ReadOutcome → Happening
  -- a write of these bytes, which took the first of them
  written_at : (at : ℕ) (bytes : List ℕ) → ReadOutcome → Happening
  synced : Result Unit ErrorKind → Happening
  -- of a file that is open for writing: whether it has a key
  looked : (has_key : Bool) → Happening
  not_looked : Happening
  -- to no bytes
  cut : Happening
  not_cut : Happening
  -- all of the bytes, from the file's beginning on
  wrote : (bytes : List ℕ) → Happening
  not_wrote : Happening
  -- The file has these bytes and no others, or its content isn't known.
  written : Role → (path bytes : List ℕ) → Happening
  not_written : Role → (path : List ℕ) → Happening

abbrev pub happening_of : Event → Happening
happening_of (event.Opened role path) = opened role path.now
happening_of (event.NotOpened role path) = not_opened role path.now
happening_of (event.OpenedToRead path) = opened_to_read path.now
happening_of (event.OpenedUnlocked path) = opened_unlocked path.now
happening_of (event.Made path) = made path.now
happening_of (event.NotMade path) = not_made path.now
happening_of (event.Locked path) = locked path.now
happening_of (event.Given role bytes) = given role bytes.now
happening_of (event.Failed role kind) = failed role kind
happening_of (event.Measured length) = measured length
happening_of (event.ReadAt at room (Ok bytes)) = read_at at room (Ok bytes.now)
happening_of (event.ReadAt at room (Err kind)) = read_at at room (Err kind)
happening_of (event.WrittenAt at bytes (Ok first)) = written_at at bytes.now (Ok first.now)
happening_of (event.WrittenAt at bytes (Err kind)) = written_at at bytes.now (Err kind)
happening_of (event.Synced answer) = synced answer
happening_of (event.Looked has_key) = looked has_key
happening_of event.NotLooked = not_looked
happening_of event.Cut = cut
happening_of event.NotCut = not_cut
happening_of (event.Wrote bytes) = wrote bytes.now
happening_of event.NotWrote = not_wrote
happening_of (event.Written role path bytes) = written role path.now bytes.now
happening_of (event.NotWritten role path) = not_written role path.now

-- what a call on a file notes, by its answer
abbrev pub opening : {A E : Type 0} → Role → List ℕ → Result A E → Happening
opening role path (Ok file) = opened role path
opening role path (Err error) = not_opened role path

abbrev pub opening_state : {A : Type 0} → List ℕ → Result A Refusal → Happening
opening_state path (Ok file) = opened State path
opening_state path (Err Locked) = locked path
opening_state path (Err _) = not_opened State path

abbrev pub opening_state_to_read : {A : Type 0} → List ℕ → Result A Refusal → Happening
opening_state_to_read path (Ok file) = opened_to_read path
opening_state_to_read path (Err Locked) = locked path
opening_state_to_read path (Err _) = not_opened State path

abbrev pub opening_unlocked : {A E : Type 0} → List ℕ → Result A E → Happening
opening_unlocked path (Ok file) = opened_unlocked path
opening_unlocked path (Err error) = not_opened State path

abbrev pub making : {A : Type 0} → List ℕ → Result A Refusal → Happening
making path (Ok file) = made path
making path (Err Locked) = locked path
making path (Err _) = not_made path

abbrev pub writing : {A E : Type 0} → Role → (path bytes : List ℕ) → Result A E → Happening
writing role path bytes (Ok _) = written role path bytes
writing role path bytes (Err _) = not_written role path

abbrev pub happened : Role → ReadOutcome → Happening
happened role (Ok bytes) = given role bytes
happened role (Err kind) = failed role kind

-- One read of this file happened, and nothing else.
abbrev pub ReadsOnce : Role → Transition (List Happening)
ReadsOnce role old outcome new = new ≡ old ++ happened role outcome ∷ []

-- the trace doesn't say which bytes a file has left
abbrev pub nothing_known : List Happening → Option (List ℕ)
nothing_known happenings = None

-- Since `old` only this file was read. Each read gave at least one byte, and together they gave these.
abbrev pub ReadsOn : Role → List ℕ → List Happening → List Happening → Type 0
ReadsOn role bytes old new = GivesText (ReadsOnce role) bytes old new

-- As `ReadsOn`, up to the file's end, where a last read gave nothing.
abbrev pub ReadsToEnd : Role → List ℕ → List Happening → List Happening → Type 0
ReadsToEnd role bytes old new = GivesAll (ReadsOnce role) bytes old new

-- As `ReadsOn`, up to a read that failed by this kind of error.
abbrev pub ReadsToFailure : Role → ErrorKind → List Happening → List Happening → Type 0
ReadsToFailure role kind old new = (bytes : List ℕ) × FailsBy (ReadsOnce role) kind bytes old new

-- As `ReadsOn`, without an end within 2^60 bytes.
abbrev pub ReadsForever : Role → List Happening → List Happening → Type 0
ReadsForever role old new = GoesOn (ReadsOnce role) old new
