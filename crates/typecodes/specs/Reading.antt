-- How a buffer is filled by reads, and how a message is read to its end.
use Rattle.std.specs.Prelude.{◌≡◌, ◌⊎◌, ◌≤◌, ◌<◌, ◌+◌, ◌-◌, ◌^◌, ℕ, List, ◌++◌, length, take}
use Rattle.std.specs.Prelude.{Option, Result, Ok, Err}
use Rattle.std.specs.Io.KnownBytes.{Consumes, IsAtEnd}
use Rattle.std.specs.IoError.{error_kind}
use Rattle.std.specs.declared.io.Error.{Error}
use Rattle.typecodes.specs.declared.reading.ReadError.{ReadError}
use Rattle.typecodes.specs.declared.reading.ReadError.TheVariants.{Failed, TooLong, Refused}
use Rattle.typecodes.specs.Message.{FailsBy, GivesAll, GivesText, ReadOutcome, ReadWhole, Transition, size_of}

-- ---- until a buffer is full

-- The buffer is full; or the message ended after `count` bytes, fewer than the buffer takes.
abbrev pub FillsOrEnds : {M : Type 0} → Transition M → ℕ → List ℕ → M → M → Type 0
FillsOrEnds transition count buffer old new =
    ((count ≡ length buffer) × GivesText transition buffer old new)
    ⊎ ((count < length buffer) × GivesAll transition (take count buffer) old new)

-- Ok: the buffer was filled up to the message's end, with what was known to be left. Err: a read failed before with the
-- kind of this error; the bytes before it are in the buffer.
abbrev pub ReadsFull : {M : Type 0} → Transition M → (M → Option (List ℕ)) → Result ℕ Error → List ℕ → M → M → Type 0
ReadsFull transition remaining (Ok count) buffer old new =
    FillsOrEnds transition count buffer old new × Consumes (remaining old) (remaining new) (take count buffer)
    × (count < length buffer → IsAtEnd (remaining new))
ReadsFull transition remaining (Err error) buffer old new =
    (count : ℕ) × (count < length buffer) × FailsBy transition (error_kind error) (take count buffer) old new
    × Consumes (remaining old) (remaining new) (take count buffer)

-- as `Transition`, with the number of bytes that the read asks for
abbrev pub Request : Type 0 → Type 1
Request M = M → ℕ → ReadOutcome → M → Type 0

-- Of `all` bytes `done` were read; a read asks for the rest and may give a part.
abbrev pub AsksForRest : {M : Type 0} → Request M → (all : ℕ) → Transition (ℕ × M)
AsksForRest request all (done, old) outcome (after, new) =
    (after ≡ done + size_of outcome) × (after ≤ all) × request old (all - done) outcome new

-- Each read asked for the rest of the buffer.
abbrev pub RequestsFull : {M : Type 0} → Request M → Result ℕ Error → List ℕ → M → M → Type 0
RequestsFull request (Ok count) buffer old new =
    FillsOrEnds (AsksForRest request (length buffer)) count buffer (0, old) (count, new)
RequestsFull request (Err error) buffer old new =
    (count : ℕ) × FailsBy (AsksForRest request (length buffer)) (error_kind error) (take count buffer) (0, old)
    (count, new)

-- ---- to the end

-- what taking bytes does: (state before, bytes, state after)
abbrev pub Takes : Type 0 → Type 1
Takes T = T → List ℕ → T → Type 0

-- what refusing a piece with an error does
abbrev pub Refuses : Type 0 → Type 0 → Type 1
Refuses T E = T → List ℕ → E → T → Type 0

-- A piece was taken, or refused.
abbrev pub TakesPiece : {T A E : Type 0} → Takes T → Refuses T E → Result A E → List ℕ → T → T → Type 0
TakesPiece takes refuses (Ok _) piece old new = takes old piece new
TakesPiece takes refuses (Err error) piece old new = refuses old piece error new

-- How reading to the end ended.
--
-- - Ok: the message was read whole, and its text was taken.
-- - `Failed`: a read failed with the kind of this error. What came before was taken, except for less than a piece.
-- - `TooLong`: 2^60 bytes were given, and taken.
-- - `Refused`: a piece was refused, whether the message had ended or not.
abbrev pub ReadsToEnd : {M T A E : Type 0} → Transition M → (M → Option (List ℕ)) → Takes T → Refuses T E
    → Result A (ReadError E) → (old new : M) → (before after : T) → Type 0
ReadsToEnd transition remaining takes refuses (Ok _) old new before after =
    (text : List ℕ) × ReadWhole transition remaining text old new × takes before text after
ReadsToEnd transition remaining takes refuses (Err (Failed error)) old new before after =
    (taken : List ℕ) × (rest : List ℕ) × FailsBy transition (error_kind error) (taken ++ rest) old new
    × (length rest < 16384) × takes before taken after
ReadsToEnd transition remaining takes refuses (Err TooLong) old new before after =
    (text : List ℕ) × GivesText transition text old new × (2 ^ 60 ≤ length text) × takes before text after
ReadsToEnd {T = T} transition remaining takes refuses (Err (Refused fault)) old new before after =
    (taken : List ℕ) × (piece : List ℕ) × (middle : T) × takes before taken middle × refuses middle piece fault after
    × (GivesText transition (taken ++ piece) old new ⊎ GivesAll transition (taken ++ piece) old new)
