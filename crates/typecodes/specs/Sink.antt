-- What writes of bytes do, one after the other.
use Rattle.std.specs.Prelude.{◌≡◌, ◌⊎◌, ◌<◌, ◌≤◌, ◌+◌, ℕ, List, drop, length, take, Option, Result, Ok, Err}
use Rattle.std.specs.Io.KnownBytes.{Appends}
use Rattle.std.specs.IoError.{error_kind}
use Rattle.std.specs.declared.io.Error.{Error}
use Rattle.std.specs.declared.io.ErrorKind.TheVariants.{WriteZero}
use Rattle.typecodes.specs.Message.{FailsBy, GivesAll, GivesText, ReadOutcome, Transition, size_of}

-- the bytes that one write took, or the kind of its error
abbrev pub WriteOutcome : Type 0
WriteOutcome = ReadOutcome

-- what a write does: (state before, offered bytes, outcome, state after)
abbrev pub Write : Type 0 → Type 1
Write S = S → List ℕ → WriteOutcome → S → Type 0

-- Of the bytes `done` were taken; a write is offered the rest and may take a part.
abbrev pub OffersRest : {S : Type 0} → Write S → (bytes : List ℕ) → Transition (ℕ × S)
OffersRest write bytes (done, old) outcome (after, new) =
    (after ≡ done + size_of outcome) × (after ≤ length bytes) × write old (drop done bytes) outcome new

-- Ok: the bytes were written, each write taking at least one. Err: so were the first ones, up to a write that took
-- nothing, or that failed with the kind of this error.
abbrev pub WritesAll : {S A : Type 0} → Write S → (S → Option (List ℕ)) → Result A Error → List ℕ → S → S → Type 0
WritesAll write contents (Ok _) bytes old new =
    GivesText (OffersRest write bytes) bytes (0, old) (length bytes, new) × Appends (contents old) (contents new) bytes
WritesAll write contents (Err error) bytes old new =
    (done : ℕ) × (done < length bytes) × Appends (contents old) (contents new) (take done bytes)
    × (((error_kind error ≡ WriteZero) × GivesAll (OffersRest write bytes) (take done bytes) (0, old) (done, new))
    ⊎ FailsBy (OffersRest write bytes) (error_kind error) (take done bytes) (0, old) (done, new))
