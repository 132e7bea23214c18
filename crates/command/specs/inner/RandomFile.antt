-- What is drawn from a file of random bytes.
use Rattle.std.specs.Prelude.{ℕ, List, ◌⊎◌, ◌<◌, length, Result, Ok, Err}
use Rattle.typecodes.specs.Message.{GivesAll, GivesText, Transition}
use Rattle.command.specs.FileDisk.{Breaks}

-- The file ended before `size` bytes.
abbrev pub EndsBefore : {M : Type 0} → Transition M → ℕ → M → M → Type 0
EndsBefore transition size old new =
    (first : List ℕ) × (length first < size) × GivesAll transition first old new

-- These bytes were read, and no others. Or the file ended before, or a read failed.
abbrev pub Draws : {M A E : Type 0} → Transition M → List ℕ → Result A E → M → M → Type 0
Draws transition bytes (Ok _) old new = GivesText transition bytes old new
Draws transition bytes (Err _) old new = EndsBefore transition (length bytes) old new ⊎ Breaks transition old new
