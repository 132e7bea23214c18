-- What callers see of a file of random bytes, and what a draw from it does.
use Rattle.std.specs.Prelude.{ℕ, List, ◌≡◌, length}
use Rattle.std.specs.Int.{Width, from_le_bytes}
use Rattle.typecodes.specs.Message.{GivesText, Transition}
use Rattle.command.specs.declared.random_file.RandomFile.{RandomFile}
use Rattle.command.specs.declared.trace.Role.TheVariants.{Random}
use Rattle.command.specs.Trace.{Happening, ReadsOnce}

abbrev pub random_file : {F : Type 0} → RandomFile F → F
random_file random = random.file

abbrev pub random_trace : {F : Type 0} → RandomFile F → List Happening
random_trace random = random.trace.events

-- One read of the file happened, and nothing else.
abbrev pub ReadsRandom : {F : Type 0} → Transition (RandomFile F)
ReadsRandom old outcome new = ReadsOnce Random (random_trace old) outcome (random_trace new)

-- Exactly `size` bytes were read, and the number is theirs in little-endian order.
abbrev pub GivesNumber : {M : Type 0} → ℕ → Width → Transition M → M → ℕ → M → Type 0
GivesNumber size width transition old number new = (bytes : List ℕ) × (length bytes ≡ size)
    × (number ≡ from_le_bytes width bytes) × GivesText transition bytes old new
