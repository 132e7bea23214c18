-- One read of a file, and how the bytes that are read are counted.
use Rattle.std.specs.Prelude.{ℕ, List, [], ◌++◌, Option, length, ◌≡◌, ◌<◌, ◌^◌}
use Rattle.std.proofs.Common.{append_assoc, append-nil, subst, sym}
use Rattle.command.specs.declared.trace.Role.{Role}
use Rattle.typecodes.specs.Message.{Transition}
use Rattle.command.specs.Trace.{Happening, ReadsOnce}

-- what is known to be left of a file, and what happened
abbrev pub FileState : Type 0
FileState = Option (List ℕ) × List Happening

abbrev pub left_of : FileState → Option (List ℕ)
left_of file = file.0

-- One read of this file happened, and nothing else.
abbrev pub ReadsFileOnce : Role → Transition FileState
ReadsFileOnce role old outcome new = ReadsOnce role old.1 outcome new.1

-- the count of these bytes, if they are fewer than 2^64
abbrev pub IsCount : List ℕ → ℕ → Type 0
IsCount bytes count = length bytes < 2 ^ 64 → count ≡ length bytes

-- After the bytes before them, these were counted too.
abbrev pub CountsBytes : (before : ℕ) (bytes : List ℕ) (after : ℕ) → Type 0
CountsBytes before bytes after = (seen : List ℕ) → IsCount seen before → IsCount (seen ++ bytes) after

pub counts_nothing : (count : ℕ) → CountsBytes count [] count
counts_nothing count seen is = subst (λ l. IsCount l count) (sym (append-nil seen)) is

pub counts_more : (before middle after : ℕ) (first later : List ℕ) → CountsBytes before first middle
    → CountsBytes middle later after → CountsBytes before (first ++ later) after
counts_more before middle after first later one more seen is =
    subst (λ l. IsCount l after) (append_assoc seen first later) (more (seen ++ first) (one seen is))
