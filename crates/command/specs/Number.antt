-- Decimal numbers in the words of a line.
use Rattle.std.specs.Prelude.{ℕ, List, [], ◌∷◌, ◌+◌, ◌-◌, ◌*◌, Option, Some, None, if◌then◌else◌, nat_lt}
use Rattle.std.specs.Char.{is_ascii_digit}

-- a number with one more decimal digit at its end, by the digit's byte
abbrev pub with_digit : ℕ → ℕ → ℕ
with_digit number byte = number * 10 + (byte - 48)

-- These digits continue a number. None for a byte that is no digit, or past `most`.
unfoldable pub continued_number : (most number : ℕ) → List ℕ → Option ℕ
continued_number most number [] = Some number
continued_number most number (byte ∷ bytes) =
    if is_ascii_digit byte
    then (if nat_lt most (with_digit number byte) then None else continued_number most (with_digit number byte) bytes)
    else None

-- The number of a text of decimal digits, at least one, up to `most`.
abbrev pub decimal_number : (most : ℕ) → List ℕ → Option ℕ
decimal_number most [] = None
decimal_number most (byte ∷ bytes) = continued_number most 0 (byte ∷ bytes)
