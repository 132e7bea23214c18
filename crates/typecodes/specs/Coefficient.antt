-- coef (RFC 8554 3.1.3)
use Rattle.std.specs.Prelude.{ℕ, ◌+◌, ◌-◌, ◌*◌, ◌/◌, ◌%◌, ◌^◌, List, slice_index}

-- digit i of s in digits of w bits: byte i * w / 8, shifted right past the later digits in it, and cut to w bits
abbrev pub coef_of : List ℕ → ℕ → ℕ → ℕ
coef_of s i w = slice_index s (i * w / 8) / 2 ^ (8 - (w * (i % (8 / w)) + w)) % 2 ^ w
