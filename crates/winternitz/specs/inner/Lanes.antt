-- Four bytes of a list, and a word that is joined of two.
use Rattle.std.specs.Prelude.{ℕ, ◌+◌, List, [], ◌∷◌, ◌++◌, drop, slice_index, take}
use Rattle.std.specs.Int.{w32, from_be_bytes, to_be_bytes}

-- the four bytes of a list at byte i
abbrev pub four_bytes : List ℕ → ℕ → List ℕ
four_bytes bytes i =
    slice_index bytes i ∷ slice_index bytes (i + 1) ∷ slice_index bytes (i + 2) ∷ slice_index bytes (i + 3) ∷ []

-- the word of the last three bytes of one word and the first byte of another
abbrev pub joined_word : ℕ → ℕ → ℕ
joined_word x y = from_be_bytes w32 (drop 1 (to_be_bytes w32 x) ++ take 1 (to_be_bytes w32 y))
