-- Walks along a chain (RFC 8554 4.3; RFC 8391 3.1.2), and the ends of chains (RFC 8554 4.6, step 3; RFC 8391 3.1.6).
use Rattle.std.specs.Prelude.{◌≡◌, ℕ, zero, suc, ◌+◌, ◌-◌, ◌<◌, ◌^◌, List, [], length, map, slice_index, slice_index_or}
use Rattle.std.specs.List.{range_with_len}

-- A step of a chain: from the chain's number, the step's number and a value to the next value.
abbrev pub Steps : Type 0
Steps = ℕ → ℕ → List ℕ → List ℕ

-- v after the n steps a, a + 1, .. of chain c, one after the other
unfoldable pub walk_steps : Steps → ℕ → ℕ → ℕ → List ℕ → List ℕ
walk_steps step c a zero v = v
walk_steps step c a (suc n) v = step c (a + n) (walk_steps step c a n v)

-- v after the steps a, .., b - 1 of chain c
abbrev pub walk : Steps → ℕ → ℕ → ℕ → List ℕ → List ℕ
walk step c a b v = walk_steps step c a (b - a) v

-- chain i's value, walked from the chain's digit to its end
abbrev pub end_at : Steps → ℕ → List ℕ → List (List ℕ) → ℕ → List ℕ
end_at step w digits values i = walk step i (slice_index digits i) (2 ^ w - 1) (slice_index_or values i [])

-- a list of the ends of all chains
pub record AreEnds (step : Steps) (w : ℕ) (digits : List ℕ) (values ends : List (List ℕ)) : Type 0 where
  pub count : length ends ≡ length digits
  pub each : (i : ℕ) → i < length digits → slice_index_or ends i [] ≡ end_at step w digits values i

-- the ends, one for each digit
abbrev pub ends_of : Steps → ℕ → List ℕ → List (List ℕ) → List (List ℕ)
ends_of step w digits values = map (end_at step w digits values) (range_with_len 0 (length digits))
