-- Blocks side by side: each word is a vector, with one lane for each block.
use Rattle.std.specs.Prelude.{ℕ, List, [], ◌∷◌, ◌++◌, map, slice_index, slice_index_or}
use Rattle.std.specs.Int.{w16, to_be_bytes}
use Rattle.sha2.specs.Sha256.{digest_bytes}

-- The number of lanes. docs/CONTRIBUTING.md lists what else another number changes.
abbrev pub lanes : ℕ
lanes = 8

-- lane j of each vector of a list
abbrev pub lane : ℕ → List (List ℕ) → List ℕ
lane j = map (λ x. slice_index x j)

-- lane j of vector k
abbrev pub lane_at : List (List ℕ) → ℕ → ℕ → ℕ
lane_at x k j = slice_index (slice_index_or x k []) j

-- lane j of eight vectors: a hash value, or the working variables, of block j
abbrev pub lane_state : List (List ℕ) → ℕ → List ℕ
lane_state x j =
    lane_at x 0 j ∷ lane_at x 1 j ∷ lane_at x 2 j ∷ lane_at x 3 j
    ∷ lane_at x 4 j ∷ lane_at x 5 j ∷ lane_at x 6 j ∷ lane_at x 7 j ∷ []

-- the bytes of the hash value in lane j
abbrev pub value_at : List (List ℕ) → ℕ → List ℕ
value_at x j = digest_bytes (lane_state x j) 8

-- what a step hashes after the beginning that all steps of a key share: the chain's number, the step's, and the value
-- (RFC 8554 4.3)
abbrev pub step_bytes : ℕ → ℕ → List ℕ → List ℕ
step_bytes chain at value = to_be_bytes w16 chain ++ at ∷ value
