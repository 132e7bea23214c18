-- Values of several keys side by side: rows with a value in each lane.
use Rattle.std.specs.Prelude.{◌≡◌, ℕ, ◌<◌, List, [], ◌++◌, length, map, slice_index_or}
use Rattle.sha2.specs.Sha256.{compress, initial_hash_256}
use Rattle.winternitz.specs.Lanes.{lane_state, lanes}
use Rattle.wots_plus.specs.Hashes.{to_byte}

-- lane j of all rows
abbrev pub in_lane : ℕ → List (List (List ℕ)) → List (List ℕ)
in_lane j rows = map (λ row. slice_index_or row j []) rows

-- each lane has the hash value after the first block of private values: the hash's number and the secret
pub record BeginsPrivateValues (secret : List ℕ) (first : List (List ℕ)) : Type 0 where
  pub is_block : length (to_byte 4 32 ++ secret) ≡ 64
  pub state : (j : ℕ) → j < lanes → lane_state first j ≡ compress initial_hash_256 (to_byte 4 32 ++ secret)
