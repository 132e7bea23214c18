-- What the rounds add of blocks side by side: W[t] + K[t] (FIPS 180-4 6.2.2, steps 1 and 3).
use Rattle.std.specs.Prelude.{◌≡◌, ℕ, ◌*◌, ◌<◌, List, drop, slice_index, take}
use Rattle.sha2.specs.Sha256.{IsWindow, add32, round_constants, schedule}
use Rattle.winternitz.specs.Lanes.{lane, lane_at}

-- block j of a list of blocks
abbrev pub block_of : List ℕ → ℕ → List ℕ
block_of bytes j = take 64 (drop (j * 64) bytes)

-- W[t] + K[t] of block b
abbrev pub sum_at : List ℕ → ℕ → ℕ
sum_at b t = add32 (slice_index (schedule b 48) t) (slice_index round_constants t)

-- lane j has the sums of block b for the first n rounds
abbrev pub HasSums : List ℕ → ℕ → List (List ℕ) → ℕ → Type 0
HasSums b j sums n = (t : ℕ) → t < n → lane_at sums t j ≡ sum_at b t

-- before round t, lane j has the schedule's last 16 words of block b, and the sums so far
abbrev pub AreSumsAt : List ℕ → ℕ → List (List ℕ) → List (List ℕ) → ℕ → Type 0
AreSumsAt b j window sums t = IsWindow (lane j window) (schedule b 48) t × HasSums b j sums t
