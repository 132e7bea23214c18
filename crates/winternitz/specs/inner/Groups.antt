-- Chains that are partly climbed, and which of them climb together.
use Rattle.std.specs.Prelude.{◌≡◌, ℕ, ◌+◌, ◌<◌, ◌≤◌, List, [], length, slice_index, slice_index_or}
use Rattle.winternitz.specs.Chain.{Steps}
use Rattle.winternitz.specs.inner.Chain.{walk_at}
use Rattle.winternitz.specs.Lanes.{lanes}

-- chain i stands between its two places, with the value that it has there
pub record IsOnItsWay (step : Steps) (from at to : List ℕ) (values ends : List (List ℕ)) (i : ℕ) : Type 0 where
  pub begun : slice_index from i ≤ slice_index at i
  pub within : slice_index at i ≤ slice_index to i
  pub value : slice_index_or ends i [] ≡ walk_at step from at values i

-- each lane's chain is among those that climb, with at least this many steps left
abbrev pub IsWithin : List ℕ → ℕ → List ℕ → List ℕ → Type 0
IsWithin chains steps at to = (j : ℕ) → j < lanes
    → (slice_index chains j < length to)
    × (slice_index at (slice_index chains j) + steps ≤ slice_index to (slice_index chains j))
