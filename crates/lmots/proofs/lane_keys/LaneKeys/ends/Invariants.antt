-- Each chain has walked the steps so far from its private value.
use Rattle.std.proofs.Common.{◌≡◌, ℕ, ◌<◌, List, slice_index}
use Rattle.lmots.specs.Key.{chain_value}
use Rattle.winternitz.specs.Lanes.{lanes, value_at}
use Rattle.lmots.proofs.lane_keys.LaneKeys.ends.Given as goal

abbrev pub invariant-loop-at : goal.invariant-loop-at
invariant-loop-at l = (j : ℕ) → j < lanes → (seed : List ℕ) → value_at l.seeds j ≡ seed
    → value_at l.values j ≡ chain_value l.self.identifier (slice_index l.self.leaves j) seed l.chain l.at
