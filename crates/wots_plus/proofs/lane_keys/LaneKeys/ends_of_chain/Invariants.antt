-- Each lane has taken `at` steps from its private value.
use Rattle.std.proofs.Common.{◌≡◌, ℕ, ◌<◌, List, [], slice_index, slice_index_or}
use Rattle.winternitz.specs.Lanes.{lanes}
use Rattle.wots_plus.specs.Key.{chain_value}
use Rattle.wots_plus.specs.inner.LaneKeys.{BeginsPrivateValues}
use Rattle.wots_plus.proofs.lane_keys.LaneKeys.ends_of_chain.Given as goal

abbrev pub invariant-loop-at : goal.invariant-loop-at
invariant-loop-at l = (secret : List ℕ) → BeginsPrivateValues secret l.first → (j : ℕ) → j < lanes
    → slice_index_or l.values j [] ≡ chain_value l.self.seed.now.key (slice_index l.self.leaves j) secret l.chain l.at
