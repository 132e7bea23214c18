-- The lanes so far have their blocks.
use Rattle.std.proofs.Common.{◌≡◌, ℕ, ◌<◌, ◌++◌, [], length, slice_index, slice_index_or}
use Rattle.winternitz.specs.Lanes.{lanes}
use Rattle.wots_plus.specs.Address.{one_time}
use Rattle.wots_plus.proofs.lane_keys.LaneKeys.private_values.Given as goal

abbrev pub invariant-loop-lane : goal.invariant-loop-lane
invariant-loop-lane l = record {
  long : length l.blocks ≡ lanes;
  each : (j : ℕ) → j < l.lane
      → slice_index_or l.blocks j [] ≡ l.self.seed.now.key ++ one_time (slice_index l.self.leaves j) l.chain 0 0;
  size : (j : ℕ) → j < l.lane → length (slice_index_or l.blocks j []) ≡ 64;
}
