-- The first bytes of the lanes so far.
use Rattle.std.proofs.Common.{◌≡◌, ℕ, ◌<◌, ◌++◌, [], length, slice_index, slice_index_or}
use Rattle.lmots.specs.Hashes.{u32str}
use Rattle.winternitz.specs.Lanes.{lanes}
use Rattle.lmots.proofs.lane_keys.LaneKeys.of.Given as goal

abbrev pub invariant-loop-lane : goal.invariant-loop-lane
invariant-loop-lane l = record {
  long : length l.first ≡ lanes;
  each : (j : ℕ) → j < l.lane → slice_index_or l.first j [] ≡ l.identifier ++ u32str (slice_index l.leaves j);
}
