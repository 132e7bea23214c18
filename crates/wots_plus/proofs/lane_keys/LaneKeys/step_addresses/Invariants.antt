-- The lanes so far have their addresses.
use Rattle.std.proofs.Common.{◌≡◌, ℕ, ◌<◌, [], length, slice_index, slice_index_or}
use Rattle.winternitz.specs.Lanes.{lanes}
use Rattle.wots_plus.specs.Address.{one_time}
use Rattle.wots_plus.proofs.lane_keys.LaneKeys.step_addresses.Given as goal

abbrev pub invariant-loop-lane : goal.invariant-loop-lane
invariant-loop-lane l = record {
  long : length l.addresses ≡ lanes;
  each : (j : ℕ) → j < l.lane
      → slice_index_or l.addresses j [] ≡ one_time (slice_index l.self.leaves j) l.chain l.at l.key_and_mask;
}
