-- The words so far.
use Rattle.std.proofs.Common.{◌≡◌, ℕ, ◌<◌, length, slice_index}
use Rattle.winternitz.specs.Lanes.{lane_at}
use Rattle.winternitz.proofs.lanes.in_lane.Given as goal

abbrev pub invariant-loop-i : goal.invariant-loop-i
invariant-loop-i l = record {
  long : length l.state ≡ 8;
  each : (k : ℕ) → k < l.i → slice_index l.state k ≡ lane_at l.states k l.lane;
}
