-- The words of the lanes so far.
use Rattle.std.proofs.Common.{◌≡◌, ℕ, ◌<◌, [], length, slice_index, slice_index_or}
use Rattle.winternitz.specs.Lanes.{lanes}
use Rattle.winternitz.proofs.lanes.side_by_side.Given as goal

abbrev pub invariant-loop-lane : goal.invariant-loop-lane
invariant-loop-lane g l = record {
  long : length l.side_by_side ≡ lanes;
  each : (j : ℕ) → j < l.lane → slice_index l.side_by_side j ≡ slice_index (slice_index_or l.words j []) l.k;
}
