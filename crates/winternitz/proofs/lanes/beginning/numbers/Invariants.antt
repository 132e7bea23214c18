-- The numbers of the lanes so far.
use Rattle.std.proofs.Common.{◌≡◌, ℕ, ◌+◌, ◌*◌, ◌^◌, ◌<◌, length, slice_index}
use Rattle.winternitz.specs.Lanes.{lanes}
use Rattle.winternitz.proofs.lanes.beginning.numbers.Given as goal

abbrev pub invariant-loop-lane : goal.invariant-loop-lane
invariant-loop-lane l = record {
  long : length l.numbers ≡ lanes;
  each : (j : ℕ) → j < l.lane → slice_index l.numbers j ≡ slice_index l.chains j * 2 ^ 8 + slice_index l.at j;
}
