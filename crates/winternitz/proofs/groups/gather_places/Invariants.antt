-- The places of the lanes so far.
use Rattle.std.proofs.Common.{◌≡◌, ℕ, ◌<◌, length, slice_index}
use Rattle.winternitz.specs.Lanes.{lanes}
use Rattle.winternitz.proofs.groups.gather_places.Given as goal

abbrev pub invariant-loop-lane : goal.invariant-loop-lane
invariant-loop-lane l = record {
  long : length l.picked ≡ lanes;
  each : (j : ℕ) → j < l.lane → slice_index l.picked j ≡ slice_index l.places (slice_index l.chains j);
}
