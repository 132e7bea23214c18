-- The places of the lanes so far.
use Rattle.std.proofs.Common.{◌≡◌, ℕ, ◌<◌, ◌+◌, length, slice_index}
use Rattle.winternitz.specs.Lanes.{lanes}
use Rattle.winternitz.proofs.chain.added.Given as goal

abbrev pub invariant-loop-lane : goal.invariant-loop-lane
invariant-loop-lane l = record {
  long : length l.places ≡ lanes;
  each : (j : ℕ) → j < l.lane → slice_index l.places j ≡ slice_index l.from j + l.taken;
}
