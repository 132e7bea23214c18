-- The numbers so far.
use Rattle.std.proofs.Common.{◌≡◌, ℕ, ◌<◌, ◌+◌, length, slice_index}
use Rattle.winternitz.specs.Lanes.{lanes}
use Rattle.lmots.proofs.chains.numbers_from.Given as goal

abbrev pub invariant-loop-lane : goal.invariant-loop-lane
invariant-loop-lane l = record {
  long : length l.numbers ≡ lanes;
  each : (j : ℕ) → j < l.lane → slice_index l.numbers j ≡ l.first + j;
}
