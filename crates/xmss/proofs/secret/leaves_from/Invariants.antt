-- The lanes so far have their numbers.
use Rattle.std.proofs.Common.{◌≡◌, ℕ, ◌<◌, ◌+◌, length, slice_index}
use Rattle.winternitz.specs.Lanes.{lanes}
use Rattle.xmss.proofs.secret.leaves_from.Given as goal

abbrev pub invariant-loop-lane : goal.invariant-loop-lane
invariant-loop-lane l = record {
  long : length l.leaves ≡ lanes;
  each : (j : ℕ) → j < l.lane → slice_index l.leaves j ≡ l.first + j;
}
