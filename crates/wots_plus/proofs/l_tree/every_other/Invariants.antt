-- The lanes so far have their values.
use Rattle.std.proofs.Common.{◌≡◌, ℕ, ◌<◌, ◌+◌, ◌*◌, [], length, slice_index_or}
use Rattle.winternitz.specs.Lanes.{lanes}
use Rattle.wots_plus.proofs.l_tree.every_other.Given as goal

abbrev pub invariant-loop-lane : goal.invariant-loop-lane
invariant-loop-lane l = record {
  long : length l.others ≡ lanes;
  each : (j : ℕ) → j < l.lane → slice_index_or l.others j [] ≡ slice_index_or l.values (l.first + 2 * j) [];
}
