-- The chains of the last lanes are below the count.
use Rattle.std.proofs.Common.{ℕ, ◌+◌, ◌≤◌, ◌<◌, slice_index}
use Rattle.winternitz.specs.Lanes.{lanes}
use Rattle.winternitz.proofs.schedule.are_apart.Given as goal

abbrev pub invariant-loop-lane : goal.invariant-loop-lane
invariant-loop-lane l = record {
  end : l.end ≤ l.count;
  below : (j : ℕ) → lanes ≤ j + l.lane → j < lanes → slice_index l.chains j < l.count;
}
