-- No more than each of the lanes so far can take.
use Rattle.std.proofs.Common.{ℕ, ◌+◌, ◌≤◌, ◌<◌, slice_index}
use Rattle.winternitz.proofs.schedule.LaneSchedule.steps_together.Given as goal

abbrev pub invariant-loop-lane : goal.invariant-loop-lane
invariant-loop-lane l = record {
  left : l.steps ≤ l.self.left;
  own : (j : ℕ) → j < l.lane → l.steps ≤ slice_index l.self.own j;
  reach : (j : ℕ) → j < l.lane
      → slice_index l.at (slice_index l.self.chains j) + l.steps ≤ slice_index l.to (slice_index l.self.chains j);
}
