-- The later lanes still have at least this many steps.
use Rattle.std.proofs.Common.{◌≡◌, ℕ, ◌≤◌, ◌<◌, length, slice_index}
use Rattle.winternitz.specs.Lanes.{lanes}
use Rattle.winternitz.proofs.schedule.LaneSchedule.take.Given as goal

abbrev pub invariant-loop-lane : goal.invariant-loop-lane
invariant-loop-lane l = record {
  long : length l.self.own ≡ lanes;
  rest : (j : ℕ) → l.lane ≤ j → j < lanes → l.steps ≤ slice_index l.self.own j;
  chains : l.self.chains ≡ l.initial.self.chains;
}
