-- The leaves of the lanes so far are counted.
use Rattle.std.proofs.Common.{◌≡◌, ◌+◌}
use Rattle.lms.proofs.secret.LmsTree.count_lanes.Given as goal

abbrev pub invariant-loop-lane : goal.invariant-loop-lane
invariant-loop-lane l = record {
  secret : l.self.secret ≡ l.initial.self.secret;
  made : l.self.made ≡ l.initial.self.made + l._lane;
}
