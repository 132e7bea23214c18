-- The lanes so far are counted.
use Rattle.std.proofs.Common.{◌≡◌, ◌+◌}
use Rattle.xmss.proofs.secret.count_lanes.Given as goal

abbrev pub invariant-loop-lane : goal.invariant-loop-lane
invariant-loop-lane l = l.made ≡ l.initial.made + l._lane
