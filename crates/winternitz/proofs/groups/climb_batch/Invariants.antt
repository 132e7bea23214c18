-- Each chain that was on its way is on it, by the lanes so far.
use Rattle.std.proofs.Common.{◌≡◌, ℕ, List, length}
use Rattle.winternitz.specs.inner.Groups.{IsOnItsWay}
use Rattle.winternitz.proofs.groups.climb_batch.Given as goal

abbrev pub invariant-loop-lane : goal.invariant-loop-lane
invariant-loop-lane g l = record {
  places : length l.at ≡ 265;
  values : length l.ends ≡ 265;
  ways : (from : List ℕ) (values : List (List ℕ)) (i : ℕ)
      → IsOnItsWay (g.S.Step.step_of l.step) from l.fn.at l.to values l.fn.ends i
      → IsOnItsWay (g.S.Step.step_of l.step) from l.at l.to values l.ends i;
}
