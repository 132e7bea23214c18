-- Each chain that was on its way still is.
use Rattle.std.proofs.Common.{ℕ, ◌<◌, List, length}
use Rattle.winternitz.specs.inner.Groups.{IsOnItsWay}
use Rattle.winternitz.proofs.groups.climb_together.Given as goal

abbrev pub invariant-loop-batch : goal.invariant-loop-batch
invariant-loop-batch g l = record {
  ways : (from : List ℕ) (values : List (List ℕ)) (i : ℕ) → i < length l.to
      → IsOnItsWay (g.S.Step.step_of l.step) from l.fn.at l.to values l.fn.ends i
      → IsOnItsWay (g.S.Step.step_of l.step) from l.at l.to values l.ends i;
}
