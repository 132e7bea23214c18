-- The loop has walked from the first step up to its own.
use Rattle.std.proofs.Common.{◌≡◌}
use Rattle.winternitz.specs.Chain.{walk}
use Rattle.winternitz.proofs.chain.climb.Given as goal

abbrev pub invariant-loop-at : goal.invariant-loop-at
invariant-loop-at g l = l.value ≡ walk (g.S.Step.step_of l.step) l.chain l.from l.at l.fn.value
