-- The trees of the levels so far are kept.
use Rattle.std.proofs.Common.{◌≡◌, length}
use Rattle.sign_core.proofs.ledgers.KeptTrees.{AreAbove}
use Rattle.sign_core.proofs.trees.CurrentTrees.make.Given as goal

abbrev pub invariant-loop-higher : goal.invariant-loop-higher
invariant-loop-higher l = (length l.levels ≡ 8) × AreAbove l.fn.self.levels l.higher l.levels
