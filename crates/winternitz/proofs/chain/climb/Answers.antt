use Rattle.winternitz.proofs.Walks.{walk_none, walk_more}
use Rattle.winternitz.proofs.chain.climb.Goals as goal

pub loop-at-init : goal.loop-at-init
loop-at-init g c = walk_none _ _ _ _

pub loop-at-preserved : goal.loop-at-preserved
loop-at-preserved g c = walk_more _ _ _ _ _ _ _ c.loop-at.auto.at c.loop-at.invariant c.step-value.ensures
