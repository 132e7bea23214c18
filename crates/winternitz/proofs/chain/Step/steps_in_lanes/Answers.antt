use Rattle.winternitz.proofs.Walks.{walk_begun, walk_further}
use Rattle.winternitz.proofs.chain.Step.steps_in_lanes.Goals as goal

pub loop-taken-init : goal.loop-taken-init
loop-taken-init g c = λ j low. walk_begun _ _ _ _

pub loop-taken-preserved : goal.loop-taken-preserved
loop-taken-preserved g c = λ j low.
    walk_further _ _ _ _ _ _ _ _ (c.loop-taken.invariant j low) (c.added.ensures j low) (c.step_in_lanes-values.ensures j low)
