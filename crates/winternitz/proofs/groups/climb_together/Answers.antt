use Rattle.std.proofs.Common.{refl}
use Rattle.winternitz.proofs.Ways.{way_begun}
use Rattle.winternitz.proofs.groups.climb_together.Goals as goal

pub next_batch-requires-clause-order : goal.next_batch-requires-clause-order
next_batch-requires-clause-order g c = λ i low.
    let begun = way_begun (g.S.Step.step_of c.args.step.now) c.args.at.now c.args.at.now c.args.to.now c.args.ends.now c.args.ends.now i refl refl (c.requires.order i low) in
    let way = c.loop-batch.invariant.ways c.args.at.now c.args.ends.now i low begun in
    way.within
