use Rattle.std.proofs.Common.{◌∙◌, ◌<◌, length, arith, length-set}
use Rattle.sign_core.specs.Trees.{kept_at}
use Rattle.sign_core.proofs.ledgers.KeptTrees.{above_more}
use Rattle.sign_core.proofs.trees.CurrentTrees.make.Goals as goal

pub loop-higher-preserved : goal.loop-higher-preserved
loop-higher-preserved c =
    let (long, above) = c.loop-higher.invariant in
    let within : c.loop-higher.higher < length c.loop-higher.levels = omega (arith, long, c.loop-higher-test.true, c.requires) in (
      length-set c.loop-higher.levels c.loop-higher.higher (kept_at c.args.self.now.levels c.loop-higher.higher) ∙ long,
      above_more c.args.self.now.levels c.loop-higher.levels c.loop-higher.higher within above,
    )
