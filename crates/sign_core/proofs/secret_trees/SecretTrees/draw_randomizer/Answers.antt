use Rattle.std.proofs.Common.{subst}
use Rattle.sign_core.specs.inner.KeyTrees.{MakesTrees}
use Rattle.sign_core.proofs.calls.BindEnds.{chain_randomizer, xmss_randomizer}
use Rattle.sign_core.proofs.secret_trees.SecretTrees.draw_randomizer.Goals as goal

pub returns-in-Chain : goal.returns-in-Chain
returns-in-Chain g c secret trees =
    chain_randomizer secret _ _ _ _ _ c.draw.result (subst (MakesTrees secret) c.in-Chain.is trees) c.draw.ensures.drawn c.draw.ensures.field

pub returns-in-Xmss : goal.returns-in-Xmss
returns-in-Xmss g c secret trees = xmss_randomizer secret _ _ _ (subst (MakesTrees secret) c.in-Xmss.is trees)
