use Rattle.typecodes.specs.Types.{xmss_height_of}
use Rattle.typecodes.proofs.Parts.{values_at}
use Rattle.xmss.proofs.signature.XmssSigView.node.Goals as goal

pub returns-clause-range : goal.returns-clause-range
returns-clause-range c = values_at (xmss_height_of c.args.self.now.tree) 2180 _ _ _ c.args.k c.args.self.now.path_at c.requires c.from.ensures
