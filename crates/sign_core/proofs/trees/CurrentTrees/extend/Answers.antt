use Rattle.std.proofs.Common.{◌-◌, refl}
use Rattle.sign_core.proofs.ledgers.KeptTrees.{follows_extend}
use Rattle.sign_core.proofs.trees.CurrentTrees.extend.Goals as goal

pub returns : goal.returns
returns c =
    follows_extend c.args.self.now.levels c.raise.new.self.levels c.make.new.self.levels c.args.level (c.args.level - 1) c.args.parent_leaf c.args.place
    c.requires.below refl c.raise.ensures c.make.ensures
