use Rattle.typecodes.specs.Types.{chains_of}
use Rattle.typecodes.proofs.Parts.{values_at}
use Rattle.lms.proofs.signature.LmsSigView.chain.Goals as goal

pub returns-clause-range : goal.returns-clause-range
returns-clause-range c = values_at (chains_of c.args.self.now.pair.ots) 40 _ _ _ c.args.i c.args.self.now.chains_at c.requires c.from.ensures
