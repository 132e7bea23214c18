use Rattle.xmss.proofs.Parts.{chain_at}
use Rattle.xmss.proofs.signature.XmssSigView.chain.Goals as goal

pub returns-clause-range : goal.returns-clause-range
returns-clause-range c = chain_at 36 _ _ _ c.args.i c.args.self.now.chains_at c.requires c.from.ensures
