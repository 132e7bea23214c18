use Rattle.std.proofs.Common.{◌∙◌, ap}
use Rattle.wots_plus.specs.Key.{ends_of_secret, public_hash}
use Rattle.xmss.proofs.secret.XmssTreeTreeHash.leaf.Goals as goal

pub returns-clause-value : goal.returns-clause-value
returns-clause-value c =
    c.public_hash.ensures
    ∙ ap (λ seed. public_hash seed c.args.i (ends_of_secret seed c.args.i c.args.self.now.secret.secret_seed)) c.args.self.now.seeded
