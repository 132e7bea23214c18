use Rattle.std.proofs.Common.{◌∙◌, ap₂}
use Rattle.wots_plus.specs.Key.{ends_of_secret, public_hash}
use Rattle.xmss.proofs.secret.XmssTreeTreeHash.leaves_in_lanes.Goals as goal

pub returns-clause-values : goal.returns-clause-values
returns-clause-values c = λ j low.
    let secret = c.args.self.now.secret in
    c.public_hashes_in_lanes.ensures j low
    ∙ ap₂ (λ seed index. public_hash seed index (ends_of_secret seed index secret.secret_seed))
    c.args.self.now.seeded (c.leaves_from-leaves.ensures j low)
