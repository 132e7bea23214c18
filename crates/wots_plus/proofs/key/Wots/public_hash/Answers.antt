use Rattle.std.proofs.Common.{◌∙◌, ap}
use Rattle.wots_plus.specs.Key.{public_hash}
use Rattle.wots_plus.proofs.key.Wots.public_hash.Goals as goal

pub returns : goal.returns
returns c = c.l_tree.ensures.value ∙ ap (public_hash _ _) c.ends_from_secret-ends.ensures
