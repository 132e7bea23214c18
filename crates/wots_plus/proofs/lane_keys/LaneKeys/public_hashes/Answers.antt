use Rattle.std.proofs.Common.{◌∙◌, ap}
use Rattle.wots_plus.specs.Key.{public_hash}
use Rattle.wots_plus.proofs.lane_keys.LaneKeys.public_hashes.Goals as goal

pub returns : goal.returns
returns c = λ j low. c.l_trees.ensures j low ∙ ap (public_hash _ _) (c.ends-ends.ensures j low)
