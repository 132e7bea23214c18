-- What the reading of a signature's fields goes on with.
use Rattle.typecodes.proofs.Leaves.{leaf_index}
use Rattle.typecodes.proofs.Steps.{reading}

pub ruleset fields = (reading, leaf_index)
