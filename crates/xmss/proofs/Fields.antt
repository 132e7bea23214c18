-- What the reading of a signature's fields goes on with.
use Rattle.typecodes.proofs.Leaves.{leaf_index}
use Rattle.typecodes.proofs.Steps.{reading, steps}

pub ruleset fields = (reading, steps, leaf_index)
