use Rattle.winternitz.proofs.Vectors.{sha256_by_two}
use Rattle.winternitz.proofs.lanes.last_of_96.Goals as goal

pub returns : goal.returns
returns c = λ block long. sha256_by_two block _ _ long c.told-last c.padded_96.ensures
