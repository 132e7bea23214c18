use Rattle.winternitz.proofs.Vectors.{maj_short}
use Rattle.winternitz.proofs.compression.majority.Goals as goal

pub returns : goal.returns
returns c = maj_short c.args.x c.args.y c.args.z
