use Rattle.winternitz.proofs.Vectors.{rotation_at}
use Rattle.winternitz.specs.Lanes.{lanes}
use Rattle.winternitz.proofs.lanes.rounds.rotated.Goals as goal

pub returns : goal.returns
returns c = rotation_at lanes c.args.by c.requires.0 c.requires.1 c.args.x c.fits-x.0
