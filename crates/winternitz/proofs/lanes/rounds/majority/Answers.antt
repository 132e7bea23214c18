use Rattle.winternitz.proofs.Vectors.{majority_at}
use Rattle.winternitz.proofs.lanes.rounds.majority.Goals as goal

pub returns : goal.returns
returns c = majority_at _ c.args.x c.args.y c.args.z c.fits-x.0 c.fits-y.0 c.fits-z.0
