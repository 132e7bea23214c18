use Rattle.std.proofs.Common.{◌*◌, ◌%◌, ◌^◌}
use Rattle.winternitz.proofs.Vectors.{shift_at}
use Rattle.winternitz.specs.Lanes.{lanes}
use Rattle.winternitz.proofs.lanes.rounds.shifted_left.Goals as goal

pub returns : goal.returns
returns c = shift_at (λ x n. x * 2 ^ n % 2 ^ 32) lanes c.args.by c.args.x c.fits-x.0
