use Rattle.std.proofs.Common.{rules}
use Rattle.sign_core.proofs.exchanges.Replying.{part_lost}
use Rattle.sign_core.proofs.serving.write_part.Goals as goal

pub returns : goal.returns
returns g c = let same = c.map_err.ensures.cases in search (rules, part_lost, same)
