use Rattle.std.proofs.Common.{length}
use Rattle.merkle.proofs.nodes.+read_path.Given as goal

abbrev pub decreases-read_path : goal.decreases-read_path
decreases-read_path l = length l.into.now
