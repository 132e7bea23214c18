use Rattle.key_audit.proofs.Counting.{count_law}
use Rattle.key_audit.proofs.laws.count_law.Goals as goal

pub returns : goal.returns
returns c = count_law
