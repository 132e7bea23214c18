use Rattle.lms.proofs.Verdicts.{laws}
use Rattle.lms.proofs.laws.verdict_laws.Goals as goal

pub returns : goal.returns
returns c = laws
