use Rattle.xmss.proofs.Verdicts.{laws}
use Rattle.xmss.proofs.laws.verdict_laws.Goals as goal

pub returns : goal.returns
returns c = laws
