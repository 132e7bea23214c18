use Rattle.sign_core.proofs.laws.refusal_law.Goals as goal
use Rattle.sign_core.proofs.law.RefusalOrder.{refusal_law}

pub returns : goal.returns
returns c = record { refusals = refusal_law }
