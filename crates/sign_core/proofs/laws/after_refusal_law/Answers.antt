use Rattle.sign_core.proofs.laws.after_refusal_law.Goals as goal
use Rattle.sign_core.proofs.law.AfterRefusal.{after_refusal_law}

pub returns : goal.returns
returns c = record { refused = after_refusal_law }
