use Rattle.sign_core.proofs.laws.cut_law.Goals as goal
use Rattle.sign_core.proofs.law.Cuts.{cut_law}

pub returns : goal.returns
returns c = record { cut = cut_law }
