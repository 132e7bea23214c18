use Rattle.sign_core.proofs.laws.left_law.Goals as goal
use Rattle.sign_core.proofs.law.Left.{left_law}

pub returns : goal.returns
returns c = λ call. record { left = left_law c.S.Store c.R.Source }
