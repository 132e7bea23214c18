use Rattle.sign_core.proofs.laws.lasting_law.Goals as goal
use Rattle.sign_core.proofs.law.Lasting.{lasting_law}

pub returns : goal.returns
returns c = record { lasting = lasting_law }
