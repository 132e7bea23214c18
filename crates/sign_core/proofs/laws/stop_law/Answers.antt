use Rattle.sign_core.proofs.laws.stop_law.Goals as goal
use Rattle.sign_core.proofs.law.Crashes.{stop_law}

pub returns : goal.returns
returns c = record { stops = stop_law }
