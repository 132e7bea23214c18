use Rattle.sign_core.proofs.laws.stopped_law.Goals as goal
use Rattle.sign_core.proofs.calls.RunsOfCalls.{stopped_law}

pub returns : goal.returns
returns c = λ call. record { stopped = stopped_law c.S.Store }
