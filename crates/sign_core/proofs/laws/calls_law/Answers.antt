use Rattle.sign_core.proofs.laws.calls_law.Goals as goal
use Rattle.sign_core.proofs.calls.RunsOfCalls.{calls_law}

pub returns : goal.returns
returns c = record { calls = calls_law }
