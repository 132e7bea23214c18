use Rattle.sign_core.proofs.laws.opened_law.Goals as goal
use Rattle.sign_core.proofs.law.OpenedRecords.{opened_law}

pub returns : goal.returns
returns c = record { opened = opened_law }
