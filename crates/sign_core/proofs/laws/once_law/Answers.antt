use Rattle.sign_core.proofs.laws.once_law.Goals as goal
use Rattle.sign_core.specs.World.{beginning, run}
use Rattle.sign_core.proofs.law.KeptByRuns.{kept_by_run}
use Rattle.sign_core.proofs.law.Once.{once}
use Rattle.sign_core.specs.Once.{OnceLaw}

pub returns : goal.returns
returns c =
    let law : OnceLaw = λ limit events all. once limit (run limit beginning events) (kept_by_run limit events all) in
    record { headline = λ limit events all. (law limit events all).signatures; once = law }
