use Rattle.key_audit.proofs.Runs.{moved_law, runs_law}
use Rattle.key_audit.proofs.laws.runs_law.Goals as goal

pub returns : goal.returns
returns c = λ call. record {
  calls = runs_law c.D.Disk c.E.Disk _ c.R.Source call.headline_law.ensures.calls;
  moved = moved_law c.D.Disk c.E.Disk _ _ c.R.Source call.headline_law.ensures.moved;
}
