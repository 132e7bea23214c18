use Rattle.key_audit.proofs.Hiding.{report_law}
use Rattle.key_audit.proofs.laws.report_law.Goals as goal

pub returns : goal.returns
returns c = report_law
