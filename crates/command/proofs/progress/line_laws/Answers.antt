use Rattle.command.proofs.ProgressLaws.{laws}
use Rattle.command.proofs.progress.line_laws.Goals as goal

pub returns : goal.returns
returns c = laws
