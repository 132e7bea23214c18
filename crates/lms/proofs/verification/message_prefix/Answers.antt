use Rattle.lms.specs.View.{signature_of}
use Rattle.lms.proofs.verification.message_prefix.Goals as goal

pub returns-clause-ok : goal.returns-clause-ok
returns-clause-ok c = (
  signature_of c.in-Ok.view,
  c.in-Ok.ensures.reads,
  c.message_prefix.ensures,
)
