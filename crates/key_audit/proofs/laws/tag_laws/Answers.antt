use Rattle.key_audit.proofs.Tags.{tag_law}
use Rattle.key_audit.proofs.laws.tag_laws.Goals as goal

pub returns : goal.returns
returns c = tag_law
