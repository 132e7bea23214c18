use Rattle.key_audit.proofs.AuditLaw.{audit_law}
use Rattle.key_audit.proofs.laws.audit_laws.Goals as goal

pub returns : goal.returns
returns c = audit_law
