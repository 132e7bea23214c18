use Rattle.std.proofs.Common.{inl, inr, refl}
use Rattle.command.proofs.key_file.audit.Goals as goal

pub returns-in-Ok-clause-audits : goal.returns-in-Ok-clause-audits
returns-in-Ok-clause-audits g c =
    inr (c.in-Ok.store, c.audit_replayed.new.store, c.audit_replayed.result, c.in-Ok.ensures.finds, c.audit_replayed.ensures, c.reported-audited.ensures, c.into_disk.ensures)

pub returns-in-Ok-clause-tells : goal.returns-in-Ok-clause-tells
returns-in-Ok-clause-tells g c = inr (c.in-Ok.store, c.in-Ok.ensures.finds, c.warn_behind.ensures)

pub returns-in-Err-clause-tells : goal.returns-in-Err-clause-tells
returns-in-Err-clause-tells g c = inl (c.in-Err.refused.fault, refl, c.in-Err.ensures.finds.fault, refl)
