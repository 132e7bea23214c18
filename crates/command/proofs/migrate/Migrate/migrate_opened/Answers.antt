use Rattle.std.proofs.Common.{inl, inr, None, refl, subst}
use Rattle.command.specs.KeyFile.{AuditsOn}
use Rattle.command.proofs.migrate.Migrate.migrate_opened.Goals as goal

pub returns-in-Ok-clause-migrates : goal.returns-in-Ok-clause-migrates
returns-in-Ok-clause-migrates g c =
    inl (
      c.audit-old.result.0,
      c.migrate-old.result.0,
      c.migrate-old.result.1,
      c.in-Ok.report,
      c.migrate-old.result.2,
      subst (λ audited. AuditsOn g.D.Disk.Disk c.args.old c.audit-old.result.0 None audited) c.in-Ok.is c.audit-old.ensures.audits,
      c.migrate-old.ensures.migrates,
      c.close_state-in-Ok.ensures.closed,
      c.close_state-in-Ok.ensures.stays _ c.close_state.ensures.closed,
      c.answer_to.ensures,
    )

pub returns-clause-migrates : goal.returns-clause-migrates
returns-clause-migrates g c =
    inr (
      c.audit-old.result.0,
      c.in-Err.refusal,
      subst (λ audited. AuditsOn g.D.Disk.Disk c.args.old c.audit-old.result.0 None audited) c.in-Err.is c.audit-old.ensures.audits,
      c.close_state-in-Err-2.ensures.closed,
      c.close_state-in-Err-2.ensures.stays _ c.close_state-in-Err.ensures.closed,
      refl,
    )
