use Rattle.std.proofs.Common.{◌∙◌, inr}
use Rattle.command.proofs.audit.Audit.answer.Goals as goal

pub returns : goal.returns
returns g c =
    inr (
      c.in_ok-disk.disk,
      c.audit-disk.result.0,
      c.audit-disk.result.1,
      c.in_ok-disk.ensures.opened,
      c.audit-disk.ensures.audits,
      c.close_state.ensures.closed,
      c.answer_to.ensures,
      c.close_state.ensures.trace ∙ c.in_ok-disk.ensures.trace,
    )
