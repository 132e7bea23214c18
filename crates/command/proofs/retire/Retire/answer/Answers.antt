use Rattle.std.proofs.Common.{◌∙◌, ap, inr, sym}
use Rattle.command.specs.Retire.{retire_answer}
use Rattle.command.proofs.retire.Retire.answer.Goals as goal

pub returns-in-Ok : goal.returns-in-Ok
returns-in-Ok g c =
    inr (
      c.in_ok-disk.disk,
      c.retire-disk.result.0,
      c.retire-disk.result.1,
      c.in_ok-disk.ensures.opened,
      c.retire-disk.ensures.retires,
      c.close_state.ensures.closed,
      sym (ap (retire_answer c.args.self.now.upto) c.in-Ok.is),
      c.close_state.ensures.trace ∙ c.in_ok-disk.ensures.trace,
    )

pub returns : goal.returns
returns g c =
    inr (
      c.in_ok-disk.disk,
      c.retire-disk.result.0,
      c.retire-disk.result.1,
      c.in_ok-disk.ensures.opened,
      c.retire-disk.ensures.retires,
      c.close_state.ensures.closed,
      sym (ap (retire_answer c.args.self.now.upto) c.in-Err.is),
      c.close_state.ensures.trace ∙ c.in_ok-disk.ensures.trace,
    )
