use Rattle.std.proofs.Common.{inr, subst}
use Rattle.command.specs.AuditGiven.{AnswersGiven}
use Rattle.command.proofs.GivenDeciding.{answers_whole}
use Rattle.command.proofs.audit_given.judge_pairs.Goals as goal

pub returns : goal.returns
returns g c =
    let given = c.in_ok-given.given.items in
    let answers = subst (λ l. AnswersGiven c.args.key l c.judge_given.result) c.as_slice.ensures.value c.judge_given.ensures in
    inr (given, c.in_ok-given.ensures, answers, answers_whole c.args.key given c.judge_given.result answers)
