use Rattle.std.proofs.Common.{ap, Err, inr}
use Rattle.boot_verify.proofs.Answers.{early_refusal}
use Rattle.boot_verify.proofs.pieces.prefix_of.Goals as goal

pub returns-in-Err-message_prefix-clause-err : goal.returns-in-Err-message_prefix-clause-err
returns-in-Err-message_prefix-clause-err c =
    let told = c.in-Err-message_prefix.ensures in
    let refusal = c.in-Err-message_prefix.refusal in (
      λ message. inr (
        c.in-Ok.key,
        Err refusal,
        c.in-Ok.ensures.ok,
        told.err message,
        λ same. told.read (cc),
        c.answer_of.ensures,
      ),
      early_refusal refusal _ (λ same. told.read (ap Err same)) (λ level same. told.types level (ap Err same))
          (λ level same. told.roots level (ap Err same)) c.answer_of.ensures,
    )
