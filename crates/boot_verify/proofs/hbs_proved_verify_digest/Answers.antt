use Rattle.std.proofs.Common.{inl, inr}
use Rattle.boot_verify.proofs.Answers.{valid_exactly}
use Rattle.boot_verify.proofs.hbs_proved_verify_digest.Goals as goal

pub returns-in-Ok-clause-valid : goal.returns-in-Ok-clause-valid
returns-in-Ok-clause-valid c = λ message is_digest.
    valid_exactly c.args.public.now message c.args.signature.now c.answer_of.result
    (inr (
      c.in-Ok.key,
      c.verify_digest.result,
      c.in-Ok.ensures.ok,
      c.verify_digest.ensures.verdict message (is_digest c.in-Ok.key c.in-Ok.ensures.ok),
      c.verify_digest.ensures.read,
      c.answer_of.ensures,
    ))

pub returns-in-Err-clause-valid : goal.returns-in-Err-clause-valid
returns-in-Err-clause-valid c = λ message is_digest.
    valid_exactly c.args.public.now message c.args.signature.now c.in-Err.refusal (inl c.in-Err.ensures.err)
