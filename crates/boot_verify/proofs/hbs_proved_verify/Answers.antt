use Rattle.std.proofs.Common.{inl, inr}
use Rattle.boot_verify.proofs.Answers.{valid_exactly}
use Rattle.boot_verify.proofs.hbs_proved_verify.Goals as goal

pub returns-in-Ok-clause-valid : goal.returns-in-Ok-clause-valid
returns-in-Ok-clause-valid c =
    let public = c.args.public.now in
    valid_exactly public c.args.message.now c.args.signature.now c.answer_of.result
    (inr (c.in-Ok.key, c.verify.result, c.in-Ok.ensures.ok, c.verify.ensures.verdict, c.verify.ensures.read, c.answer_of.ensures))

pub returns-in-Err-clause-valid : goal.returns-in-Err-clause-valid
returns-in-Err-clause-valid c =
    valid_exactly c.args.public.now c.args.message.now c.args.signature.now c.in-Err.refusal (inl c.in-Err.ensures.err)
