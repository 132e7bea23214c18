use Rattle.std.proofs.Common.{ap, Err}
use Rattle.boot_verify.proofs.Roots.{gives_exactly, gives_root, refuses_key, refuses_root, stays_refused, stays_without_key}
use Rattle.boot_verify.proofs.hbs_proved_root.Goals as goal

pub returns-in-Ok-root-clause-exact : goal.returns-in-Ok-root-clause-exact
returns-in-Ok-root-clause-exact c =
    gives_exactly c.in-Ok.key c.args.public.now c.args.message.now c.args.signature.now c.args.root.now _ c.in-Ok.ensures.ok c.in-Ok-root.ensures.root

pub returns-in-Err-root-clause-exact : goal.returns-in-Err-root-clause-exact
returns-in-Err-root-clause-exact c =
    stays_refused c.in-Ok.key c.args.public.now c.args.message.now c.args.signature.now c.args.root.now c.in-Err-root.refusal c.in-Ok.ensures.ok
    c.in-Err-root.ensures.root

pub returns-in-Err-clause-exact : goal.returns-in-Err-clause-exact
returns-in-Err-clause-exact c =
    stays_without_key c.args.public.now c.args.message.now c.args.signature.now c.args.root.now c.in-Err.refusal c.in-Err.ensures.err

pub returns-in-Ok-root-clause-answer : goal.returns-in-Ok-root-clause-answer
returns-in-Ok-root-clause-answer c =
    gives_root c.in-Ok.key c.args.public.now c.args.message.now c.args.signature.now c.args.root.now _ _ c.in-Ok.ensures.ok c.in-Ok-root.ensures.root
    c.packed.ensures

pub returns-in-Err-root-clause-answer : goal.returns-in-Err-root-clause-answer
returns-in-Err-root-clause-answer c =
    refuses_root c.in-Ok.key c.args.public.now c.args.message.now c.args.signature.now c.args.root.now c.in-Err-root.refusal _ c.in-Ok.ensures.ok
    c.in-Err-root.ensures.root (λ same. c.in-Err-root.ensures.read (ap Err same)) c.answer_of.ensures

pub returns-in-Err-clause-answer : goal.returns-in-Err-clause-answer
returns-in-Err-clause-answer c =
    refuses_key c.args.public.now c.args.message.now c.args.signature.now c.args.root.now c.in-Err.refusal c.in-Err.ensures.err
