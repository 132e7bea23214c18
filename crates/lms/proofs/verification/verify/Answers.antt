use Rattle.std.proofs.Common.{rules}
use Rattle.lms.specs.Signature.{signature}
use Rattle.lms.specs.View.{signature_of}
use Rattle.typecodes.proofs.Messages.{some_content}
use Rattle.typecodes.proofs.WasRead.{read_spells}
use Rattle.lms.proofs.Verdicts.{whole_verdict}
use Rattle.lms.proofs.verification.verify.Goals as goal

-- the bytes have a fault
pub returns-in_err-view : goal.returns-in_err-view
returns-in_err-view g c =
    let (text, fits) = some_content (g.M.Message.remaining c.args.message.now) in
    (text, fits, search rules, search rules)

-- the answer for the decoded signature is the answer for its bytes
pub returns : goal.returns
returns g c =
    let spelled = read_spells _ signature signature_of _ c.read.result _ _ c.read.ensures.reads c.in_ok-view.ensures.cases (λ _ never. never) in
    let (text, fits, verdict, leaves) = c.verify.ensures in
    (text, fits, whole_verdict c.args.public.now text c.args.signature.now _ c.verify.result spelled verdict, leaves)
