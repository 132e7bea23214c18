use Rattle.lms.proofs.Verdicts.{whole_verdict}
use Rattle.lms.proofs.verification.verify_bytes_by.Goals as goal

-- the answer for the decoded signature is the answer for its bytes
pub returns-clause-verdict : goal.returns-clause-verdict
returns-clause-verdict g c =
    let spelled = c.in-Ok.ensures.reads in
    whole_verdict c.args.public.now c.args.message.now c.args.signature.now _ c.verify_bytes_by.result spelled c.verify_bytes_by.ensures.verdict
