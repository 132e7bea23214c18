use Rattle.lms.proofs.Verdicts.{whole_verdict}
use Rattle.lms.proofs.verification.verify_digest_by.Goals as goal

-- the answer for the decoded signature is the answer for its bytes
pub returns-clause-verdict : goal.returns-clause-verdict
returns-clause-verdict g c = λ message is_digest.
    let spelled = c.in-Ok.ensures.reads in
    whole_verdict c.args.public.now message c.args.signature.now _ c.verify_digest_by.result spelled
    (c.verify_digest_by.ensures.verdict message (is_digest _ spelled))
