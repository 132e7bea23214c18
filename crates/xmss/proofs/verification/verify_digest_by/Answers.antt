use Rattle.xmss.proofs.Verdicts.{digest_was_read, verdict_of_digest}
use Rattle.xmss.proofs.verification.verify_digest_by.Goals as goal

-- the view has the key's type
pub verify_digest-requires : goal.verify_digest-requires
verify_digest-requires g c =
    c.in-Ok.ensures.tree

-- the view's verdict is its bytes'
pub returns-clause-verdict : goal.returns-clause-verdict
returns-clause-verdict g c = λ message is_digest.
    verdict_of_digest _ _ _ _ _ c.verify_digest.result (is_digest _ c.in-Ok.ensures.reads) c.in-Ok.ensures.reads c.verify_digest.ensures

-- by a digest, a message is never unreadable
pub returns-clause-read : goal.returns-clause-read
returns-clause-read g c = digest_was_read _ _ _ c.verify_digest.result c.verify_digest.ensures
