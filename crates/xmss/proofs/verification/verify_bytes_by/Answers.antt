use Rattle.std.proofs.Common.{◌≡◌, rules}
use Rattle.xmss.specs.Verification.{digest_of}
use Rattle.xmss.specs.View.{signature_of}
use Rattle.xmss.proofs.Verdicts.{digest_was_read, verdict_of_digest}
use Rattle.xmss.proofs.verification.verify_bytes_by.Goals as goal

-- the view has the key's type
pub verify_digest-requires : goal.verify_digest-requires
verify_digest-requires g c =
    c.in-Ok.ensures.tree

-- the view's verdict is its bytes'
pub returns-clause-verdict : goal.returns-clause-verdict
returns-clause-verdict g c =
    let same : c.message_digest-digest.result ≡ digest_of c.args.public.now c.args.message.now (signature_of c.in-Ok.view) = search rules in
    verdict_of_digest _ _ _ _ _ c.verify_digest.result same c.in-Ok.ensures.reads c.verify_digest.ensures

-- by a digest, a message is never unreadable
pub returns-clause-read : goal.returns-clause-read
returns-clause-read g c = digest_was_read _ _ _ c.verify_digest.result c.verify_digest.ensures
