use Rattle.std.proofs.Common.{◌≡◌, rules}
use Rattle.lms.specs.Verification.{digest_of}
use Rattle.lms.specs.View.{signature_of}
use Rattle.lms.proofs.Verdicts.{digest_was_read, level_of_digest}
use Rattle.lms.proofs.signature.LmsSigView.verify_bytes_by.Goals as goal

pub returns-clause-verdict : goal.returns-clause-verdict
returns-clause-verdict g c =
    let same : c.message_digest-digest.result ≡ digest_of c.args.public.now c.args.message.now (signature_of c.args.self.now) = search rules in
    level_of_digest _ _ _ _ _ c.verify_digest.result same c.in_ok-check_types.ensures c.verify_digest.ensures

pub returns-clause-read : goal.returns-clause-read
returns-clause-read g c = digest_was_read _ _ _ _ c.verify_digest.result c.verify_digest.ensures
