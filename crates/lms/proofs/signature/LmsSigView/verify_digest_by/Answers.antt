use Rattle.lms.proofs.Verdicts.{digest_was_read, level_of_digest}
use Rattle.lms.proofs.signature.LmsSigView.verify_digest_by.Goals as goal

pub returns-clause-verdict : goal.returns-clause-verdict
returns-clause-verdict g c = λ message same.
    level_of_digest _ _ _ _ _ c.verify_digest.result same c.in_ok-check_types.ensures c.verify_digest.ensures

pub returns-clause-read : goal.returns-clause-read
returns-clause-read g c = digest_was_read _ _ _ _ c.verify_digest.result c.verify_digest.ensures
