use Rattle.std.proofs.Common.{◌≡◌, sym, subst, Err, rules}
use Rattle.hss.specs.Verification.{Verdict}
use Rattle.hss.proofs.Verifying.{digest-at-bottom, of-bottom}
use Rattle.hss.proofs.verification.verify_digest_by.Goals as goal

pub returns-clause-verdict : goal.returns-clause-verdict
returns-clause-verdict g c = λ message is_digest.
    let bottom = c.in_ok-bottom.ensures.ok in
    of-bottom c.args.public.now message c.args.signature.now _ _ _ c.verify_digest_by.result bottom
    (c.verify_digest_by.ensures.verdict message (digest-at-bottom c.args.public.now message c.args.signature.now _ _ _ _ bottom is_digest))

-- a level above the bottom refuses
pub returns-in_err-bottom-clause-verdict : goal.returns-in_err-bottom-clause-verdict
returns-in_err-bottom-clause-verdict g c = λ message is_digest.
    let is : c.from_residual.result ≡ Err c.in_err-bottom.field-0.0 = search rules in
    subst (Verdict c.args.public.now message c.args.signature.now) (sym is) (c.in_err-bottom.ensures.err message)
