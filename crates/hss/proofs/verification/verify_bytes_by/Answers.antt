use Rattle.std.proofs.Common.{◌≡◌, sym, subst, Err, rules}
use Rattle.hss.specs.Verification.{Verdict}
use Rattle.hss.proofs.Verifying.{of-bottom}
use Rattle.hss.proofs.verification.verify_bytes_by.Goals as goal

pub returns-clause-verdict : goal.returns-clause-verdict
returns-clause-verdict g c =
    of-bottom c.args.public.now c.args.message.now c.args.signature.now _ _ _ c.verify_bytes_by.result c.in_ok-bottom.ensures.ok c.verify_bytes_by.ensures.verdict

-- a level above the bottom refuses
pub returns-in_err-bottom-clause-verdict : goal.returns-in_err-bottom-clause-verdict
returns-in_err-bottom-clause-verdict g c =
    let is : c.from_residual.result ≡ Err c.in_err-bottom.field-0.0 = search rules in
    subst (Verdict c.args.public.now c.args.message.now c.args.signature.now) (sym is) (c.in_err-bottom.ensures.err c.args.message.now)
