use Rattle.std.proofs.Common.{◌∙◌, sym}
use Rattle.key_audit.proofs.Judging.{judges}
use Rattle.key_audit.proofs.given.is_valid.Goals as goal

pub returns : goal.returns
returns c =
    let (text, content, verdict, leaves) = c.verify_any.ensures in
    let (ok, back) = judges c.args.public.now c.args.given.now text _ _ _ c.verify_any.result content c.deref.ensures.value c.deref-2.ensures.value verdict leaves in
    (λ is. ok (sym c.is_ok.ensures.value ∙ is), λ valid. c.is_ok.ensures.value ∙ back valid)
