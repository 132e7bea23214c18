use Rattle.std.proofs.Common.{◌≡◌, ◌-◌, ◌∙◌, ap, length, arith}
use Rattle.hss.specs.Signature.{key_at}
use Rattle.hss.specs.View.{signature_of}
use Rattle.hss.proofs.verification.last_key.Goals as goal

pub returns : goal.returns
returns c =
    let s = signature_of c.args.view.now in
    let last : c.levels.result - 1 ≡ length s.signed = omega (arith, c.levels.ensures.value) in
    c.key_of.ensures ∙ ap (key_at c.args.top.now s) last
