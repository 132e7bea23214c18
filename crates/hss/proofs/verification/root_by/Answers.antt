use Rattle.std.proofs.Common.{◌∙◌, sym}
use Rattle.typecodes.proofs.Spelling.{no_value}
use Rattle.hss.specs.Signature.{signature}
use Rattle.hss.specs.View.{signature_of}
use Rattle.hss.proofs.Roots.{signs_decoded, whole_root}
use Rattle.hss.proofs.verification.root_by.Goals as goal

-- bytes with a fault spell no signature
pub returns-in-Err-clause-root : goal.returns-in-Err-clause-root
returns-in-Err-clause-root g c = λ (s, spelled, valid).
    no_value signature s c.args.signature.now 0 c.in-Err.fault spelled c.in-Err.ensures.reads

-- a valid signature has the key's number of levels
pub returns-then-levels-get-clause-root : goal.returns-then-levels-get-clause-root
returns-then-levels-get-clause-root g c = λ signs.
    let valid = signs_decoded c.args.public.now c.args.message.now c.args.signature.now (signature_of c.in-Ok.view) c.in-Ok.ensures.reads signs in
    c.if-levels-get.true (c.levels.ensures.value ∙ valid.count ∙ sym c.get.ensures.value)

pub returns-clause-root : goal.returns-clause-root
returns-clause-root g c =
    let count = sym c.levels.ensures.value ∙ (c.if-levels-get.false ∙ c.get.ensures.value) in
    whole_root c.args.public.now c.args.message.now c.args.signature.now (signature_of c.in-Ok.view) c.top_root.result c.in-Ok.ensures.reads count
    c.top_root.ensures.root
