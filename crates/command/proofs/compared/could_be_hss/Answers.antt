use Rattle.std.proofs.Common.{◌∙◌, ap, sym}
use Rattle.hss.specs.View.{signature_of}
use Rattle.command.proofs.Comparing.{hss_compared, hss_differs, hss_unread}
use Rattle.command.proofs.compared.could_be_hss.Goals as goal

pub returns-then-levels-get : goal.returns-then-levels-get
returns-then-levels-get c =
    hss_differs c.args.key.now c.args.signature.now (signature_of c.in-Ok.view) c.levels.result c.in-Ok.ensures.reads c.levels.ensures.value
    (λ same. c.if-levels-get.true (same ∙ sym c.get.ensures.value))

pub returns-else-levels-get : goal.returns-else-levels-get
returns-else-levels-get c =
    hss_compared c.args.key.now c.args.signature.now (signature_of c.in-Ok.view) c.types.result c.are_same.result c.in-Ok.ensures.reads
    (sym c.levels.ensures.value ∙ c.if-levels-get.false ∙ c.get.ensures.value) (c.types.ensures ∙ ap (λ t. t.pair) c.level.ensures.value)
    c.are_same.ensures

pub returns-in-Err : goal.returns-in-Err
returns-in-Err c = hss_unread c.args.key.now c.args.signature.now c.in-Err.field-0 c.in-Err.ensures.reads
