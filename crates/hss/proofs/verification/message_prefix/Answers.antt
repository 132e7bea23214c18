use Rattle.std.proofs.Common.{◌∙◌, sym, ap₂}
use Rattle.lms.specs.Verification.{prefix_of}
use Rattle.hss.specs.View.{signature_of}
use Rattle.hss.proofs.verification.message_prefix.Goals as goal

-- the signature has another number of levels than the key
pub returns-then-levels-get-clause-err : goal.returns-then-levels-get-clause-err
returns-then-levels-get-clause-err c = λ message. (
  signature_of c.in-Ok.view,
  c.in-Ok.ensures.reads,
  λ same. c.if-levels-get.true (c.levels.ensures.value ∙ same ∙ sym c.get.ensures.value),
)

pub returns-clause-ok : goal.returns-clause-ok
returns-clause-ok c = (
  signature_of c.in-Ok.view,
  c.in-Ok.ensures.reads,
  sym c.levels.ensures.value ∙ (c.if-levels-get.false ∙ c.get.ensures.value),
  c.message_prefix.ensures
      ∙ ap₂ prefix_of c.last_key-key.ensures c.bottom.ensures.value,
)
