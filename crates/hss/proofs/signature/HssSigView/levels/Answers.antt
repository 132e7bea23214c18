use Rattle.std.proofs.Common.{◌+◌, ap, sym, ◌∙◌}
use Rattle.hss.specs.View.{signature_of}
use Rattle.hss.proofs.Slots.{shown-count}
use Rattle.hss.proofs.Walking.{is_read}
use Rattle.hss.proofs.signature.HssSigView.levels.Goals as goal

pub returns-clause-value : goal.returns-clause-value
returns-clause-value c = let view = c.args.self.now in ap (λ n. n + 1) (sym (shown-count view.signed.count view.signed.slots view.signed.first))

pub returns-clause-range : goal.returns-clause-range
returns-clause-range c =
    let view = c.args.self.now in
    ap (λ n. n + 1) (sym (shown-count view.signed.count view.signed.slots view.signed.first) ∙ (is_read (signature_of view) view.bytes.now view.spelled).number)
