use Rattle.hss.proofs.Shown.{slot-key, slot-range, slot-signature, slot-spells, slot-used}
use Rattle.hss.proofs.signature.HssSigView.signed_key.Goals as goal

pub returns-clause-is_some : goal.returns-clause-is_some
returns-clause-is_some c =
    let view = c.args.self.now in
    slot-used view.signed.count view.signed.slots view.bottom view.signed.first c.args.i _ c.get.ensures

pub returns-clause-signature : goal.returns-clause-signature
returns-clause-signature c =
    let view = c.args.self.now in
    slot-signature view.signed.count view.signed.slots view.bottom view.signed.first c.args.i _ c.get.ensures

pub returns-clause-key : goal.returns-clause-key
returns-clause-key c =
    let view = c.args.self.now in
    λ top. slot-key view.signed.count view.signed.slots view.bottom view.signed.first top c.args.i _ c.get.ensures

pub returns-clause-range : goal.returns-clause-range
returns-clause-range c =
    let view = c.args.self.now in
    slot-range view.signed.count view.signed.slots view.bottom view.signed.first view.bytes.now c.args.i _ view.stand c.get.ensures

pub returns-clause-spells : goal.returns-clause-spells
returns-clause-spells c =
    let view = c.args.self.now in
    slot-spells view.signed.count view.signed.slots view.bottom view.signed.first view.bytes.now c.args.i _ view.stand view.spelled c.get.ensures
