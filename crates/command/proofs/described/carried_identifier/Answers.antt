use Rattle.std.proofs.Common.{◌∙◌, ap, Some, arith}
use Rattle.hss.specs.View.{signature_of}
use Rattle.command.proofs.Describing.{lower_identifier, top_identifier}
use Rattle.command.proofs.described.carried_identifier.Goals as goal

pub returns-then-i-lt1 : goal.returns-then-i-lt1
returns-then-i-lt1 c = top_identifier (signature_of c.args.view.now) c.args.i c.if-i-lt1.true

pub returns : goal.returns
returns c =
    let s = signature_of c.args.view.now in
    ap (λ k. Some k.identifier) (c.key.ensures.value _) ∙ lower_identifier s c.args.i (omega (arith, c.if-i-lt1.false))
