use Rattle.std.proofs.Common.{refl}
use Rattle.typecodes.proofs.Steps.{ends-spelled}
use Rattle.hss.specs.Signature.{signature}
use Rattle.hss.specs.View.{signature_of}
use Rattle.hss.proofs.Walking.{whole-size}
use Rattle.hss.proofs.signature.HssSigView.bytes.Goals as goal

pub returns-clause-spells : goal.returns-clause-spells
returns-clause-spells c = let view = c.args.self.now in ends-spelled signature view.bytes.now (signature_of view) _ view.spelled refl

pub returns-clause-len : goal.returns-clause-len
returns-clause-len c = let view = c.args.self.now in whole-size (signature_of view) view.bytes.now view.spelled
