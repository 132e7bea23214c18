use Rattle.std.proofs.Common.{refl}
use Rattle.typecodes.proofs.Steps.{ends-spelled}
use Rattle.xmss.specs.Signature.{signature}
use Rattle.xmss.specs.View.{signature_of}
use Rattle.xmss.proofs.signature.XmssSigView.bytes.Goals as goal

pub returns-clause-spells : goal.returns-clause-spells
returns-clause-spells c =
    let view = c.args.self.now in ends-spelled (signature view.tree) view.bytes.now (signature_of view) _ view.spelled refl
