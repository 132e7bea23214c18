use Rattle.std.proofs.Common.{refl}
use Rattle.typecodes.proofs.Steps.{ends-spelled}
use Rattle.lms.specs.Signature.{signature}
use Rattle.lms.specs.View.{signature_of}
use Rattle.lms.proofs.signature.LmsSigView.bytes.Goals as goal

pub returns-clause-spells : goal.returns-clause-spells
returns-clause-spells c = let view = c.args.self.now in ends-spelled signature view.bytes.now (signature_of view) _ view.spelled refl
