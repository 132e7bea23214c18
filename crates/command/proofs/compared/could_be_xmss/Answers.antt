use Rattle.std.proofs.Common.{refl}
use Rattle.xmss.specs.View.{signature_of}
use Rattle.command.proofs.Comparing.{xmss_unread}
use Rattle.command.proofs.compared.could_be_xmss.Goals as goal

pub returns-in-Ok : goal.returns-in-Ok
returns-in-Ok c = (λ yes. (signature_of c.in-Ok.field-0, c.in-Ok.ensures.reads), λ could. refl)

pub returns-in-Err : goal.returns-in-Err
returns-in-Err c = xmss_unread c.args.key.now c.args.signature.now c.in-Err.field-0 c.in-Err.ensures.reads
