use Rattle.xmss.specs.Signature.{signature}
use Rattle.xmss.specs.View.{signature_of}
use Rattle.command.proofs.Describing.{none_spelled}
use Rattle.command.proofs.described.describe_as.Goals as goal

pub returns-in-Ok : goal.returns-in-Ok
returns-in-Ok c = (signature_of c.in-Ok.view, c.in-Ok.ensures.reads, c.index.ensures.value)

pub returns-in-Err : goal.returns-in-Err
returns-in-Err c = none_spelled (signature c.args.tree) _ c.in-Err.field-0 c.in-Err.ensures.reads
