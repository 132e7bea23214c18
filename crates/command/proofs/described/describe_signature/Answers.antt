use Rattle.lms.specs.Signature.{signature}
use Rattle.lms.specs.View.{signature_of}
use Rattle.command.proofs.Describing.{none_spelled, then_found}
use Rattle.command.proofs.described.describe_signature.Goals as goal

pub returns-in-Ok : goal.returns-in-Ok
returns-in-Ok c = (signature_of c.in-Ok.view, c.in-Ok.ensures.reads, c.types.ensures, c.index.ensures.value)

pub returns-in-Err : goal.returns-in-Err
returns-in-Err c =
    then_found _ _ c.args.bytes.now c.describe_hss.result (none_spelled signature _ c.in-Err.field-0 c.in-Err.ensures.reads) c.describe_hss.ensures
