use Rattle.hss.specs.Signature.{signature}
use Rattle.hss.specs.View.{signature_of}
use Rattle.command.proofs.Describing.{none_spelled, then_found}
use Rattle.command.proofs.described.describe_hss.Goals as goal

pub returns-in-Ok : goal.returns-in-Ok
returns-in-Ok c = (signature_of c.in-Ok.view, c.in-Ok.ensures.reads, c.levels_of.ensures)

pub returns-in-Err : goal.returns-in-Err
returns-in-Err c =
    then_found _ _ c.args.bytes.now c.describe_xmss.result (none_spelled signature _ c.in-Err.field-0 c.in-Err.ensures.reads) c.describe_xmss.ensures
