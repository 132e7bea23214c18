use Rattle.lms.specs.View.{signature_of}
use Rattle.command.proofs.Comparing.{lms_compared, lms_unread}
use Rattle.command.proofs.compared.could_be_lms.Goals as goal

pub returns-in-Ok : goal.returns-in-Ok
returns-in-Ok c =
    lms_compared c.args.key.now c.args.signature.now (signature_of c.in-Ok.view) c.types.result c.are_same.result c.in-Ok.ensures.reads c.types.ensures
    c.are_same.ensures

pub returns-in-Err : goal.returns-in-Err
returns-in-Err c = lms_unread c.args.key.now c.args.signature.now c.in-Err.field-0 c.in-Err.ensures.reads
