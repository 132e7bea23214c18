use Rattle.command.proofs.Describing.{then_found}
use Rattle.command.proofs.described.describe.Goals as goal

pub returns-in-Err : goal.returns-in-Err
returns-in-Err c =
    then_found _ _ c.args.bytes.now c.describe_signature.result
    (λ key spelled. let never = c.in-Err.ensures.spelled key spelled in cc) c.describe_signature.ensures
