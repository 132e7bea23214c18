use Rattle.command.proofs.Describing.{last_found}
use Rattle.command.proofs.described.describe_xmss.Goals as goal

pub returns-in-None-describe_as : goal.returns-in-None-describe_as
returns-in-None-describe_as c =
    last_found c.args.bytes.now c.describe_as-in-None-describe_as.result c.in-None.ensures c.in-None-describe_as.ensures c.describe_as-in-None-describe_as.ensures
