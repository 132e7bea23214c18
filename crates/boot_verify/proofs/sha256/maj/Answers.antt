use Rattle.boot_verify.proofs.ChMaj.{maj_short}
use Rattle.boot_verify.proofs.sha256.maj.Goals as goal

pub returns : goal.returns
returns c = maj_short c.args.x c.args.y c.args.z
