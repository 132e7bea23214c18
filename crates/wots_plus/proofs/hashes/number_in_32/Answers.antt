use Rattle.wots_plus.proofs.Bytes.{number_in_32}
use Rattle.wots_plus.proofs.hashes.number_in_32.Goals as goal

pub returns : goal.returns
returns c = number_in_32 c.args.number c.requires
