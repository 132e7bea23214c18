use Rattle.std.proofs.Common.{rules}
use Rattle.sha2.specs.Sha256.{Holds, hash_after}
use Rattle.boot_verify.proofs.sha256.Hashing.new.Goals as goal

pub returns : goal.returns
unfolding Holds hash_after
returns c = search rules
