use Rattle.std.proofs.Common.{rules}
use Rattle.sha2.specs.Sha256.{hash_after}
use Rattle.winternitz.specs.Hasher.{HoldsBytes}
use Rattle.winternitz.proofs.hasher.Hasher.new.Goals as goal

pub returns : goal.returns
unfolding HoldsBytes hash_after
returns c = search rules
