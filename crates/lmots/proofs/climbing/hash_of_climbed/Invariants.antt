-- The hasher holds the ends of the chains so far.
use Rattle.std.proofs.Common.{◌++◌}
use Rattle.sha2.specs.Hashers.{Holds256}
use Rattle.lmots.specs.Hashes.{public_separator, u16str, u32str}
use Rattle.lmots.specs.Key.{step_of}
use Rattle.typecodes.specs.Types.{width_of}
use Rattle.winternitz.specs.Chain.{end_at}
use Rattle.lmots.proofs.Ends.{fed}
use Rattle.lmots.proofs.climbing.hash_of_climbed.Given as goal

abbrev pub invariant-loop-chain : goal.invariant-loop-chain
invariant-loop-chain l =
    Holds256 l.hasher
    (fed (l.key.identifier ++ u32str l.key.leaf ++ u16str public_separator)
    (end_at (step_of l.key.identifier l.key.leaf) (width_of l.fn.ots) l.digits l.values) l.chain)
