-- The hash value after the blocks so far.
use Rattle.std.proofs.Common.{◌≡◌}
use Rattle.sha2.specs.Sha256.{hash_after}
use Rattle.winternitz.proofs.compression.compress_blocks.Given as goal

abbrev pub invariant-loop-lane : goal.invariant-loop-lane
invariant-loop-lane l = l.state ≡ hash_after l.fn.state l.bytes l.lane
