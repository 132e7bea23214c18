-- The hash values after the blocks so far.
use Rattle.std.proofs.Common.{◌≡◌, ℕ, ◌<◌, [], slice_index_or}
use Rattle.sha2.specs.Sha256.{hash_after, initial_hash_256}
use Rattle.winternitz.specs.Lanes.{lane_state, lanes}
use Rattle.winternitz.proofs.lanes.long.hash_blocks.Given as goal

abbrev pub invariant-loop-k : goal.invariant-loop-k
invariant-loop-k g l =
    (j : ℕ) → j < lanes → lane_state l.states j ≡ hash_after initial_hash_256 (slice_index_or l.messages j []) l.k
