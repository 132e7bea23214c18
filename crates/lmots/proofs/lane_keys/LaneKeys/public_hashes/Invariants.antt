-- The ends of the chains so far stand in the messages.
use Rattle.std.proofs.Common.{◌≡◌, ℕ, ◌<◌, ◌+◌, ◌*◌, [], slice_index, slice_index_or, take}
use Rattle.lmots.proofs.Messages.{message_until}
use Rattle.winternitz.specs.Lanes.{lanes}
use Rattle.lmots.proofs.lane_keys.LaneKeys.public_hashes.Given as goal

abbrev pub invariant-loop-chain : goal.invariant-loop-chain
invariant-loop-chain l = (j : ℕ) → j < lanes → take (22 + 32 * l.chain) (slice_index_or l.messages j [])
    ≡ message_until l.self.identifier (slice_index l.self.leaves j) l.ots l.seed l.chain
