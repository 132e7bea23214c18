-- The digests of the lanes so far.
use Rattle.std.proofs.Common.{◌≡◌, ℕ, ◌<◌, [], length, slice_index_or}
use Rattle.sha2.specs.Sha256.{digest_bytes}
use Rattle.winternitz.specs.Lanes.{lane_state, lanes}
use Rattle.winternitz.proofs.lanes.digests.Given as goal

abbrev pub invariant-loop-lane : goal.invariant-loop-lane
invariant-loop-lane l = record {
  long : length l.digests ≡ lanes;
  each : (j : ℕ) → j < l.lane → slice_index_or l.digests j [] ≡ digest_bytes (lane_state l.states j) 8;
}
