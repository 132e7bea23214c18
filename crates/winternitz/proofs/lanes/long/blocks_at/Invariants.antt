-- The blocks of the lanes so far.
use Rattle.std.proofs.Common.{◌≡◌, ℕ, ◌*◌, ◌<◌, [], drop, length, slice_index_or, take}
use Rattle.winternitz.specs.Lanes.{lanes}
use Rattle.winternitz.proofs.lanes.long.blocks_at.Given as goal

abbrev pub invariant-loop-lane : goal.invariant-loop-lane
invariant-loop-lane g l = record {
  long : length l.blocks ≡ lanes;
  each : (j : ℕ) → j < l.lane → slice_index_or l.blocks j [] ≡ take 64 (drop (l.k * 64) (slice_index_or l.messages j []));
}
