-- The words of the lanes so far.
use Rattle.std.proofs.Common.{◌≡◌, ℕ, ◌<◌, [], length, slice_index, slice_index_or}
use Rattle.sha2.specs.Sha256.{word_at}
use Rattle.winternitz.specs.Lanes.{lanes}
use Rattle.winternitz.proofs.lanes.load.Given as goal

abbrev pub invariant-loop-lane : goal.invariant-loop-lane
invariant-loop-lane g l = record {
  long : length l.words ≡ lanes;
  each : (j : ℕ) → j < l.lane → slice_index l.words j ≡ word_at (slice_index_or l.bytes j []) l.i;
}
