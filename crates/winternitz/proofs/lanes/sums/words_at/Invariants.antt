-- The words of the lanes so far.
use Rattle.std.proofs.Common.{◌≡◌, ℕ, ◌<◌, length, slice_index}
use Rattle.sha2.specs.Sha256.{word_at}
use Rattle.winternitz.specs.Lanes.{lanes}
use Rattle.winternitz.specs.inner.Sums.{block_of}
use Rattle.winternitz.proofs.lanes.sums.words_at.Given as goal

abbrev pub invariant-loop-lane : goal.invariant-loop-lane
invariant-loop-lane l = record {
  long : length l.words ≡ lanes;
  each : (j : ℕ) → j < l.lane → slice_index l.words j ≡ word_at (block_of l.bytes j) l.i;
}
