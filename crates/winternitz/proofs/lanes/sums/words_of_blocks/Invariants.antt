-- The words so far.
use Rattle.std.proofs.Common.{◌≡◌, ℕ, ◌*◌, ◌<◌, length}
use Rattle.sha2.specs.Sha256.{word_at}
use Rattle.winternitz.specs.Lanes.{lane_at, lanes}
use Rattle.winternitz.specs.inner.Sums.{block_of}
use Rattle.winternitz.proofs.lanes.sums.words_of_blocks.Given as goal

abbrev pub invariant-loop-k : goal.invariant-loop-k
invariant-loop-k l = record {
  long : length l.words ≡ 16;
  each : (j i : ℕ) → i < l.k → j < lanes → lane_at l.words i j ≡ word_at (block_of l.bytes j) (4 * i);
}
