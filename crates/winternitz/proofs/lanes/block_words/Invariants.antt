-- The words so far.
use Rattle.std.proofs.Common.{◌≡◌, ℕ, ◌*◌, ◌<◌, [], length, slice_index_or}
use Rattle.sha2.specs.Sha256.{word_at}
use Rattle.winternitz.specs.Lanes.{lane_at, lanes}
use Rattle.winternitz.proofs.lanes.block_words.Given as goal

abbrev pub invariant-loop-k : goal.invariant-loop-k
invariant-loop-k l = record {
  long : length l.words ≡ 16;
  each : (j i : ℕ) → i < l.k → j < lanes → lane_at l.words i j ≡ word_at (slice_index_or l.blocks j []) (4 * i);
}
