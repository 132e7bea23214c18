-- The words of the lanes so far.
use Rattle.std.proofs.Common.{◌≡◌, ℕ, ◌<◌, [], length, slice_index_or}
use Rattle.sha2.specs.Sha256.{digest_bytes}
use Rattle.winternitz.specs.Lanes.{lanes}
use Rattle.winternitz.proofs.lanes.in_words.Given as goal

abbrev pub invariant-loop-lane : goal.invariant-loop-lane
invariant-loop-lane l = record {
  long : length l.words ≡ lanes;
  each : (j : ℕ) → j < l.lane → digest_bytes (slice_index_or l.words j []) 8 ≡ slice_index_or l.values j [];
}
