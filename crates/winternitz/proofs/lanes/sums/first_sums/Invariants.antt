-- The sums so far, by the words.
use Rattle.std.proofs.Common.{◌≡◌, ℕ, ◌<◌, length, slice_index}
use Rattle.sha2.specs.Sha256.{add32, round_constants}
use Rattle.winternitz.specs.Lanes.{lane_at, lanes}
use Rattle.winternitz.proofs.lanes.sums.first_sums.Given as goal

abbrev pub invariant-loop-t : goal.invariant-loop-t
invariant-loop-t l = record {
  long : length l.sums ≡ 64;
  each : (j i : ℕ) → i < l.t → j < lanes → lane_at l.sums i j ≡ add32 (lane_at l.window i j) (slice_index round_constants i);
}
