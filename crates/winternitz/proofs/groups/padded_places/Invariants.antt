-- The places so far.
use Rattle.std.proofs.Common.{◌≡◌, ℕ, ◌<◌, length, slice_index}
use Rattle.winternitz.proofs.groups.padded_places.Given as goal

abbrev pub invariant-loop-i : goal.invariant-loop-i
invariant-loop-i l = record {
  long : length l.at ≡ 265;
  each : (k : ℕ) → k < l.i → slice_index l.at k ≡ slice_index l.from k;
}
