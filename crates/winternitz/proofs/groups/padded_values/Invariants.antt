-- The values so far.
use Rattle.std.proofs.Common.{◌≡◌, ℕ, ◌<◌, [], length, slice_index_or}
use Rattle.winternitz.proofs.groups.padded_values.Given as goal

abbrev pub invariant-loop-i : goal.invariant-loop-i
invariant-loop-i l = record {
  long : length l.padded ≡ 265;
  each : (k : ℕ) → k < l.i → slice_index_or l.padded k [] ≡ slice_index_or l.values k [];
}
