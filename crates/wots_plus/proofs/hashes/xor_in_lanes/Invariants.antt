-- The lanes so far are XORed.
use Rattle.std.proofs.Common.{◌≡◌, ℕ, ◌<◌, [], length, slice_index_or}
use Rattle.wots_plus.specs.Hashes.{xor}
use Rattle.winternitz.specs.Lanes.{lanes}
use Rattle.wots_plus.proofs.hashes.xor_in_lanes.Given as goal

abbrev pub invariant-loop-lane : goal.invariant-loop-lane
invariant-loop-lane l = record {
  long : length l.out ≡ lanes;
  each : (j : ℕ) → j < l.lane → slice_index_or l.out j [] ≡ xor (slice_index_or l.bytes j []) (slice_index_or l.masks j []);
}
