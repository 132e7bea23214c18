-- The lanes so far have their first blocks.
use Rattle.std.proofs.Common.{◌≡◌, ℕ, ◌<◌, ◌++◌, [], length, slice_index_or}
use Rattle.wots_plus.specs.Hashes.{to_byte}
use Rattle.winternitz.specs.Lanes.{lanes}
use Rattle.wots_plus.proofs.hashes.hash_f_in_lanes.Given as goal

abbrev pub invariant-loop-lane : goal.invariant-loop-lane
invariant-loop-lane l = record {
  long : length l.blocks ≡ lanes;
  each : (j : ℕ) → j < l.lane → slice_index_or l.blocks j [] ≡ to_byte 0 32 ++ slice_index_or l.keys j [];
  size : (j : ℕ) → j < l.lane → length (to_byte 0 32 ++ slice_index_or l.keys j []) ≡ 64;
}
