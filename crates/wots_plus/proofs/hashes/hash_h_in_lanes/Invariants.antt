-- The lanes so far have their blocks.
use Rattle.std.proofs.Common.{◌≡◌, ℕ, ◌<◌, ◌++◌, [], length, slice_index_or}
use Rattle.wots_plus.specs.Hashes.{to_byte}
use Rattle.winternitz.specs.Lanes.{lanes}
use Rattle.wots_plus.proofs.hashes.hash_h_in_lanes.Given as goal

abbrev pub invariant-loop-lane : goal.invariant-loop-lane
invariant-loop-lane l = record {
  long : length l.first ≡ lanes;
  each : (j : ℕ) → j < l.lane → slice_index_or l.first j [] ≡ to_byte 1 32 ++ slice_index_or l.keys j [];
  size : (j : ℕ) → j < l.lane → length (to_byte 1 32 ++ slice_index_or l.keys j []) ≡ 64;
  second_long : length l.second ≡ lanes;
  second_each : (j : ℕ) → j < l.lane → slice_index_or l.second j [] ≡ slice_index_or l.left j [] ++ slice_index_or l.right j [];
  second_size : (j : ℕ) → j < l.lane → length (slice_index_or l.second j []) ≡ 64;
}
