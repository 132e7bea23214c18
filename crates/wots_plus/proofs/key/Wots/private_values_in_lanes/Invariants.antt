-- First the blocks, then the values of the lanes so far are written.
use Rattle.std.proofs.Common.{◌≡◌, ℕ, ◌<◌, ◌+◌, ◌++◌, [], length, slice_index_or}
use Rattle.wots_plus.specs.Address.{one_time}
use Rattle.winternitz.specs.Lanes.{lanes}
use Rattle.wots_plus.proofs.key.Wots.private_values_in_lanes.Given as goal

abbrev pub invariant-loop-lane : goal.invariant-loop-lane
invariant-loop-lane l = record {
  long : length l.blocks ≡ lanes;
  each : (j : ℕ) → j < l.lane → slice_index_or l.blocks j [] ≡ l.self.seed.now.key ++ one_time l.self.leaf (l.chain + j) 0 0;
  size : (j : ℕ) → j < l.lane → length (slice_index_or l.blocks j []) ≡ 64;
}

abbrev pub invariant-loop-lane-2 : goal.invariant-loop-lane-2
invariant-loop-lane-2 l = record {
  long : length l.values ≡ 265;
  before : (i : ℕ) → i < l.chain → slice_index_or l.values i [] ≡ slice_index_or l.initial.values i [];
  made : (j : ℕ) → j < l.lane → slice_index_or l.values (l.chain + j) [] ≡ slice_index_or l.made j [];
}
