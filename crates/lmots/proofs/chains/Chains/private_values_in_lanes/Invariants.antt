-- The private values of the lanes so far are written.
use Rattle.std.proofs.Common.{◌≡◌, ℕ, ◌<◌, ◌+◌, [], length, slice_index_or}
use Rattle.lmots.proofs.chains.Chains.private_values_in_lanes.Given as goal

abbrev pub invariant-loop-lane : goal.invariant-loop-lane
invariant-loop-lane l = record {
  long : length l.values ≡ 265;
  before : (i : ℕ) → i < l.chain → slice_index_or l.values i [] ≡ slice_index_or l.initial.values i [];
  made : (j : ℕ) → j < l.lane → slice_index_or l.values (l.chain + j) [] ≡ slice_index_or l.made j [];
}
