-- The lanes so far have their nodes.
use Rattle.std.proofs.Common.{◌≡◌, ℕ, ◌<◌, ◌≤◌, ◌+◌, [], length, slice_index_or}
use Rattle.wots_plus.proofs.key.Wots.join_pairs.Given as goal

abbrev pub invariant-loop-lane : goal.invariant-loop-lane
invariant-loop-lane l = record {
  below : (k : ℕ) → k < l.first → slice_index_or l.values k [] ≡ slice_index_or l.fn.values k [];
  joined : (j : ℕ) → j < l.lane → slice_index_or l.values (l.first + j) [] ≡ slice_index_or l.joined j [];
  above : (k : ℕ) → l.first + l.lane ≤ k → slice_index_or l.values k [] ≡ slice_index_or l.fn.values k [];
  keeps_length : length l.values ≡ length l.fn.values;
}
