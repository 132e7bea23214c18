-- The first i pairs of rows are joined, the others unchanged.
use Rattle.std.proofs.Common.{◌≡◌, ℕ, ◌+◌, ◌*◌, ◌<◌, ◌≤◌, [], get_or, length, slice_index}
use Rattle.winternitz.specs.Lanes.{lanes}
use Rattle.wots_plus.specs.LTree.{l_tree_join}
use Rattle.wots_plus.proofs.lane_keys.LaneKeys.join_neighbours.Given as goal

abbrev pub invariant-loop-i : goal.invariant-loop-i
invariant-loop-i l = record {
  over : (j : ℕ) → j < lanes → (k : ℕ) → k < l.i → get_or (get_or l.rows k []) j []
      ≡ l_tree_join l.self.seed.now.key (slice_index l.self.leaves j) l.height k
      (get_or (get_or l.fn.rows (2 * k) []) j []) (get_or (get_or l.fn.rows (2 * k + 1) []) j []);
  rest : (k : ℕ) → 2 * l.i ≤ k → get_or l.rows k [] ≡ get_or l.fn.rows k [];
  keeps_length : length l.rows ≡ length l.fn.rows;
}
