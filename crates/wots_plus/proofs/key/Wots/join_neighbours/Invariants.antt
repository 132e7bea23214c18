-- The first i pairs are joined, the others unchanged.
use Rattle.std.proofs.Common.{◌≡◌, ℕ, ◌+◌, ◌*◌, ◌<◌, ◌≤◌, [], get_or, length}
use Rattle.wots_plus.specs.LTree.{l_tree_join}
use Rattle.wots_plus.proofs.key.Wots.join_neighbours.Given as goal

abbrev pub invariant-loop-i : goal.invariant-loop-i
invariant-loop-i g l = record {
  over : (k : ℕ) → k < l.i
      → get_or l.values k [] ≡ l_tree_join l.self.seed.now.key l.self.leaf l.height k (get_or l.fn.values (2 * k) []) (get_or l.fn.values (2 * k + 1) []);
  rest : (k : ℕ) → 2 * l.i ≤ k → get_or l.values k [] ≡ get_or l.fn.values k [];
  keeps_length : length l.values ≡ length l.fn.values;
}
