-- The pairs of the groups so far are joined, the others unchanged.
use Rattle.std.proofs.Common.{◌≡◌, ℕ, ◌+◌, ◌*◌, ◌<◌, ◌≤◌, [], get_or, length}
use Rattle.winternitz.specs.Lanes.{lanes}
use Rattle.wots_plus.specs.LTree.{l_tree_join}
use Rattle.wots_plus.proofs.climbing.InLanesJoining.join_front.Given as goal

abbrev pub invariant-loop-group : goal.invariant-loop-group
invariant-loop-group l = record {
  over : (k : ℕ) → k < lanes * l.group
      → get_or l.values k [] ≡ l_tree_join l.key.seed.now.key l.key.leaf l.height k (get_or l.fn.values (2 * k) []) (get_or l.fn.values (2 * k + 1) []);
  rest : (k : ℕ) → 2 * (lanes * l.group) ≤ k → get_or l.values k [] ≡ get_or l.fn.values k [];
  keeps_length : length l.values ≡ length l.fn.values;
}
