-- The height's values are in front.
use Rattle.std.proofs.Common.{◌≡◌, ◌+◌, ◌<◌, ◌≤◌, length, take}
use Rattle.wots_plus.specs.LTree.{at_height, l_tree_join}
use Rattle.wots_plus.proofs.key.Wots.l_tree_by.Given as goal

abbrev pub invariant-loop-count : goal.invariant-loop-count
invariant-loop-count g l = record {
  replaced : take l.count l.values ≡ at_height (l_tree_join l.self.seed.now.key l.self.leaf) l.fn.values l.height;
  non_empty : 0 < l.count;
  shrinks : l.height + l.count ≤ length l.fn.values;
}

abbrev pub decreases-loop-count : goal.decreases-loop-count
decreases-loop-count g l = l.count
