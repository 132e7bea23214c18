-- The height's rows are in front.
use Rattle.std.proofs.Common.{◌≡◌, ℕ, ◌+◌, ◌<◌, ◌≤◌, length, slice_index, take}
use Rattle.winternitz.specs.Lanes.{lanes}
use Rattle.wots_plus.specs.LTree.{at_height, l_tree_join}
use Rattle.wots_plus.specs.inner.LaneKeys.{in_lane}
use Rattle.wots_plus.proofs.lane_keys.LaneKeys.l_trees.Given as goal

abbrev pub invariant-loop-count : goal.invariant-loop-count
invariant-loop-count l = record {
  replaced : (j : ℕ) → j < lanes → in_lane j (take l.count l.rows)
      ≡ at_height (l_tree_join l.self.seed.now.key (slice_index l.self.leaves j)) (in_lane j l.fn.rows) l.height;
  non_empty : 0 < l.count;
  shrinks : l.height + l.count ≤ length l.fn.rows;
}

abbrev pub decreases-loop-count : goal.decreases-loop-count
decreases-loop-count l = l.count
