use Rattle.std.proofs.Common.{◌≡◌, ℕ, ◌+◌, ◌-◌, ◌<◌, ◌/◌, ◌^◌, [], get_or}
use Rattle.merkle.specs.Tree.{node, sibling}
use Rattle.merkle.proofs.tree.path.Given as goal

-- the nodes below k are written, and each leaf below them was made once
abbrev pub invariant-loop-k : goal.invariant-loop-k
invariant-loop-k g l = record {
  written : (j : ℕ) → j < l.k
      → get_or l.into j [] ≡ node (g.T.TreeHash.leaf_of l.initial.tree) (g.T.NodeHash.join_of l.initial.tree) j (sibling (l.q / 2 ^ j));
  index_over : l.over ≡ l.q / 2 ^ l.k;
  counted : g.T.TreeHash.made l.tree ≡ g.T.TreeHash.made l.initial.tree + (2 ^ l.k - 1);
  leaves : g.T.TreeHash.leaf_of l.tree ≡ g.T.TreeHash.leaf_of l.initial.tree;
  joins : g.T.NodeHash.join_of l.tree ≡ g.T.NodeHash.join_of l.initial.tree;
  most : g.T.TreeHash.most l.tree ≡ g.T.TreeHash.most l.initial.tree;
}
