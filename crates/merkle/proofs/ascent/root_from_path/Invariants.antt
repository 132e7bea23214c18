use Rattle.std.proofs.Common.{◌≡◌, ◌/◌, ◌^◌}
use Rattle.merkle.proofs.Climb.{climbed}
use Rattle.merkle.proofs.ascent.root_from_path.Given as goal

-- the node at height k above the leaf, and its index
abbrev pub invariant-loop-k : goal.invariant-loop-k
invariant-loop-k g l = record {
  climbed_to : l.node ≡ climbed (g.T.NodeHash.join_of l.tree) l.q l.leaf l.path l.k;
  index_over : l.index ≡ l.q / 2 ^ l.k;
}
