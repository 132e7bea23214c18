use Rattle.merkle.proofs.tree.+node_at.Given as goal

abbrev pub decreases-node_at : goal.decreases-node_at
decreases-node_at g l = l.height
