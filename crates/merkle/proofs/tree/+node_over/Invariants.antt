use Rattle.merkle.proofs.tree.+node_over.Given as goal

abbrev pub decreases-node_over : goal.decreases-node_over
decreases-node_over g l = l.height
