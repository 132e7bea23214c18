use Rattle.merkle.proofs.nodes.+make_from_leaves.Given as goal

abbrev pub decreases-make_from_leaves : goal.decreases-make_from_leaves
decreases-make_from_leaves g l = l.depth
