use Rattle.merkle.proofs.nodes.+make_nodes.Given as goal

abbrev pub decreases-make_nodes : goal.decreases-make_nodes
decreases-make_nodes g l = l.depth
