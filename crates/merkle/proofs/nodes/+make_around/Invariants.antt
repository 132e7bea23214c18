use Rattle.merkle.proofs.nodes.+make_around.Given as goal

abbrev pub decreases-make_around : goal.decreases-make_around
decreases-make_around g l = l.depth
