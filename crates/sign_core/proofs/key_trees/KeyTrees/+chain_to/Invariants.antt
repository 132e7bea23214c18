use Rattle.sign_core.proofs.key_trees.KeyTrees.+chain_to.Given as goal

abbrev pub decreases-chain_to : goal.decreases-chain_to
decreases-chain_to g l = l.level
