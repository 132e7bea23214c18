use Rattle.sign_core.proofs.caches.Caches.+keep_trees.Given as goal

abbrev pub decreases-keep_trees : goal.decreases-keep_trees
decreases-keep_trees g l = l.level
