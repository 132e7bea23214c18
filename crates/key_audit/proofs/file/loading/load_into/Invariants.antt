use Rattle.key_audit.proofs.Loads.{HasLoaded}
use Rattle.key_audit.proofs.file.loading.load_into.Given as goal

abbrev pub invariant-loop-slot : goal.invariant-loop-slot
invariant-loop-slot g l = HasLoaded g.D.Disk l.fn.store l.store (g.T.Taker.taken l.taker) l.slot
