use Rattle.std.proofs.Common.{take}
use Rattle.key_audit.proofs.LeafIndex.{AreAdded}
use Rattle.key_audit.proofs.leaf_index.LeafIndex.add.Given as goal

abbrev pub invariant-loop-used : goal.invariant-loop-used
invariant-loop-used l = AreAdded l.place (take l.used-index l.uses) l.initial.self.entries l.self.entries
