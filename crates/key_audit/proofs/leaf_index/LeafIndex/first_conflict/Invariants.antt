use Rattle.std.proofs.Common.{take}
use Rattle.key_audit.specs.inner.LeafIndex.{IsFirstConflict}
use Rattle.key_audit.proofs.leaf_index.LeafIndex.first_conflict.Given as goal

abbrev pub invariant-loop-used : goal.invariant-loop-used
invariant-loop-used l = IsFirstConflict l.self.entries (take l.used-index l.uses) l.least
