use Rattle.key_audit.proofs.Twice.{Indexed}
use Rattle.key_audit.proofs.given.check_leaves.Given as goal

abbrev pub invariant-loop-place : goal.invariant-loop-place
invariant-loop-place l = Indexed l.public l.given l.place l.index.entries
