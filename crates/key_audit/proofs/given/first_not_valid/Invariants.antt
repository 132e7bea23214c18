use Rattle.key_audit.proofs.Twice.{AreValidBefore}
use Rattle.key_audit.proofs.given.first_not_valid.Given as goal

abbrev pub invariant-loop-place : goal.invariant-loop-place
invariant-loop-place l = AreValidBefore l.public l.given l.place
