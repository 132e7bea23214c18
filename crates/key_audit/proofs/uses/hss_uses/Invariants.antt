use Rattle.hss.specs.View.{signature_of}
use Rattle.key_audit.proofs.Levels.{AreAbove}
use Rattle.key_audit.proofs.uses.hss_uses.Given as goal

abbrev pub invariant-loop-level : goal.invariant-loop-level
invariant-loop-level l = AreAbove l.top l.message (signature_of l.signature) l.level l.uses.items l.key
