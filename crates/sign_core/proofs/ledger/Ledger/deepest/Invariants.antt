use Rattle.sign_core.proofs.ledgers.Reading.{NoneFreeFrom}
use Rattle.sign_core.proofs.ledger.Ledger.deepest.Given as goal

abbrev pub invariant-loop-level : goal.invariant-loop-level
invariant-loop-level l = NoneFreeFrom l.self.key.secret l.self.records l.level
