use Rattle.sign_core.proofs.calls.OpenEnds.{IsLoadedTo}
use Rattle.sign_core.proofs.signer.load_all.Given as goal

abbrev pub invariant-loop-slot : goal.invariant-loop-slot
invariant-loop-slot g l = IsLoadedTo g.S.Store l.fn.store l.store l.ledger l.slot l.slot
