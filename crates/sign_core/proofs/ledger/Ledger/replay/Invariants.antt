use Rattle.std.proofs.Common.{◌≡◌, take}
use Rattle.sign_core.proofs.ledger.Ledger.replay.Given as goal

-- the records so far were taken
abbrev pub invariant-loop-entry : goal.invariant-loop-entry
invariant-loop-entry l = l.replay ≡ take l.entry-index l.records
