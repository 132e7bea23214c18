use Rattle.std.proofs.Common.{None, subst}
use Rattle.sign_core.specs.inner.Replay.{IsReplay}
use Rattle.sign_core.proofs.ledgers.Replaying.{goes_on}
use Rattle.sign_core.proofs.replay.take_next.Goals as goal

pub returns-in-Some : goal.returns-in-Some
returns-in-Some c = λ records is.
    goes_on records c.in-Some.ledger c.take_up.new.self c.args.entry.now c.take_up.result c.take_up.ensures
    (subst (λ o. IsReplay records o None) c.in-Some.is is)
