use Rattle.sign_core.proofs.calls.ReplayEnds.{replayed}
use Rattle.sign_core.proofs.signer.Signer.open_replayed.Goals as goal

pub returns : goal.returns
returns g c =
    replayed g.S.Store c.args.store c.args.random (λ left honest running since. g.met.S.Store.leaves_nothing_else c.args.store left honest running since)
    c.requires.running c.args.replay c.take_over-taken.result c.holding.result c.requires.taken c.take_over-taken.ensures c.holding.ensures
