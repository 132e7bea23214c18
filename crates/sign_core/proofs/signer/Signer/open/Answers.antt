use Rattle.sign_core.proofs.calls.OpenEnds.{held_old}
use Rattle.sign_core.proofs.signer.Signer.open.Goals as goal

pub returns : goal.returns
returns g c = held_old g.S.Store _ _ _ c.load_all-loaded.result _ c.load_all-loaded.ensures.loads c.holding.ensures
