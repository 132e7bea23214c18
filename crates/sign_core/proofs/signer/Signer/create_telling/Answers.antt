use Rattle.sign_core.proofs.calls.CreateEnds.{held_new}
use Rattle.sign_core.proofs.signer.Signer.create_telling.Goals as goal

pub returns : goal.returns
returns g c = held_new g.S.Store g.R.Source c.args.version c.args.spec _ _ _ _ c.create_key-made.result _ c.create_key-made.ensures.makes c.holding.ensures
