use Rattle.sign_core.proofs.ledgers.NameMaps.{kept_alike}
use Rattle.sign_core.proofs.name_map.NameMap.reserve.Goals as goal

pub returns-clause-same : goal.returns-clause-same
returns-clause-same c =
    kept_alike c.args.self.now (record { short = c.reserve.new.self; long = c.reserve-2.new.self })
    (λ text. c.reserve.ensures.entries.2 text) (λ name. c.reserve-2.ensures.entries.2 name)
