use Rattle.std.proofs.Common.{ap, arith}
use Rattle.state_file.specs.Laws.{levels_of}
use Rattle.sign_core.specs.Ledger.{Table}
use Rattle.sign_core.proofs.ledgers.Reading.{key_levels}
use Rattle.sign_core.proofs.ledger.Ledger.is_free.Goals as goal

pub current-requires : goal.current-requires
current-requires c =
    let (some, within_limit) = key_levels c.self.inside.records c.self.inside.key c.self.invariant.sizes c.self.invariant.keyed in
    omega (arith, within_limit, c.requires, ap (λ (t : Table). levels_of t.key.secret) c.self.view_is)
