use Rattle.std.proofs.Common.{arith}
use Rattle.sign_core.proofs.ledgers.Reading.{key_levels}
use Rattle.sign_core.proofs.signer.Signer.cache_leaves.Goals as goal

pub current-requires : goal.current-requires
current-requires g c =
    let within_limit = (key_levels c.self.inside.ledger.records c.key.result.now c.key.ensures.sizes c.key.ensures.first).1 in
    omega (arith, within_limit, c.levels.ensures, c.if-level-levels.false)

pub leaves-requires : goal.leaves-requires
leaves-requires g c =
    let within_limit = (key_levels c.self.inside.ledger.records c.key.result.now c.key.ensures.sizes c.key.ensures.first).1 in
    omega (arith, within_limit, c.levels.ensures, c.if-level-levels.false)
