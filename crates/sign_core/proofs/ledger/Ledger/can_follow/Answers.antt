use Rattle.std.proofs.Common.{ap, arith}
use Rattle.state_file.specs.Laws.{levels_of}
use Rattle.sign_core.specs.Ledger.{Table}
use Rattle.sign_core.proofs.ledgers.Reading.{key_levels}
use Rattle.sign_core.proofs.ledger.Ledger.can_follow.Goals as goal

pub overflow_sub-bottom : goal.overflow_sub-bottom
overflow_sub-bottom c =
    let (some, within_limit) = key_levels c.self.inside.records c.self.inside.key c.self.invariant.sizes c.self.invariant.keyed in
    omega (arith, some, c.levels-bottom.ensures)

pub is_free-requires-in-Bound : goal.is_free-requires-in-Bound
is_free-requires-in-Bound c =
    let (some, within_limit) = key_levels c.self.inside.records c.self.inside.key c.self.invariant.sizes c.self.invariant.keyed in
    omega (arith, some, c.levels-bottom.ensures, ap (λ (t : Table). levels_of t.key.secret) c.self.view_is)

pub current-requires : goal.current-requires
current-requires c =
    let (some, within_limit) = key_levels c.self.inside.records c.self.inside.key c.self.invariant.sizes c.self.invariant.keyed in
    omega (arith, some, within_limit, c.levels-bottom.ensures)

pub leaves-requires : goal.leaves-requires
leaves-requires c =
    let (some, within_limit) = key_levels c.self.inside.records c.self.inside.key c.self.invariant.sizes c.self.invariant.keyed in
    omega (arith, some, c.levels-bottom.ensures)
