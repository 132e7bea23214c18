use Rattle.std.proofs.Common.{◌≡◌, ◌∙◌, sym, ap, arith, Some}
use Rattle.state_file.specs.Laws.{levels_of}
use Rattle.sign_core.specs.Ledger.{Table}
use Rattle.sign_core.specs.Trees.{tree_at}
use Rattle.sign_core.proofs.ledgers.Reading.{key_levels, tree_inside}
use Rattle.sign_core.proofs.ledger.Ledger.free_leaves.Goals as goal

pub current-requires : goal.current-requires
current-requires c =
    let (some, within_limit) = key_levels c.self.inside.records c.self.inside.key c.self.invariant.sizes c.self.invariant.keyed in
    omega (arith, within_limit, c.requires, ap (λ (t : Table). levels_of t.key.secret) c.self.view_is)

pub overflow_sub-result : goal.overflow_sub-result
overflow_sub-result c =
    let at : tree_at c.self.inside.key.secret c.self.inside.records c.args.level ≡ Some c.in-Some.tree =
    ap (λ (t : Table). tree_at t.key.secret t.records c.args.level) c.self.view_is ∙ sym c.current.ensures ∙ c.in-Some.is in
    let low = tree_inside c.self.inside.records c.self.inside.key c.args.level c.in-Some.tree c.self.invariant.legal c.self.invariant.keyed at in
    omega (arith, low, c.leaves-leaves.ensures)
