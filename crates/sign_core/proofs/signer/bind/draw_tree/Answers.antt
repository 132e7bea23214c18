use Rattle.std.proofs.Common.{rules, ◌≡◌, Err, sym}
use Rattle.sign_core.proofs.steps.TreeDraws.{all_drawn, randomizer_fails, seed_fails}
use Rattle.sign_core.proofs.signer.bind.draw_tree.Goals as goal

pub returns-in_err-seed : goal.returns-in_err-seed
returns-in_err-seed g c =
    let answer : c.from_residual-in_err-seed.result ≡ Err c.in_err-seed.field-0.0 = search rules in
    let first = c.in_ok-identifier.ensures in
    seed_fails c.args.pair c.args.ledger.now.records _ _ _ _ _ _ _ _ _ (record { draws = first.drawn; sized = first.field.0; bytes = first.field.1 }) (sym c.if-has_identifier.ensures)
    c.in_err-seed.ensures.drawn answer

pub returns-in_err-randomizer : goal.returns-in_err-randomizer
returns-in_err-randomizer g c =
    let answer : c.from_residual-in_err-randomizer.result ≡ Err c.in_err-randomizer.field-0.0 = search rules in
    let first = c.in_ok-identifier.ensures in
    let second = c.in_ok-seed.ensures in
    randomizer_fails c.args.pair c.args.ledger.now.records _ _ _ _ _ _ _ _ _ _ _ _ (record { draws = first.drawn; sized = first.field.0; bytes = first.field.1 }) (sym c.if-has_identifier.ensures)
    (record { draws = second.drawn; sized = second.field.0; bytes = second.field.1 }) c.in_err-randomizer.ensures.drawn answer

pub returns : goal.returns
returns g c =
    let first = c.in_ok-identifier.ensures in
    let second = c.in_ok-seed.ensures in
    let third = c.in_ok-randomizer.ensures in
    all_drawn c.args.pair c.args.ledger.now.records _ _ _ _ _ _ _ _ _ _ _ c.new.result c.new.ensures (record { draws = first.drawn; sized = first.field.0; bytes = first.field.1 }) (sym c.if-has_identifier.ensures)
    (record { draws = second.drawn; sized = second.field.0; bytes = second.field.1 }) (record { draws = third.drawn; sized = third.field.0; bytes = third.field.1 })
