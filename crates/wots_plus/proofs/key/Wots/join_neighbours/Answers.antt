use Rattle.std.proofs.Common.{◌≡◌, ◌<◌, ◌≤◌, ◌∙◌, refl, ℕ, ◌*◌, ◌/◌, length, arith, ap, take}
use Rattle.wots_plus.proofs.LTree.{next_height_all, next_height_with_odd}
use Rattle.wots_plus.proofs.key.Wots.join_neighbours.Goals as goal
use Rattle.wots_plus.proofs.key.Wots.join_neighbours.Goals.{then-values-eq1, else-values-eq1}

pub returns-clause-values : goal.returns-clause-values
returns-clause-values g c =
    let all : c.loop-i.i ≡ length c.args.values.now / 2 = omega arith in
    let each = λ (k : ℕ) (within : k < length c.args.values.now / 2). c.loop-i.invariant.over k (omega arith) in
    let rest = λ (k : ℕ) (past : 2 * (length c.args.values.now / 2) ≤ k). c.loop-i.invariant.rest k (omega arith) in
    elim c.if-values-eq1.branch [
      | then-values-eq1 w ↦ ap (take c.div_ceil.result) w.values-is
          ∙ next_height_with_odd _ c.args.values.now c.loop-i.values (length c.args.values.now / 2) _ refl (omega arith) (omega arith) (omega arith) each rest
      | else-values-eq1 w ↦ ap (take c.div_ceil.result) w.values-is
          ∙ next_height_all _ c.args.values.now c.loop-i.values (length c.args.values.now / 2) _ refl (omega arith) (omega arith) each (λ odd. absurd (omega arith))
    ]
