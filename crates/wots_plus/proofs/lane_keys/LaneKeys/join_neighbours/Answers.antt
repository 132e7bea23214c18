use Rattle.std.proofs.Common.{◌≡◌, ◌<◌, ◌≤◌, ◌∙◌, refl, ℕ, ◌+◌, ◌*◌, ◌/◌, [], get_or, length, take, arith, rules, ap, ap₂, slice_index}
use Rattle.wots_plus.specs.LTree.{l_tree_join}
use Rattle.wots_plus.specs.inner.LaneKeys.{in_lane}
use Rattle.wots_plus.proofs.Rows.{next_rows, next_rows_with_odd, row_more}
use Rattle.wots_plus.proofs.lane_keys.LaneKeys.join_neighbours.Goals as goal
use Rattle.wots_plus.proofs.lane_keys.LaneKeys.join_neighbours.Goals.{then-rows-eq1, else-rows-eq1}

pub loop-i-preserved : goal.loop-i-preserved
loop-i-preserved c =
    let key = c.args.self.now in
    let old = c.args.rows.now in
    let i = c.loop-i.i in
    record {
      over = row_more (λ j k. l_tree_join key.seed.now.key (slice_index key.leaves j) c.args.height k
          (get_or (get_or old (2 * k) []) j []) (get_or (get_or old (2 * k + 1) []) j [])) _ _ i (omega arith)
          c.loop-i.invariant.over
          (λ j low. c.join.ensures j low
          ∙ ap₂ (λ left right. l_tree_join key.seed.now.key (slice_index key.leaves j) c.args.height i (get_or left j []) (get_or right j []))
          (c.loop-i.invariant.rest (2 * i) (omega arith)) (c.loop-i.invariant.rest (2 * i + 1) (omega arith)));
      rest = search rules;
      keeps_length = search rules;
    }

pub returns-clause-values : goal.returns-clause-values
returns-clause-values c = λ j low.
    let old = c.args.rows.now in
    let rows = c.loop-i.rows in
    let pairs = length old / 2 in
    let all : c.loop-i.i ≡ pairs = omega arith in
    let each = λ (k : ℕ) (within : k < pairs). c.loop-i.invariant.over j low k (omega arith) in
    let rest = λ (k : ℕ) (past : 2 * pairs ≤ k). c.loop-i.invariant.rest k (omega arith) in
    elim c.if-rows-eq1.branch [
      | then-rows-eq1 w ↦ ap (λ list. in_lane j (take c.div_ceil.result list)) w.rows-is
          ∙ next_rows_with_odd _ j old rows pairs _ refl (omega arith) c.loop-i.invariant.keeps_length (omega arith) each rest
      | else-rows-eq1 w ↦ ap (λ list. in_lane j (take c.div_ceil.result list)) w.rows-is
          ∙ next_rows _ j old rows pairs _ refl (omega arith) c.loop-i.invariant.keeps_length each (λ odd. absurd (omega arith))
    ]
