use Rattle.std.proofs.Common.{rules, arith, refl, sym, ap, ◌∙◌, ◌≡◌, length, ◌+◌, ◌-◌, ◌*◌, ◌<◌, ◌/◌, ◌^◌}
use Rattle.merkle.specs.Tree.{node}
use Rattle.merkle.proofs.Building.{node_leaf, node_children, children_inside}
use Rattle.merkle.proofs.Halves.{first_count, first_under, second_count, second_under}
use Rattle.merkle.proofs.tree.+node_over.Goals as goal

pub returns-then-height-eq0 : goal.returns-then-height-eq0
returns-then-height-eq0 g t c = λ leaf under.
    let h = c.args.height in
    let j = c.args.index in
    let one : 2 ^ h ≡ 1 = ap (λ n. 2 ^ n) c.if-height-eq0.true in
    let product : 2 ^ h * j ≡ 1 * j = ap (λ p. p * j) one in
    let place : 2 ^ h * j + 0 ≡ j = omega arith in
    under 0 (omega arith) ∙ ap leaf place ∙ sym (node_leaf leaf _ h j c.if-height-eq0.true)

pub node_over-left-requires : goal.node_over-left-requires
node_over-left-requires g t c κs within =
    let inside = children_inside c.args.height c.args.index (omega arith) c.requires.at_most_25 c.requires.node_in_tree in
    let count = first_count c.args.height (length c.args.leaves.now / 2) c.args.leaves.now (omega arith) c.requires.count refl in
    search rules

pub node_over-right-requires : goal.node_over-right-requires
node_over-right-requires g t c κs within =
    let inside = children_inside c.args.height c.args.index (omega arith) c.requires.at_most_25 c.requires.node_in_tree in
    let count = second_count c.args.height (length c.args.leaves.now / 2) c.args.leaves.now (omega arith) c.requires.count refl in
    search rules

pub returns : goal.returns
returns g t c = λ leaf under.
    let join = g.T.NodeHash.join_of c.args.tree.now in
    let h = c.args.height in
    let j = c.args.index in
    let n = length c.args.leaves.now / 2 in
    let above : 0 < h = omega arith in
    let left : c.node_over-left.result ≡ node leaf join (h - 1) (2 * j)
    = c.node_over-left.ensures leaf (first_under leaf h j n c.args.leaves.now above c.requires.count refl under) in
    let right : c.node_over-right.result ≡ node leaf join (h - 1) (2 * j + 1)
    = c.node_over-right.ensures leaf (second_under leaf h j n c.args.leaves.now above c.requires.count refl under) in
    c.join.ensures
    ∙ ap (λ v. join (h - 1) j v c.node_over-right.result) left
    ∙ ap (join (h - 1) j (node leaf join (h - 1) (2 * j))) right
    ∙ sym (node_children leaf join h j above)
