use Rattle.std.proofs.Common.{rules, arith, refl, sym, ap, subst, ◌∙◌, ◌≡◌, length, ◌-◌, ◌+◌, ◌*◌, ◌<◌, ◌^◌, ◌/◌, ◌∷◌, []}
use Rattle.std.specs.Prelude.{take, drop}
use Rattle.std.proofs.lemmas.Grind.{pow_more}
use Rattle.merkle.specs.inner.Nodes.{AreUnder}
use Rattle.merkle.proofs.Halves.{first_count, first_under, second_count, second_under}
use Rattle.merkle.proofs.Listing.{halves_inside, nodes_over_halves, half_long, half_room, half_some}
use Rattle.merkle.proofs.Listing.{nodes_one, one_written}
use Rattle.merkle.proofs.nodes.+make_from_leaves.Goals as goal

pub returns-then-depth-eq0 : goal.returns-then-depth-eq0
returns-then-depth-eq0 g t c = λ leaf under.
    let one : length c.args.into.now ≡ 1 = omega (arith, ap (λ d. 2 ^ (d + 1)) c.if-depth-eq0.true) in
    let low : c.args.base + c.args.depth ≡ c.args.base = omega arith in
    one_written c.args.into.now c.node_over.result one
    ∙ ap (λ v. v ∷ []) (c.node_over.ensures leaf (subst (λ h. AreUnder leaf h c.args.index c.args.leaves.now) low under))
    ∙ sym (nodes_one leaf _ c.args.base c.args.depth c.args.index c.if-depth-eq0.true)

pub make_from_leaves-requires : goal.make_from_leaves-requires
make_from_leaves-requires g t c κs within =
    let room = half_room (length c.args.into.now) c.args.depth c.requires.exact_length (omega arith) in
    let inside
    = halves_inside c.args.base c.args.depth c.args.index (omega arith) c.requires.at_most_25 c.requires.node_in_tree in
    let lower : c.args.base + c.args.depth - 1 ≡ c.args.base + (c.args.depth - 1) = omega arith in
    let count = first_count (c.args.base + c.args.depth) (length c.args.leaves.now / 2) c.args.leaves.now (omega arith) c.requires.count refl
    ∙ ap (λ h. 2 ^ h) lower in
    search rules

pub make_from_leaves-requires-2 : goal.make_from_leaves-requires-2
make_from_leaves-requires-2 g t c κs within =
    let room = half_room (length c.args.into.now) c.args.depth c.requires.exact_length (omega arith) in
    let inside
    = halves_inside c.args.base c.args.depth c.args.index (omega arith) c.requires.at_most_25 c.requires.node_in_tree in
    let lower : c.args.base + c.args.depth - 1 ≡ c.args.base + (c.args.depth - 1) = omega arith in
    let count = second_count (c.args.base + c.args.depth) (length c.args.leaves.now / 2) c.args.leaves.now (omega arith) c.requires.count refl
    ∙ ap (λ h. 2 ^ h) lower in
    search rules

pub overflow_sub-half : goal.overflow_sub-half
overflow_sub-half g t c = half_some _ _ c.requires.exact_length (omega arith)

pub overflow_sub-half-2 : goal.overflow_sub-half-2
overflow_sub-half-2 g t c = half_some _ _ c.requires.exact_length (omega arith)

pub bounds-left-half : goal.bounds-left-half
bounds-left-half g t c = omega (arith, half_some (length c.args.into.now) c.args.depth c.requires.exact_length (omega arith))

pub bounds-right-half : goal.bounds-right-half
bounds-right-half g t c = omega (arith, half_some (length c.args.into.now) c.args.depth c.requires.exact_length (omega arith))

pub returns : goal.returns
returns g t c = λ leaf under.
    let join = g.T.NodeHash.join_of c.args.tree.now in
    let h = c.args.base + c.args.depth in
    let j = c.args.index in
    let leaves = c.args.leaves.now in
    let count = length leaves / 2 in
    let n = length c.args.into.now / 2 - 1 in
    let above : 0 < h = omega arith in
    let lower : h - 1 ≡ c.args.base + (c.args.depth - 1) = omega arith in
    let long = half_long (length c.args.into.now) c.args.depth c.requires.exact_length (omega arith) in
    let some = half_some (length c.args.into.now) c.args.depth c.requires.exact_length (omega arith) in
    let left = subst (λ k. AreUnder leaf k (2 * j) (take count leaves)) lower
    (first_under leaf h j count leaves above c.requires.count refl under) in
    let right = subst (λ k. AreUnder leaf k (2 * j + 1) (take (length leaves - count) (drop count leaves))) lower
    (second_under leaf h j count leaves above c.requires.count refl under) in
    nodes_over_halves leaf join c.args.base c.args.depth j n
    c.make_from_leaves.new.into c.make_from_leaves-2.new.into _ c.join.result (omega arith) (omega arith)
    (c.make_from_leaves.ensures leaf left)
    (c.make_from_leaves-2.ensures leaf right)
    (omega (arith, long, pow_more 2 c.args.depth))
    c.join.ensures
