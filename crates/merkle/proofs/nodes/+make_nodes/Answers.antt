use Rattle.std.proofs.Common.{rules, arith, sym, ap, ◌∙◌, ◌≡◌, length, ◌-◌, ◌+◌, ◌*◌, ◌^◌, ◌/◌, ◌∷◌, []}
use Rattle.std.specs.Prelude.{slice_index_or}
use Rattle.std.proofs.lemmas.Grind.{pow_more}
use Rattle.merkle.specs.Nodes.{part_nodes}
use Rattle.merkle.proofs.Listing.{halves_inside, nodes_over_halves, half_long, half_room, half_some, leaves_below}
use Rattle.merkle.proofs.Listing.{nodes_one, one_written}
use Rattle.merkle.proofs.nodes.+make_nodes.Goals as goal

pub returns-then-depth-eq0-clause-value : goal.returns-then-depth-eq0-clause-value
returns-then-depth-eq0-clause-value g t c =
    let one : length c.args.into.now ≡ 1 = omega (arith, ap (λ d. 2 ^ (d + 1)) c.if-depth-eq0.true) in
    one_written c.args.into.now c.node_at.result one
    ∙ ap (λ v. v ∷ []) c.node_at.ensures.value
    ∙ sym (nodes_one _ _ c.args.base c.args.depth c.args.index c.if-depth-eq0.true)

pub make_nodes-requires : goal.make_nodes-requires
make_nodes-requires g t c κs within =
    let room = half_room (length c.args.into.now) c.args.depth c.requires.exact_length (omega arith) in
    let inside
    = halves_inside c.args.base c.args.depth c.args.index (omega arith) c.requires.at_most_25 c.requires.node_in_tree in
    search rules

pub make_nodes-requires-2 : goal.make_nodes-requires-2
make_nodes-requires-2 g t c κs within =
    let room = half_room (length c.args.into.now) c.args.depth c.requires.exact_length (omega arith) in
    let inside
    = halves_inside c.args.base c.args.depth c.args.index (omega arith) c.requires.at_most_25 c.requires.node_in_tree in
    search rules

pub overflow_sub-half : goal.overflow_sub-half
overflow_sub-half g t c = half_some _ _ c.requires.exact_length (omega arith)

pub overflow_sub-half-2 : goal.overflow_sub-half-2
overflow_sub-half-2 g t c = half_some _ _ c.requires.exact_length (omega arith)

pub bounds-left-half : goal.bounds-left-half
bounds-left-half g t c = omega (arith, half_some (length c.args.into.now) c.args.depth c.requires.exact_length (omega arith))

pub bounds-right-half : goal.bounds-right-half
bounds-right-half g t c = omega (arith, half_some (length c.args.into.now) c.args.depth c.requires.exact_length (omega arith))

pub returns-clause-value : goal.returns-clause-value
returns-clause-value g t c =
    let leaf = g.T.TreeHash.leaf_of c.args.tree.now in
    let join = g.T.NodeHash.join_of c.args.tree.now in
    let below = c.args.depth - 1 in
    let n = length c.args.into.now / 2 - 1 in
    let long = half_long (length c.args.into.now) c.args.depth c.requires.exact_length (omega arith) in
    let some = half_some (length c.args.into.now) c.args.depth c.requires.exact_length (omega arith) in
    nodes_over_halves leaf join c.args.base c.args.depth c.args.index n
    c.make_nodes.new.into c.make_nodes-2.new.into _ c.join.result (omega arith) (omega arith)
    c.make_nodes.ensures.value
    (c.make_nodes-2.ensures.value
    ∙ ap (λ l. part_nodes l (g.T.NodeHash.join_of c.make_nodes.new.tree) c.args.base below
    (2 * c.args.index + 1)) c.make_nodes.ensures.leaves
    ∙ ap (λ j. part_nodes leaf j c.args.base below (2 * c.args.index + 1)) c.make_nodes.ensures.joins)
    (omega (arith, long, pow_more 2 c.args.depth))
    (c.join.ensures
    ∙ ap (λ j. j (c.args.base + below) c.args.index (slice_index_or c.make_nodes.new.into n [])
    (slice_index_or c.make_nodes-2.new.into n []))
    (c.make_nodes-2.ensures.joins ∙ c.make_nodes.ensures.joins))

pub returns-clause-counted : goal.returns-clause-counted
returns-clause-counted g t c = omega (arith, leaves_below c.args.base c.args.depth (omega arith))
