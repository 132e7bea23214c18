use Rattle.std.proofs.Common.{rules, arith, sym, ap, ◌∙◌, ◌≡◌, length, ◌-◌, ◌+◌, ◌*◌, ◌^◌, ◌/◌, ◌∷◌, []}
use Rattle.std.specs.Prelude.{slice_index_or}
use Rattle.std.proofs.lemmas.Grind.{pow_more}
use Rattle.merkle.specs.Nodes.{part_nodes}
use Rattle.merkle.specs.Tree.{node}
use Rattle.merkle.proofs.Listing.{halves_inside, nodes_over_halves, half_long, half_room, half_some, leaves_below}
use Rattle.merkle.proofs.Listing.{nodes_one, one_written}
use Rattle.merkle.proofs.Reading.{under_second}
use Rattle.merkle.proofs.nodes.+make_around.Goals as goal

pub returns-then-depth-eq0-clause-value : goal.returns-then-depth-eq0-clause-value
returns-then-depth-eq0-clause-value g t c =
    let leaf = g.T.TreeHash.leaf_of c.args.tree.now in
    let join = g.T.NodeHash.join_of c.args.tree.now in
    let one : length c.args.into.now ≡ 1 = omega (arith, ap (λ d. 2 ^ (d + 1)) c.if-depth-eq0.true) in
    let whole : c.args.known_index ≡ c.args.known_index / 2 ^ 0 = omega arith in
    one_written c.args.into.now c.args.known.now one
    ∙ ap (λ v. v ∷ []) c.requires.known
    ∙ ap (λ j. node leaf join c.args.base j ∷ [])
    (whole ∙ ap (λ d. c.args.known_index / 2 ^ d) (sym c.if-depth-eq0.true) ∙ c.requires.under)
    ∙ sym (nodes_one leaf join c.args.base c.args.depth c.args.index c.if-depth-eq0.true)

pub make_around-requires : goal.make_around-requires
make_around-requires g t c κs within =
    let room = half_room (length c.args.into.now) c.args.depth c.requires.exact_length (omega arith) in
    let inside
    = halves_inside c.args.base c.args.depth c.args.index (omega arith) c.requires.at_most_25 c.requires.node_in_tree in
    let power : c.pow.result ≡ 2 ^ (c.args.depth - 1) = c.pow.ensures ∙ ap (λ n. 2 ^ n) c.from.ensures in
    let under : c.args.known_index / 2 ^ (c.args.depth - 1) ≡ 2 * c.args.index
    = ap (λ n. c.args.known_index / n) (sym power) ∙ c.if-over-index.true in
    search rules

pub make_nodes-requires-clause-node_in_tree : goal.make_nodes-requires-clause-node_in_tree
make_nodes-requires-clause-node_in_tree g t c =
    halves_inside c.args.base c.args.depth c.args.index (omega arith) c.requires.at_most_25 c.requires.node_in_tree

pub make_nodes-requires-else-over-index-clause-node_in_tree : goal.make_nodes-requires-else-over-index-clause-node_in_tree
make_nodes-requires-else-over-index-clause-node_in_tree g t c =
    omega (arith, halves_inside c.args.base c.args.depth c.args.index (omega arith) c.requires.at_most_25 c.requires.node_in_tree)

pub make_around-requires-else-over-index : goal.make_around-requires-else-over-index
make_around-requires-else-over-index g t c κs within =
    let room = half_room (length c.args.into.now) c.args.depth c.requires.exact_length (omega arith) in
    let inside
    = halves_inside c.args.base c.args.depth c.args.index (omega arith) c.requires.at_most_25 c.requires.node_in_tree in
    let power : c.pow.result ≡ 2 ^ (c.args.depth - 1) = c.pow.ensures ∙ ap (λ n. 2 ^ n) c.from.ensures in
    let under = under_second c.args.known_index c.args.depth c.args.index c.pow.result (omega arith) c.requires.under
    power c.if-over-index.false in
    let known
    = c.requires.known
    ∙ ap (λ l. node l (g.T.NodeHash.join_of c.args.tree.now) c.args.base c.args.known_index)
    (sym c.make_nodes-else-over-index.ensures.leaves)
    ∙ ap (λ j. node (g.T.TreeHash.leaf_of c.make_nodes-else-over-index.new.tree) j c.args.base c.args.known_index)
    (sym c.make_nodes-else-over-index.ensures.joins) in
    search rules

pub overflow_sub-half : goal.overflow_sub-half
overflow_sub-half g t c = half_some _ _ c.requires.exact_length (omega arith)

pub overflow_sub-half-then-over-index : goal.overflow_sub-half-then-over-index
overflow_sub-half-then-over-index g t c = half_some _ _ c.requires.exact_length (omega arith)

pub bounds-left-half : goal.bounds-left-half
bounds-left-half g t c = omega (arith, half_some (length c.args.into.now) c.args.depth c.requires.exact_length (omega arith))

pub bounds-right-half : goal.bounds-right-half
bounds-right-half g t c = omega (arith, half_some (length c.args.into.now) c.args.depth c.requires.exact_length (omega arith))

pub overflow_sub-half-else-over-index : goal.overflow_sub-half-else-over-index
overflow_sub-half-else-over-index g t c = half_some _ _ c.requires.exact_length (omega arith)

pub overflow_sub-half-else-over-index-2 : goal.overflow_sub-half-else-over-index-2
overflow_sub-half-else-over-index-2 g t c = half_some _ _ c.requires.exact_length (omega arith)

pub bounds-left-half-else-over-index : goal.bounds-left-half-else-over-index
bounds-left-half-else-over-index g t c =
    omega (arith, half_some (length c.args.into.now) c.args.depth c.requires.exact_length (omega arith))

pub bounds-right-half-else-over-index : goal.bounds-right-half-else-over-index
bounds-right-half-else-over-index g t c =
    omega (arith, half_some (length c.args.into.now) c.args.depth c.requires.exact_length (omega arith))

pub returns-then-over-index-clause-value : goal.returns-then-over-index-clause-value
returns-then-over-index-clause-value g t c =
    let leaf = g.T.TreeHash.leaf_of c.args.tree.now in
    let join = g.T.NodeHash.join_of c.args.tree.now in
    let below = c.args.depth - 1 in
    let n = length c.args.into.now / 2 - 1 in
    let long = half_long (length c.args.into.now) c.args.depth c.requires.exact_length (omega arith) in
    let some = half_some (length c.args.into.now) c.args.depth c.requires.exact_length (omega arith) in
    nodes_over_halves leaf join c.args.base c.args.depth c.args.index n
    c.make_around.new.into c.make_nodes.new.into _ c.join.result (omega arith) (omega arith)
    c.make_around.ensures.value
    (c.make_nodes.ensures.value
    ∙ ap (λ l. part_nodes l (g.T.NodeHash.join_of c.make_around.new.tree) c.args.base below
    (2 * c.args.index + 1)) c.make_around.ensures.leaves
    ∙ ap (λ j. part_nodes leaf j c.args.base below (2 * c.args.index + 1)) c.make_around.ensures.joins)
    (omega (arith, long, pow_more 2 c.args.depth))
    (c.join.ensures
    ∙ ap (λ j. j (c.args.base + below) c.args.index (slice_index_or c.make_around.new.into n [])
    (slice_index_or c.make_nodes.new.into n []))
    (c.make_nodes.ensures.joins ∙ c.make_around.ensures.joins))

pub returns-then-over-index-clause-counted : goal.returns-then-over-index-clause-counted
returns-then-over-index-clause-counted g t c = omega (arith, leaves_below c.args.base c.args.depth (omega arith))

pub returns-else-over-index-clause-value : goal.returns-else-over-index-clause-value
returns-else-over-index-clause-value g t c =
    let leaf = g.T.TreeHash.leaf_of c.args.tree.now in
    let join = g.T.NodeHash.join_of c.args.tree.now in
    let below = c.args.depth - 1 in
    let n = length c.args.into.now / 2 - 1 in
    let long = half_long (length c.args.into.now) c.args.depth c.requires.exact_length (omega arith) in
    let some = half_some (length c.args.into.now) c.args.depth c.requires.exact_length (omega arith) in
    let first = c.make_nodes-else-over-index in
    let second = c.make_around-else-over-index in
    nodes_over_halves leaf join c.args.base c.args.depth c.args.index n
    first.new.into second.new.into _ c.join-else-over-index.result (omega arith) (omega arith)
    first.ensures.value
    (second.ensures.value
    ∙ ap (λ l. part_nodes l (g.T.NodeHash.join_of first.new.tree) c.args.base below
    (2 * c.args.index + 1)) first.ensures.leaves
    ∙ ap (λ j. part_nodes leaf j c.args.base below (2 * c.args.index + 1)) first.ensures.joins)
    (omega (arith, long, pow_more 2 c.args.depth))
    (c.join-else-over-index.ensures
    ∙ ap (λ j. j (c.args.base + below) c.args.index (slice_index_or first.new.into n [])
    (slice_index_or second.new.into n []))
    (second.ensures.joins ∙ first.ensures.joins))

pub returns-else-over-index-clause-counted : goal.returns-else-over-index-clause-counted
returns-else-over-index-clause-counted g t c = omega (arith, leaves_below c.args.base c.args.depth (omega arith))
