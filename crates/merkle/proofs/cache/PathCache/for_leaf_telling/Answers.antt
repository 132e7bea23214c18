use Rattle.std.proofs.Common.{arith, sym, ap, ◌∙◌, ◌≡◌, ◌-◌, ◌+◌, ◌/◌}
use Rattle.std.proofs.lemmas.Grind.{pow_more}
use Rattle.std.proofs.lemmas.List.{with_items_is}
use Rattle.std.proofs.lemmas.Nat.{pow_pos}
use Rattle.merkle.specs.Tree.{node}
use Rattle.merkle.proofs.Kept.{block_inside}
use Rattle.merkle.proofs.Listing.{nodes_last}
use Rattle.merkle.proofs.cache.PathCache.for_leaf_telling.Goals as goal

pub make_nodes-requires-clause-node_in_tree : goal.make_nodes-requires-clause-node_in_tree
make_nodes-requires-clause-node_in_tree g c =
    block_inside c.args.height c.block_of-kept_index.result c.requires.at_most_25 c.block_of-kept_index.ensures.is_block

pub make_around-requires-clause-known : goal.make_around-requires-clause-known
make_around-requires-clause-known g c =
    let leaf = g.T.TreeHash.leaf_of c.new-told.result.tree in
    let join = g.T.NodeHash.join_of c.new-told.result.tree in
    let kept = c.block_of-kept_index.result in
    let high : 0 + c.args.height / 2 ≡ c.args.height / 2 = omega arith in
    c.index.ensures
    ∙ nodes_last leaf join 0 (c.args.height / 2) kept (c.len.result - 1) _ c.index.result.now
    (with_items_is c.in-Ok-zeroed_nodes.block c.make_nodes.new.into (omega arith) ∙ c.make_nodes.ensures.value)
    (omega (arith, c.in-Ok-zeroed_nodes.ensures, pow_more 2 (c.args.height / 2), pow_pos (c.args.height / 2)))
    ∙ ap (λ h. node leaf join h kept) high
    ∙ ap (λ l. node l join (c.args.height / 2) kept) (sym c.make_nodes.ensures.leaves)
    ∙ ap (λ j. node (g.T.TreeHash.leaf_of c.make_nodes.new.tree.tree) j (c.args.height / 2) kept) (sym c.make_nodes.ensures.joins)
