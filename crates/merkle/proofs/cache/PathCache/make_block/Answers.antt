use Rattle.std.proofs.Common.{arith, sym, ap, ◌∙◌, ◌≡◌, ◌<◌, ◌-◌, ◌^◌, refl, subst, ℕ}
use Rattle.std.proofs.lemmas.List.{with_items_is}
use Rattle.merkle.specs.Cache.{block_height}
use Rattle.merkle.proofs.Kept.{kept_already, kept_now, block_count, block_inside}
use Rattle.merkle.proofs.cache.PathCache.make_block.Goals as goal

pub returns-then-index-self-clause-nodes : goal.returns-then-index-self-clause-nodes
returns-then-index-self-clause-nodes g c =
    kept_already {T = g.row.T.Denot} g.T.TreeHash.leaf_of g.T.NodeHash.join_of _ c.args.self.now c.args.index
    c.self.view_is c.if-index-self.true c.self.invariant.upper_tree c.self.invariant.one_block

pub make_nodes-requires-clause-node_in_tree : goal.make_nodes-requires-clause-node_in_tree
make_nodes-requires-clause-node_in_tree g c =
    let same : c.args.self.now.height ≡ c.self.inside.height = ap (λ v. v.height) (sym c.self.view_is) in
    let P : ℕ → Type 0 = λ h. c.args.index < 2 ^ (h - block_height h) in
    block_inside c.self.inside.height c.args.index c.self.invariant.within (subst P same c.requires)

pub make_nodes-requires-clause-exact_length : goal.make_nodes-requires-clause-exact_length
make_nodes-requires-clause-exact_length g c =
    block_count _ _ c.self.inside.height c.self.inside.kept_index c.deref_mut.result.now
    (c.deref_mut.ensures.value ∙ c.self.invariant.one_block)

pub returns-clause-nodes : goal.returns-clause-nodes
returns-clause-nodes g c =
    kept_now {T = g.row.T.Denot} g.T.TreeHash.leaf_of g.T.NodeHash.join_of _ c.args.self.now _ c.args.index
    c.self.view_is refl refl refl c.self.invariant.upper_tree
    (with_items_is c.self.inside.block c.make_nodes.new.into (omega arith) ∙ c.make_nodes.ensures.value)
