use Rattle.std.proofs.Common.{arith, subst, ◌∙◌, ◌≡◌, ◌-◌}
use Rattle.merkle.specs.Cache.{View}
use Rattle.merkle.specs.Tree.{root_of}
use Rattle.merkle.proofs.Kept.{upper_last, upper_some}
use Rattle.merkle.proofs.cache.PathCache.root.Goals as goal

pub overflow_sub-len : goal.overflow_sub-len
overflow_sub-len g c = omega (arith, upper_some _ _ _ c.self.inside.upper.items c.self.invariant.upper_tree)

pub index-requires : goal.index-requires
index-requires g c = omega (arith, upper_some _ _ _ c.self.inside.upper.items c.self.invariant.upper_tree)

pub returns : goal.returns
returns g c =
    let P : View g.row.T.Denot → Type 0
    = λ v. c.index.result.now ≡ root_of (g.T.TreeHash.leaf_of v.tree) (g.T.NodeHash.join_of v.tree) v.height in
    let some = upper_some _ _ _ c.self.inside.upper.items c.self.invariant.upper_tree in
    subst P c.self.view_is
    (c.index.ensures
    ∙ upper_last _ _ c.self.inside.height (c.len.result - 1) c.self.inside.upper.items c.index.result.now
    c.self.invariant.upper_tree (omega arith))
