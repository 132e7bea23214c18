use Rattle.std.proofs.Common.{rules, ◌≡◌, length, ap, sym, refl, ◌∙◌}
use Rattle.merkle.specs.Tree.{Leaves}
use Rattle.merkle.proofs.Paths.{path_along, root_along}
use Rattle.merkle.proofs.ascent.root_and_path.Goals as goal

pub returns-clause-root : goal.returns-clause-root
returns-clause-root g c =
    let tree = c.args.tree.now in
    let p = c.path.ensures in
    let l = c.leaf-value.ensures in
    let j : g.T.NodeHash.join_of c.leaf-value.new.self ≡ g.T.NodeHash.join_of tree = l.joins ∙ p.joins in
    let n : length c.path.new.into ≡ c.args.height = search rules in
    let path = p.value ∙ path_along _ _ _ _ _ _ c.args.leaf refl (sym j) (sym n) in
    let value = l.value ∙ ap (λ (leaves : Leaves). leaves c.args.leaf) p.leaves in
    c.root_from_path.ensures.leads (g.T.TreeHash.leaf_of tree) path value ∙ root_along _ _ _ _ _ j n
