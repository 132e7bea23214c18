use Rattle.std.proofs.Common.{arith, ap, ◌∙◌, ◌≡◌, ◌^◌, ℕ, ◌/◌, List, []}
use Rattle.std.proofs.lemmas.List.Edits.{fill_by_more}
use Rattle.std.proofs.lemmas.List.FromFn.{fill_by_all}
use Rattle.merkle.specs.Tree.{node, sibling}
use Rattle.merkle.proofs.tree.path.Goals as goal
use Rattle.merkle.proofs.Climb.{half_of}
use Rattle.merkle.proofs.Building.{sibling_inside, over_inside, path_leaves_more}

pub sibling_of-requires : goal.sibling_of-requires
sibling_of-requires g c =
    over_inside c.args.height c.args.q c.loop-k.k _ c.requires.at_most_25 c.requires.is_leaf c.loop-k.invariant.index_over

pub node_at-requires-clause-node_in_tree : goal.node_at-requires-clause-node_in_tree
node_at-requires-clause-node_in_tree g c =
    rw c.sibling_of.ensures
    (sibling_inside c.args.height c.args.q c.loop-k.k _ c.requires.at_most_25 c.requires.is_leaf (omega arith) c.loop-k.invariant.index_over)

pub loop-k-preserved : goal.loop-k-preserved
loop-k-preserved g c =
    let f : ℕ → List ℕ
    = λ j. node (g.T.TreeHash.leaf_of c.args.tree.now) (g.T.NodeHash.join_of c.args.tree.now) j (sibling (c.args.q / 2 ^ j)) in
    let turned : c.sibling_of.result ≡ sibling (c.args.q / 2 ^ c.loop-k.k)
    = c.sibling_of.ensures ∙ ap sibling c.loop-k.invariant.index_over in
    let made : c.node_at.result ≡ f c.loop-k.k = cc in
    record {
      written = rw made (fill_by_more f c.loop-k.into c.loop-k.k [] (omega arith) c.loop-k.invariant.written);
      index_over = ap (λ i. i / 2) c.loop-k.invariant.index_over ∙ half_of _ _;
      counted = omega (arith, path_leaves_more c.loop-k.k);
      leaves = cc;
      joins = cc;
      most = cc;
    }

pub returns-clause-value : goal.returns-clause-value
returns-clause-value g c =
    fill_by_all _ c.loop-k.into c.args.height [] (omega arith)
    (λ j below. c.loop-k.invariant.written j (omega arith))
