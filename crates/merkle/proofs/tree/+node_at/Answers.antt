use Rattle.std.proofs.Common.{rules, arith, sym, ap, ◌∙◌}
use Rattle.merkle.specs.Tree.{node}
use Rattle.merkle.proofs.tree.+node_at.Goals as goal
use Rattle.merkle.proofs.Building.{node_leaf, node_children, leaves_twice, children_inside}
use Rattle.merkle.proofs.Halves.{under_lanes}

pub returns-then-height-eq0-clause-value : goal.returns-then-height-eq0-clause-value
returns-then-height-eq0-clause-value g t c = c.leaf.ensures.value ∙ sym (node_leaf _ _ _ _ c.if-height-eq0.true)

pub returns-then-height-eq-LANES_HEIGHT-clause-value : goal.returns-then-height-eq-LANES_HEIGHT-clause-value
returns-then-height-eq-LANES_HEIGHT-clause-value g t c =
    let leaf = g.T.TreeHash.leaf_of c.args.tree.now in
    let join = g.T.NodeHash.join_of c.args.tree.now in
    c.node_over.ensures leaf
    (under_lanes leaf c.args.height c.args.index _ c.if-height-eq-LANES_HEIGHT.true c.leaves_in_lanes-leaves.ensures.values)
    ∙ ap (λ f. node leaf f c.args.height c.args.index) c.leaves_in_lanes-leaves.ensures.joins

pub node_at-left-requires : goal.node_at-left-requires
node_at-left-requires g t c κs within =
    let both = children_inside c.args.height c.args.index (omega arith) c.requires.at_most_25 c.requires.node_in_tree in
    search rules

pub node_at-right-requires : goal.node_at-right-requires
node_at-right-requires g t c κs within =
    let both = children_inside c.args.height c.args.index (omega arith) c.requires.at_most_25 c.requires.node_in_tree in
    search rules

pub returns-clause-value : goal.returns-clause-value
returns-clause-value g t c =
    let e = node_children (g.T.TreeHash.leaf_of c.args.tree.now) (g.T.NodeHash.join_of c.args.tree.now) c.args.height c.args.index (omega arith) in
    cc

pub returns-clause-counted : goal.returns-clause-counted
returns-clause-counted g t c = omega (arith, leaves_twice c.args.height (omega arith))
