use Rattle.std.proofs.Common.{rules, arith, sym, ap, ◌∙◌, ◌≡◌, length, ◌/◌}
use Rattle.merkle.proofs.ascent.root_from_path.Goals as goal
use Rattle.merkle.proofs.ascent.root_from_path.Goals.{then-right, else-right}
use Rattle.merkle.proofs.Leading.{climbed_to_root}
use Rattle.merkle.proofs.Climb.{climbed, climbed-zero, half_of, climb_step, ascent_at, climb_end, climbed_nodes, climbed_nodes_at, climbed_is_ascent}

pub loop-k-init : goal.loop-k-init
loop-k-init g c = record {
  climbed_to = sym (climbed-zero _ _ _ _);
  index_over = omega arith;
}

pub loop-k-preserved : goal.loop-k-preserved
loop-k-preserved g c = record {
  climbed_to = climb_step _ _ _ _ _ _ _ _ c.loop-k.invariant.climbed_to c.loop-k.invariant.index_over
      (elim c.if-right.branch [ then-right w ↦ search rules | else-right w ↦ search rules ]);
  index_over = ap (λ i. i / 2) c.loop-k.invariant.index_over ∙ half_of _ _;
}

-- at the end of the loop the node is the one over the whole path
at_end : (g : _) (c : goal.After-loop-k g)
    → c.loop-k.node ≡ climbed (g.T.NodeHash.join_of c.args.tree.now) c.args.q c.args.leaf.now c.args.path.now (length c.args.path.now)
at_end g c = climb_end _ _ _ _ _ _ c.loop-k.invariant.climbed_to c.loop-k.auto.k-end c.loop-k-test.false

pub returns-clause-last : goal.returns-clause-last
returns-clause-last g c =
    let join = g.T.NodeHash.join_of c.args.tree.now in
    let leaf = c.args.leaf.now in
    let path = c.args.path.now in
    record {
      nodes = climbed_nodes join c.args.q leaf path;
      ascent = climbed_is_ascent join c.args.q leaf path;
      last = climbed_nodes_at join c.args.q leaf path (length path) (omega arith) ∙ sym (at_end g c);
    }

pub returns-clause-only : goal.returns-clause-only
returns-clause-only g c = λ other led. sym led.last ∙ ascent_at _ _ _ _ led.nodes _ led.ascent (omega arith) ∙ sym (at_end g c)

pub returns-clause-leads : goal.returns-clause-leads
returns-clause-leads g c = λ leaves path_is leaf_is.
    at_end g c ∙ climbed_to_root leaves _ _ _ _ _ c.requires.is_leaf path_is leaf_is
