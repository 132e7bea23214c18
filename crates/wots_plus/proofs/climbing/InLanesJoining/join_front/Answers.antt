use Rattle.std.proofs.Common.{◌∙◌, ◌*◌, arith}
use Rattle.winternitz.specs.Lanes.{lanes}
use Rattle.wots_plus.specs.LTree.{l_tree_join}
use Rattle.wots_plus.proofs.LTree.{pairs_more}
use Rattle.wots_plus.proofs.climbing.InLanesJoining.join_front.Goals as goal

pub loop-group-preserved : goal.loop-group-preserved
loop-group-preserved c = record {
  over = λ k low. pairs_more (l_tree_join c.args.key.now.seed.now.key c.args.key.now.leaf c.args.height) c.args.values.now _ _
      (lanes * c.loop-group.group) c.loop-group.invariant.over c.loop-group.invariant.rest c.join_pairs.ensures.below c.join_pairs.ensures.joined
      k (omega arith);
  rest = λ k past. c.join_pairs.ensures.above k (omega arith) ∙ c.loop-group.invariant.rest k (omega arith);
  keeps_length = c.join_pairs.ensures.keeps_length ∙ c.loop-group.invariant.keeps_length;
}
