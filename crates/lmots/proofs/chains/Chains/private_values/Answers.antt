use Rattle.std.proofs.Common.{◌*◌, arith, rules}
use Rattle.lmots.specs.Key.{private_value}
use Rattle.winternitz.proofs.Ends.{lanes_more}
use Rattle.winternitz.specs.Lanes.{lanes}
use Rattle.lmots.proofs.chains.Chains.private_values.Goals as goal

pub loop-group-preserved : goal.loop-group-preserved
loop-group-preserved c = record {
  long = search rules;
  each = λ i low. lanes_more (private_value c.args.self.now.key.identifier c.args.self.now.key.leaf c.args.seed.now) (lanes * c.loop-group.group) _ _
      c.loop-group.invariant.each c.private_values_in_lanes.ensures.before c.private_values_in_lanes.ensures.made i (omega arith);
}
