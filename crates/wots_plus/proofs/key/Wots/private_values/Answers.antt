use Rattle.std.proofs.Common.{◌*◌, arith, rules}
use Rattle.wots_plus.specs.Key.{private_value}
use Rattle.winternitz.proofs.Ends.{lanes_more}
use Rattle.winternitz.specs.Lanes.{lanes}
use Rattle.wots_plus.proofs.key.Wots.private_values.Goals as goal

pub loop-group-preserved : goal.loop-group-preserved
loop-group-preserved c = record {
  long = search rules;
  each = λ i low. lanes_more (private_value c.args.self.now.seed.now.key c.args.self.now.leaf c.args.secret.now) (lanes * c.loop-group.group) _ _
      c.loop-group.invariant.each c.private_values_in_lanes.ensures.before c.private_values_in_lanes.ensures.made i (omega arith);
}
