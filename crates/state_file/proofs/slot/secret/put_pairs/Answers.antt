use Rattle.std.proofs.Common.{arith}
use Rattle.state_file.proofs.Written.{writes-next, writes-none}
use Rattle.state_file.proofs.slot.secret.put_pairs.Goals as goal

pub loop-pair-init : goal.loop-pair-init
loop-pair-init c = record { writes = writes-none c.args.out.now.items; len = omega arith }

pub loop-pair-preserved : goal.loop-pair-preserved
loop-pair-preserved c = record {
  writes = writes-next c.args.all.now c.loop-pair.pair-index _ _ _ _ c.loop-pair-test.true c.loop-pair.invariant.writes c.put_pair.ensures.writes;
  len = omega (arith, c.put_pair.ensures.len, c.loop-pair.invariant.len);
}
