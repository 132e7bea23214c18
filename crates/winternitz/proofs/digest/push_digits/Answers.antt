use Rattle.std.proofs.Common.{arith}
use Rattle.winternitz.proofs.Coefs.{pushed_more}
use Rattle.winternitz.proofs.digest.push_digits.Goals as goal

pub loop-i-preserved : goal.loop-i-preserved
loop-i-preserved c = record {
  items = pushed_more _ _ _ _ _ _ _ c.loop-i.invariant.items c.coef.ensures.value c.push.ensures.items;
  len = omega arith;
}
