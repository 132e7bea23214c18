use Rattle.std.proofs.Common.{arith}
use Rattle.state_file.proofs.Written.{writes-zeros}
use Rattle.state_file.proofs.slot.fields.put_zeros.Goals as goal

pub returns : goal.returns
returns c = record {
  writes = writes-zeros c.args.n 223 _ _ (omega (arith, c.requires)) c.put.ensures.items;
  len = omega arith;
}
