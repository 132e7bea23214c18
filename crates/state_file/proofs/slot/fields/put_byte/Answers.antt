use Rattle.std.proofs.Common.{arith}
use Rattle.state_file.proofs.Written.{writes-byte}
use Rattle.state_file.proofs.slot.fields.put_byte.Goals as goal

pub returns : goal.returns
returns c = record { writes = writes-byte c.args.n _ _ c.put.ensures.items; len = omega arith }
