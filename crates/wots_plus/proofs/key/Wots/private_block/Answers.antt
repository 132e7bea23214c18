use Rattle.std.proofs.Common.{arith}
use Rattle.typecodes.proofs.Written.{all_parts, next_part}
use Rattle.wots_plus.proofs.key.Wots.private_block.Goals as goal

pub returns : goal.returns
returns c = record {
  bytes = all_parts _ _ _ (next_part _ _ _ _ _ _ _ c.put-offset.ensures.bytes c.put.ensures.bytes c.step_address.ensures) (omega arith);
  is_block = omega arith;
}
