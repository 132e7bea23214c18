use Rattle.std.proofs.Common.{arith}
use Rattle.typecodes.proofs.Written.{all_parts, next_part}
use Rattle.lmots.proofs.chains.key_prefix.Goals as goal

pub returns : goal.returns
returns c =
    let leaf = next_part _ _ _ _ _ _ _ c.put-offset.ensures.bytes c.put.ensures.bytes c.to_be_bytes.ensures in
    all_parts _ _ _ leaf (omega arith)
