use Rattle.std.proofs.Common.{refl, arith}
use Rattle.typecodes.proofs.Written.{all_parts, next_part}
use Rattle.xmss.proofs.digest.digest_key.Goals as goal

pub returns : goal.returns
returns c =
    let root = next_part _ _ _ _ _ _ _ c.put-offset.ensures.bytes c.put-offset-2.ensures.bytes refl in
    let index = next_part _ _ _ _ _ _ _ root c.put.ensures.bytes c.index_bytes.ensures in
    all_parts _ _ _ index (omega arith)
