use Rattle.std.proofs.Common.{refl, arith}
use Rattle.typecodes.proofs.Written.{all_parts, next_part}
use Rattle.lmots.proofs.key.LmOts.message_prefix.Goals as goal

pub returns : goal.returns
returns c =
    let identifier = c.put-offset.ensures.bytes in
    let leaf = next_part _ _ _ _ _ _ _ identifier c.put-offset-2.ensures.bytes c.to_be_bytes.ensures in
    let separator = next_part _ _ _ _ _ _ _ leaf c.put-offset-3.ensures.bytes c.to_be_bytes-2.ensures in
    let randomizer = next_part _ _ _ _ _ _ _ separator c.put.ensures.bytes refl in
    all_parts _ _ _ randomizer (omega arith)
