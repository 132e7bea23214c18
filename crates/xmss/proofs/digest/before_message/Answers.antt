use Rattle.std.proofs.Common.{◌≡◌, ◌∙◌, refl, arith}
use Rattle.typecodes.proofs.Written.{all_parts, next_part}
use Rattle.wots_plus.specs.Hashes.{to_byte}
use Rattle.xmss.specs.Digest.{index_bytes}
use Rattle.xmss.proofs.digest.before_message.Goals as goal

number : index_bytes 2 ≡ to_byte 2 32
unfolding index_bytes
number = refl

pub returns : goal.returns
returns c =
    let key = next_part _ _ _ _ _ _ _ (c.put-offset.ensures.bytes ∙ c.index_bytes.ensures ∙ number) c.put.ensures.bytes c.digest_key.ensures in
    all_parts _ _ _ key (omega arith)
