use Rattle.std.proofs.Common.{◌≡◌, ◌∙◌, ap, arith, length, take}
use Rattle.typecodes.proofs.Written.{next_part}
use Rattle.lmots.proofs.lane_keys.public_message_start.Goals as goal

pub returns : goal.returns
returns c =
    let long : length c.key_prefix.result ≡ 20 = omega (arith, ap length c.key_prefix.ensures, c.told-identifier) in
    let end : 22 ≡ c.put.result = omega (arith, c.put.ensures.offset, c.put-offset.ensures.offset, ap length c.to_be_bytes.ensures) in
    ap (λ n. take n c.put.new.into) end
    ∙ next_part _ _ _ _ _ _ _ (c.put-offset.ensures.bytes ∙ c.key_prefix.ensures) c.put.ensures.bytes c.to_be_bytes.ensures
