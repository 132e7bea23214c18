use Rattle.std.proofs.Common.{◌≡◌, ◌∙◌, sym, ap, ◌-◌, length, take, rules}
use Rattle.boot_verify.proofs.Padded.{padded_same}
use Rattle.boot_verify.proofs.pieces.Pieces.has_prefix.Goals as goal
use borrow.Rule.Slice.PartMut.{put_mid}

pub returns : goal.returns
returns c =
    let n = c.args.count in
    let prefix = c.args.self.now.prefix in
    let room = c.args.room.now in
    let padded = put_mid n (128 - n) room c.copy_from_slice.new.self in
    let long : length room ≡ 128 = search rules in
    let long_too : length prefix ≡ 128 = search rules in
    let length_is : c.args.self.now.prefix_length ≡ n = search rules in
    let held_is = ap (λ k. take k prefix) length_is in
    let exact = padded_same n prefix room c.copy_from_slice.new.self long long_too c.requires c.copy_from_slice.ensures.after in (
      λ yes. let same : padded ≡ prefix = search rules in (length_is, held_is ∙ exact.0 same),
      λ (len, held). let same : padded ≡ prefix = exact.1 (sym held_is ∙ held) in search rules,
    )
