use Rattle.std.proofs.Common.{◌≡◌, ◌-◌, ◌++◌, length, sym, subst, arith}
use Rattle.std.proofs.lemmas.Grind.{common_steps}
use borrow.Rule.Slice.PartMut.{post_of, put_mid}
use Rattle.typecodes.specs.Layout.{Spells}
use Rattle.hss.specs.SignedKey.{signed_key}
use Rattle.hss.specs.Writing.{made_signed_key}
use Rattle.hss.proofs.Bytes.{signed_key-spelled}
use Rattle.hss.proofs.writing.write_signed_key.Goals as goal

pub returns-clause-spells : goal.returns-clause-spells
returns-clause-spells c =
    let signed = made_signed_key c.args.level.now c.args.next.now in
    let len = length c.args.into.now in
    let written : put_mid (len - 56) (len - (len - 56)) (c.write.new.into ++ post_of 0 (len - 56 - 0) c.args.into.now) c.write_public.new.into ≡ c.write.new.into ++ c.write_public.new.into = grind (arith, common_steps) in
    subst (Spells signed_key signed) (sym written) (signed_key-spelled signed c.write.new.into c.write_public.new.into c.write.ensures.spells c.write_public.ensures.spells)
