use Rattle.std.proofs.Common.{◌≡◌, ◌≤◌, sym, subst, arith}
use Rattle.std.proofs.lemmas.Grind.{common_steps}
use borrow.Rule.Slice.PartMut.{put_mid}
use Rattle.typecodes.specs.Layout.{Spells}
use Rattle.hss.specs.Key.{public_key}
use Rattle.hss.specs.Writing.{public_bytes}
use Rattle.hss.proofs.Bytes.{key-spelled}
use Rattle.hss.proofs.writing.write_public.Goals as goal

pub returns-clause-spells : goal.returns-clause-spells
returns-clause-spells c =
    let key = c.args.public.now in
    let written : put_mid 4 56 c.write_number.new.into c.write_public.new.into ≡ public_bytes key = grind (arith, common_steps) in
    let some : 1 ≤ key.levels = omega arith in
    let most : key.levels ≤ 8 = omega arith in
    subst (Spells public_key key) (sym written) (key-spelled key some most (subst (Spells _ key.top) c.write_public.ensures.bytes c.write_public.ensures.spells))
