use Rattle.std.proofs.Common.{◌≡◌, ◌∙◌, refl, sym, ap, subst, arith}
use Rattle.typecodes.specs.Layout.{Spells}
use Rattle.wots_plus.specs.Hashes.{to_byte}
use Rattle.xmss.specs.Key.{public_key}
use Rattle.xmss.specs.Writing.{public_bytes}
use Rattle.typecodes.proofs.Written.{all_parts, next_part}
use Rattle.xmss.proofs.SigningBytes.{public_spelled}
use Rattle.xmss.proofs.writing.write_public.Goals as goal

pub returns : goal.returns
returns c =
    let written : c.put.new.into ≡ public_bytes c.args.public.now =
    let tree = c.put-offset.ensures.bytes ∙ c.to_be_bytes.ensures ∙ ap (λ code. to_byte code 4) c.code.ensures.value in
    let root = next_part _ _ _ _ _ _ _ tree c.put-offset-2.ensures.bytes refl in
    let seed = next_part _ _ _ _ _ _ _ root c.put.ensures.bytes refl in
    all_parts _ _ _ seed (omega arith) in
    record {
      bytes = written;
      spells = subst (Spells public_key c.args.public.now) (sym written) (public_spelled c.args.public.now (omega arith) (omega arith));
    }
