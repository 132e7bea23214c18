use Rattle.std.proofs.Common.{◌≡◌, ◌∙◌, refl, sym, ap, subst, arith}
use Rattle.typecodes.specs.Layout.{Spells}
use Rattle.lmots.specs.Hashes.{u32str}
use Rattle.lms.specs.Key.{public_key}
use Rattle.lms.specs.Writing.{public_bytes}
use Rattle.typecodes.proofs.Written.{all_parts, next_part}
use Rattle.lms.proofs.SigningBytes.{public_spelled}
use Rattle.lms.proofs.writing.write_public.Goals as goal

pub returns : goal.returns
returns c =
    let written : c.put.new.into ≡ public_bytes c.args.public.now =
    let tree = c.put-offset.ensures.bytes ∙ c.to_be_bytes.ensures ∙ ap u32str c.code.ensures.value in
    let ots = next_part _ _ _ _ _ _ _ tree c.put-offset-2.ensures.bytes (c.to_be_bytes-2.ensures ∙ ap u32str c.code-2.ensures.value) in
    let identifier = next_part _ _ _ _ _ _ _ ots c.put-offset-3.ensures.bytes refl in
    let root = next_part _ _ _ _ _ _ _ identifier c.put.ensures.bytes refl in
    all_parts _ _ _ root (omega arith) in
    record {
      bytes = written;
      spells = subst (Spells public_key c.args.public.now) (sym written) (public_spelled c.args.public.now (omega arith) (omega arith));
    }
