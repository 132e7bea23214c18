use Rattle.std.proofs.Common.{◌≡◌, ◌∙◌, refl, sym, ap, subst, arith, ◌+◌, ◌-◌, ◌*◌}
use Rattle.std.proofs.lemmas.List.Concat.{concat_is}
use Rattle.typecodes.specs.Layout.{Spells}
use Rattle.lmots.specs.Hashes.{u32str}
use Rattle.lms.specs.Signature.{Signature, signature}
use Rattle.lms.specs.Writing.{signature_bytes, made_signature}
use Rattle.lms.proofs.Signing.{signed_valid}
use Rattle.typecodes.proofs.Written.{all_parts, next_lent, next_part}
use Rattle.lms.proofs.SigningBytes.{signed_spelled}
use Rattle.lms.proofs.writing.write_signature.Goals as goal

pub returns : goal.returns
returns c =
    let s : Signature = made_signature c.args.secret.now c.args.leaf c.args.randomizer.now c.args.digest.now c.args.path.now in
    let end = c.put-offset-3.result + 32 * c.from.result in
    let written : c.put.new.into ≡ signature_bytes s =
    let leaf = c.put-offset.ensures.bytes ∙ c.to_be_bytes.ensures in
    let ots = next_part _ _ _ _ _ _ _ leaf c.put-offset-2.ensures.bytes (c.to_be_bytes-2.ensures ∙ ap u32str c.code.ensures.value) in
    let randomizer = next_part _ _ _ _ _ _ _ ots c.put-offset-3.ensures.bytes refl in
    let chains = next_lent _ _ c.sign_digest.new.into _ c.put-offset-3.result (end - c.put-offset-3.result) end randomizer
    (omega arith) (omega arith) c.sign_digest.ensures.value in
    let tree = next_part _ _ _ _ _ _ _ chains c.put-offset-4.ensures.bytes (c.to_be_bytes-3.ensures ∙ ap u32str c.code-2.ensures.value) in
    let path = next_part _ _ _ _ _ _ _ tree c.put.ensures.bytes (c.as_flattened.ensures.value ∙ sym (concat_is c.args.path.now)) in
    all_parts _ _ _ path (omega arith) in
    record {
      bytes = written;
      spells = subst (Spells signature s) (sym written)
          (signed_spelled _ _ _ _ _ c.requires.is_leaf (omega arith) c.requires.path (λ i within. c.told-path i (omega arith)));
      textbook = λ path. written ∙ ap (λ p. signature_bytes (made_signature c.args.secret.now c.args.leaf c.args.randomizer.now c.args.digest.now p)) path;
      valid = λ message digest path. signed_valid _ _ _ message _ _ c.requires.is_leaf digest path;
    }
