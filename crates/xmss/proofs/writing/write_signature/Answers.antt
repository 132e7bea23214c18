use Rattle.std.proofs.Common.{◌≡◌, ◌∙◌, sym, ap, subst, arith, ◌+◌, ◌-◌, ◌*◌}
use Rattle.std.specs.List.{concat}
use Rattle.std.proofs.lemmas.List.Concat.{concat_is}
use Rattle.typecodes.specs.Layout.{Spells}
use Rattle.wots_plus.specs.Key.{signed_values}
use Rattle.xmss.specs.Signature.{Signature, signature}
use Rattle.xmss.specs.Writing.{signature_bytes, made_signature}
use Rattle.xmss.proofs.Signing.{signed_valid}
use Rattle.typecodes.proofs.Written.{all_parts, next_lent, next_part}
use Rattle.xmss.proofs.SigningBytes.{signed_spelled}
use Rattle.xmss.proofs.writing.write_signature.Goals as goal

pub returns : goal.returns
returns c =
    let secret = c.args.secret.now in
    let s : Signature = made_signature secret c.args.leaf c.args.digest.now c.args.path.now in
    let end = c.put-offset-2.result + 32 * 67 in
    let values = c.sign_digest.ensures.value ∙ ap (λ seed. concat (signed_values seed c.args.leaf secret.secret_seed c.args.digest.now)) c.new-seed.ensures in
    let written : c.put.new.into ≡ signature_bytes s =
    let leaf = c.put-offset.ensures.bytes ∙ c.to_be_bytes.ensures in
    let randomizer = next_part _ _ _ _ _ _ _ leaf c.put-offset-2.ensures.bytes c.requires.randomizer in
    let chains = next_lent _ _ c.sign_digest.new.into _ c.put-offset-2.result (end - c.put-offset-2.result) end randomizer
    (omega arith) (omega arith) values in
    let path = next_part _ _ _ _ _ _ _ chains c.put.ensures.bytes (c.as_flattened.ensures.value ∙ sym (concat_is c.args.path.now)) in
    all_parts _ _ _ path (omega arith) in
    record {
      bytes = written;
      spells = subst (Spells (signature secret.tree) s) (sym written)
          (signed_spelled secret c.args.leaf c.args.digest.now c.args.path.now c.requires.inside c.requires.path (λ i within. c.told-path i (omega arith)));
      textbook = λ path. written ∙ ap (λ p. signature_bytes (made_signature secret c.args.leaf c.args.digest.now p)) path;
      valid = λ message digest path. signed_valid secret c.args.leaf message _ _ c.requires.inside digest path;
    }
