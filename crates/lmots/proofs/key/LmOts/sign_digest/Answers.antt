use Rattle.std.proofs.Common.{◌≡◌, ◌∙◌, sym, ap, arith, get_or, take}
use Rattle.std.specs.List.{concat}
use Rattle.std.proofs.lemmas.List.Concat.{concat_is}
use Rattle.typecodes.specs.Types.{chains_of, width_of}
use Rattle.winternitz.specs.Digest.{digits_of}
use Rattle.winternitz.proofs.Signing.{climbed_are}
use Rattle.lmots.specs.Key.{private_value, signed_values, step_of}
use Rattle.lmots.proofs.Signing.{bytes_climb}
use Rattle.lmots.proofs.key.LmOts.sign_digest.Goals as goal

pub returns : goal.returns
returns c =
    let key = c.of-chains.result.key in
    let read = c.deref.ensures.0 ∙ c.digits.ensures.computed ∙ ap (λ w. digits_of w c.args.digest.now) c.width.ensures.value in
    let self = c.args.self.now in
    let written : c.copy_from_slice.new.self ≡ concat (signed_values self.identifier self.leaf c.args.ots c.args.seed.now c.args.digest.now) =
    rw (← c.of-chains.ensures) (
    c.copy_from_slice.ensures.after ∙ c.as_flattened.ensures.value ∙ sym (concat_is (take c.from-count.result c.climb_to-values.result))
    ∙ ap concat
    (climbed_are (step_of key.identifier key.leaf) (private_value key.identifier key.leaf c.args.seed.now)
    (λ i. get_or (digits_of (width_of c.args.ots) c.args.digest.now) i 0) (λ i. get_or c.deref.result.now i 0) _ (chains_of c.args.ots) _ _
    (omega arith) (omega arith) (omega arith) c.private_values-starts.ensures (λ i within. ap (λ digits. get_or digits i 0) read) c.climb_to-values.ensures)) in
    record {
      value = written;
      climbs = bytes_climb _ _ _ _ _ _ written;
    }
