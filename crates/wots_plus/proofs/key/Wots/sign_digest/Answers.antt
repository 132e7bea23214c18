use Rattle.std.proofs.Common.{◌≡◌, ◌∙◌, sym, refl, ap, arith, get_or, length, take}
use Rattle.std.specs.List.{concat}
use Rattle.std.proofs.lemmas.List.Concat.{concat_is}
use Rattle.std.proofs.lemmas.List.{length-take-le}
use Rattle.winternitz.specs.Digest.{digits_of}
use Rattle.winternitz.proofs.Signing.{climbed_are}
use Rattle.wots_plus.specs.Key.{private_value, signed_values, step_of}
use Rattle.wots_plus.proofs.Signing.{bytes_climb}
use Rattle.wots_plus.proofs.key.Wots.sign_digest.Goals as goal

pub slice_bounds-climb_to-end : goal.slice_bounds-climb_to-end
slice_bounds-climb_to-end c = omega (arith, length-take-le 67 c.private_values-starts.result (omega arith))

pub climb_to-values-requires-clause-within_limit : goal.climb_to-values-requires-clause-within_limit
climb_to-values-requires-clause-within_limit c = omega (arith, length-take-le 67 c.private_values-starts.result (omega arith))

pub climb_to-values-requires-clause-digits : goal.climb_to-values-requires-clause-digits
climb_to-values-requires-clause-digits c =
    omega (arith, length-take-le 67 c.private_values-starts.result (omega arith), c.digits.ensures.count, ap length c.deref.ensures.0)

pub slice_bounds-as_flattened-end : goal.slice_bounds-as_flattened-end
slice_bounds-as_flattened-end c = omega (arith, length-take-le 67 c.climb_to-values.result (omega arith))

pub copy_from_slice-requires : goal.copy_from_slice-requires
copy_from_slice-requires c = omega (arith, length-take-le 67 c.climb_to-values.result (omega arith))

pub returns : goal.returns
returns c =
    let key = c.args.self.now in
    let read = c.deref.ensures.0 ∙ c.digits.ensures.computed in
    let written : c.copy_from_slice.new.self ≡ concat (signed_values key.seed.now.key key.leaf c.args.secret.now c.args.digest.now) =
    c.copy_from_slice.ensures.after ∙ c.as_flattened.ensures.value ∙ sym (concat_is (take 67 c.climb_to-values.result))
    ∙ ap concat
    (climbed_are (step_of key.seed.now.key key.leaf) (private_value key.seed.now.key key.leaf c.args.secret.now)
    (λ i. get_or (digits_of 4 c.args.digest.now) i 0) (λ i. get_or c.deref.result.now i 0) 67 67 _ _
    refl (omega arith) (omega arith) c.private_values-starts.ensures (λ i within. ap (λ digits. get_or digits i 0) read) c.climb_to-values.ensures) in
    record {
      value = written;
      climbs = bytes_climb _ _ _ c.args.digest.now _ written;
    }
