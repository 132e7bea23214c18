use Rattle.std.proofs.Common.{◌≡◌, ◌∙◌, sym, ap, arith, length, get_or, ◌<◌, ◌^◌}
use Rattle.typecodes.specs.Types.{width_of}
use Rattle.winternitz.specs.Chain.{ends_of}
use Rattle.winternitz.specs.Digest.{digit_count, digits_of}
use Rattle.lmots.specs.Key.{ends_of_signature, public_hash, step_of}
use Rattle.winternitz.proofs.Chains.{chains_at_most, digits_are_chains}
use Rattle.winternitz.proofs.Ends.{are_ends, same_ends}
use Rattle.lmots.proofs.climbing.OneByOneClimbing.hash_from_signature.Goals as goal

pub hash_of_climbed-requires-clause-at_most_265 : goal.hash_of_climbed-requires-clause-at_most_265
hash_of_climbed-requires-clause-at_most_265 c = omega (arith, c.requires, chains_at_most c.args.ots)

pub hash_of_climbed-requires-clause-count : goal.hash_of_climbed-requires-clause-count
hash_of_climbed-requires-clause-count c =
    ap length c.deref.ensures.0 ∙ c.digits.ensures.count ∙ ap digit_count c.width.ensures.value ∙ digits_are_chains c.args.ots ∙ sym c.requires

-- each digit is at most a chain's last step
pub hash_of_climbed-requires-clause-order : goal.hash_of_climbed-requires-clause-order
hash_of_climbed-requires-clause-order c = λ i within.
    let read = c.deref.ensures.0 in
    let count = c.digits.ensures.count ∙ ap digit_count c.width.ensures.value ∙ digits_are_chains c.args.ots in
    let below : get_or c.digits.result.items i 0 < 2 ^ c.width.result = c.digits.ensures.below i (omega (arith, count, c.requires)) in
    omega (arith, ap (λ digits. get_or digits i 0) read, ap (λ w. 2 ^ w) c.width.ensures.value)

-- what the hasher gives is the public hash of the ends
value : (c : goal.After-hash_of_climbed) → c.hash_of_climbed.result ≡ public_hash c.args.key.now.identifier c.args.key.now.leaf
    (ends_of_signature c.args.key.now.identifier c.args.key.now.leaf c.args.ots c.args.digest.now c.args.values.now)
value c =
    let key = c.args.key.now in
    let read = c.deref.ensures.0 ∙ c.digits.ensures.computed ∙ ap (λ w. digits_of w c.args.digest.now) c.width.ensures.value in
    c.hash_of_climbed.ensures
    ∙ ap (λ digits. public_hash key.identifier key.leaf (ends_of (step_of key.identifier key.leaf) (width_of c.args.ots) digits c.args.values.now)) read

pub returns : goal.returns
returns c = record {
  value = value c;
  only = λ ends are. value c ∙ ap (public_hash _ _) (sym (same_ends _ _ _ _ ends are));
  ends_exist = (_, are_ends _ _ _ _, value c);
}
