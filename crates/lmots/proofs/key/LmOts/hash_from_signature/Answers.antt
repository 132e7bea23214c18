use Rattle.std.proofs.Common.{◌≡◌, ◌∙◌, sym, ap, arith, length, get_or, ◌<◌, ◌^◌}
use Rattle.typecodes.specs.Types.{width_of}
use Rattle.winternitz.specs.Digest.{digit_count, digits_of}
use Rattle.lmots.specs.Key.{ends_of_signature, public_hash, step_of}
use Rattle.winternitz.proofs.Chains.{chains_at_most, digits_are_chains}
use Rattle.winternitz.proofs.Ends.{are_ends, same_ends}
use Rattle.winternitz.proofs.Signing as chains
use Rattle.lmots.proofs.key.LmOts.hash_from_signature.Goals as goal

-- each digit is at most a chain's last step
pub climb_from-ends-requires-clause-order : goal.climb_from-ends-requires-clause-order
climb_from-ends-requires-clause-order c = λ i within.
    let read = c.deref.ensures.0 in
    let count = c.digits-digits.ensures.count ∙ ap digit_count c.width.ensures.value ∙ digits_are_chains c.args.ots in
    let below : get_or c.digits-digits.result.items i 0 < 2 ^ c.width.result = c.digits-digits.ensures.below i (omega (arith, count, c.requires)) in
    omega (arith, ap (λ digits. get_or digits i 0) read, ap (λ w. 2 ^ w) c.width.ensures.value, c.greatest_digit.ensures)

-- what the hasher gives is the public hash of the ends
value : (c : goal.After-hash_of_ends) → c.hash_of_ends.result ≡ public_hash c.args.self.now.identifier c.args.self.now.leaf
    (ends_of_signature c.args.self.now.identifier c.args.self.now.leaf c.args.ots c.args.digest.now c.args.values.now)
value c =
    let key = c.of.result.key in
    let count = c.digits-digits.ensures.count ∙ ap digit_count c.width.ensures.value ∙ digits_are_chains c.args.ots in
    let read = c.deref.ensures.0 ∙ c.digits-digits.ensures.computed ∙ ap (λ w. digits_of w c.args.digest.now) c.width.ensures.value in
    c.hash_of_ends.ensures
    ∙ rw (← c.of.ensures) (ap (public_hash key.identifier key.leaf)
    (chains.ends_are (step_of key.identifier key.leaf) (width_of c.args.ots) _ _ _ c.args.values.now _
    (omega (arith, count, c.requires, ap length c.deref.ensures.0)) (omega (arith, c.requires, chains_at_most c.args.ots)) read c.greatest_digit.ensures c.climb_from-ends.ensures))

pub returns : goal.returns
returns c = record {
  value = value c;
  only = λ ends are. value c ∙ ap (public_hash _ _) (sym (same_ends _ _ _ _ ends are));
  ends_exist = (_, are_ends _ _ _ _, value c);
}
