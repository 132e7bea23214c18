use Rattle.std.proofs.Common.{◌∙◌, ◌-◌, ◌^◌, ap, arith}
use Rattle.typecodes.specs.Types.{chains_of, width_of}
use Rattle.winternitz.proofs.Signing.{climbed_are}
use Rattle.lmots.specs.Key.{private_value, public_hash, step_of}
use Rattle.lmots.proofs.key.LmOts.public_hash.Goals as goal

pub returns : goal.returns
returns c =
    let key = c.of-chains.result.key in
    c.hash_of_ends.ensures
    ∙ rw (← c.of-chains.ensures) (ap (public_hash key.identifier key.leaf)
    (climbed_are (step_of key.identifier key.leaf) (private_value key.identifier key.leaf c.args.seed.now)
    (λ i. 2 ^ width_of c.args.ots - 1) (λ i. c.greatest_digit.result) _ (chains_of c.args.ots) _ _
    (omega arith) (omega arith) (omega arith) c.private_values-starts.ensures (λ i within. c.greatest_digit.ensures) c.climb_whole-ends.ensures))
