use Rattle.std.proofs.Common.{refl, arith}
use Rattle.std.proofs.lemmas.List.{length-take-le}
use Rattle.winternitz.proofs.Signing.{climbed_are}
use Rattle.wots_plus.specs.Key.{private_value, step_of}
use Rattle.wots_plus.proofs.key.Wots.ends_from_secret.Goals as goal

pub slice_bounds-climb_whole-end : goal.slice_bounds-climb_whole-end
slice_bounds-climb_whole-end c = omega (arith, length-take-le 67 c.private_values-starts.result (omega arith))

pub climb_whole-requires : goal.climb_whole-requires
climb_whole-requires c = omega (arith, length-take-le 67 c.private_values-starts.result (omega arith))

pub returns : goal.returns
returns c =
    let key = c.args.self.now in
    climbed_are (step_of key.seed.now.key key.leaf) (private_value key.seed.now.key key.leaf c.args.secret.now) (λ i. 15) (λ i. 15) 67 67 _ _
    refl (omega arith) (omega arith) c.private_values-starts.ensures (λ i within. refl) c.climb_whole.ensures
