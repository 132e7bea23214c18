use Rattle.std.proofs.Common.{◌∙◌, sym, refl, ap, arith, length, take}
use Rattle.winternitz.proofs.Signing as chains
use Rattle.wots_plus.specs.Key.{step_of}
use Rattle.wots_plus.proofs.key.Wots.ends_from_signature.Goals as goal

pub returns : goal.returns
returns c =
    let key = c.args.self.now in
    let read = c.deref.ensures.0 in
    ap (λ n. take n c.climb_from.result) (sym c.requires)
    ∙ chains.ends_are (step_of key.seed.now.key key.leaf) 4 15 _ _ c.args.values.now _
    (omega (arith, c.digits.ensures.count, c.requires, ap length read)) (omega arith) (read ∙ c.digits.ensures.computed) refl c.climb_from.ensures
