use Rattle.std.proofs.Common.{◌≡◌, ◌∙◌, ap, [], arith, get_or, ◌<◌, length}
use Rattle.std.proofs.lemmas.List.FromFn.{fill_by_all}
use Rattle.winternitz.specs.Chain.{end_at, ends_of}
use Rattle.wots_plus.specs.Key.{step_of}
use Rattle.wots_plus.proofs.key.Wots.ends_one_by_one.Goals as goal

pub climb_one_by_one-requires-clause-digits_at_most_15 : goal.climb_one_by_one-requires-clause-digits_at_most_15
climb_one_by_one-requires-clause-digits_at_most_15 c = λ i within.
    let below : get_or c.digits.result.items i 0 < 16 = c.digits.ensures.below i (omega (arith, c.digits.ensures.count)) in
    omega (arith, ap (λ digits. get_or digits i 0) c.deref.ensures.0)

pub returns : goal.returns
returns c =
    let step = step_of c.args.self.now.seed.now.key c.args.self.now.leaf in
    let read = c.deref.ensures.0 in
    let count : 67 ≡ length c.deref.result.now = omega (arith, c.digits.ensures.count, ap length read) in
    fill_by_all (end_at step 4 c.deref.result.now c.args.values.now) c.climb_one_by_one.new.ends (length c.deref.result.now) []
    (c.climb_one_by_one.ensures.keeps_length ∙ count)
    (λ i within. c.climb_one_by_one.ensures.each i (omega (arith, count)))
    ∙ ap (λ digits. ends_of step 4 digits c.args.values.now) (read ∙ c.digits.ensures.computed)
