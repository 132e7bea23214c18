use Rattle.std.proofs.Common.{◌≡◌, ◌+◌, ◌-◌, ◌∙◌, ap, sym, subst, arith, take, drop}
use Rattle.typecodes.specs.Layout.{Spells}
use Rattle.lms.specs.Key.{public_key as lms_public_key}
use Rattle.hss.specs.Signature.{key_at, start_at}
use Rattle.hss.specs.View.{bytes_of, signature_of}
use Rattle.hss.proofs.Walking.{key_spelled}
use Rattle.hss.proofs.signature.HssSigView.key.Goals as goal

pub returns-clause-range : goal.returns-clause-range
returns-clause-range c =
    let view = c.args.self.now in
    let s = signature_of view in
    let key = c.in-Some.signed.key in
    let i = c.args.i in
    let back : (i - 1) + 1 ≡ i = omega (arith, c.requires.below_the_top) in
    subst (λ k. Spells lms_public_key k (take 56 (drop (start_at s i - 56) (bytes_of view))))
    (sym (c.in-Some.ensures.key key ∙ ap (key_at key s) back))
    (key_spelled s (bytes_of view) key i view.spelled c.requires.below_the_top c.requires.is_level)
