use Rattle.std.proofs.Common.{◌∙◌, sym, arith, true≢false}
use Rattle.std.proofs.lemmas.Option.{slice_get_within}
use Rattle.key_audit.proofs.Twice.{stands_at, valid_more}
use Rattle.key_audit.proofs.given.first_not_valid.Goals as goal

pub loop-place-init : goal.loop-place-init
loop-place-init c = λ k other below at. absurd (omega (arith, below))

pub returns-then-not-is_valid : goal.returns-then-not-is_valid
returns-then-not-is_valid c = record {
  each = c.index-given-place.result;
  stands = stands_at c.args.given.now c.loop-place.place c.index-given-place.result (omega (arith, c.loop-place-test.true)) c.index-given-place.is;
  not_valid = λ valid. true≢false (sym (c.is_valid.ensures.1 valid) ∙ c.if-not-is_valid.true);
  first = c.loop-place.invariant;
}

pub loop-place-preserved : goal.loop-place-preserved
loop-place-preserved c =
    valid_more c.args.public.now c.args.given.now c.loop-place.place c.index-given-place.result
    (stands_at c.args.given.now c.loop-place.place c.index-given-place.result (omega (arith, c.loop-place-test.true)) c.index-given-place.is)
    (c.is_valid.ensures.0 c.if-not-is_valid.false) c.loop-place.invariant

pub returns : goal.returns
returns c = λ k each at. c.loop-place.invariant k each (omega (arith, slice_get_within c.args.given.now k each at, c.loop-place-test.false)) at
