use Rattle.std.proofs.Common.{◌≡◌, ◌∙◌, ◌+◌, ◌<◌, ◌≤◌, inl, inr, refl, sym, ap, subst, length, Ok, Err, arith, rules}
use Rattle.std.proofs.lemmas.Bool.{cases_lt}
use Rattle.lms.specs.declared.key.LmsPublic.{LmsPublic}
use Rattle.hss.specs.Signature.{key_at}
use Rattle.hss.specs.Verification.{IsValidAt}
use Rattle.hss.specs.inner.Verification.{AboveVerdict}
use Rattle.hss.specs.View.{signature_of}
use Rattle.hss.proofs.Verifying.{above-refused, level-at, level-refused, valid-at}
use Rattle.hss.proofs.verification.bottom_key.Goals.{in-Some+in_ok-verify_by, in_default}
use Rattle.hss.proofs.verification.bottom_key.Goals as goal

pub loop-i-preserved : goal.loop-i-preserved
loop-i-preserved g c =
    let top = c.args.top.now in
    let s = signature_of c.args.view.now in
    let n = length s.signed in
    let i = c.loop-i.i in
    elim c.match-signed_key.branch [
      | in-Some+in_ok-verify_by w ↦
          let inside : i < n = omega (arith, w.in-Some.ensures.is_some.0 refl) in
          let next : c.match-signed_key.key ≡ key_at top s (i + 1) = w.key-is ∙ w.in-Some.ensures.key top in
          let verified = level-at {A = Unit {0}} top s i c.loop-i.key w.in-Some.signed.key _ (Ok tt) inside w.in-Some.ensures.signature w.in-Some.ensures.key w.in_ok-verify_by.ensures.verdict in
          record {
            key = λ _. next;
            last = λ past. let same : i + 1 ≡ n = omega arith in next ∙ ap (key_at top s) same;
            valid = λ message j below above. elim (cases_lt j i) [
              | inl before ↦ c.loop-i.invariant.valid message j before above
              | inr past ↦ let same : i ≡ j = omega arith in subst (IsValidAt top message s) same (valid-at top s i c.loop-i.key message (c.loop-i.invariant.key (omega arith)) (verified message))
            ];
          }
      | in_default w ↦
          let past : n ≤ i =
          elim (cases_lt i n) [
            | inl below ↦ absurd (let used = w.in_default.ensures.is_some.1 (omega arith) in cc)
            | inr past ↦ past
          ] in
          record {
            key = λ below. absurd (omega arith);
            last = λ _. w.key-is ∙ c.loop-i.invariant.last past;
            valid = λ message j below above. c.loop-i.invariant.valid message j (omega arith) above;
          }
    ]

pub returns : goal.returns
returns g c =
    let s = signature_of c.args.view.now in
    let past : length s.signed ≤ c.loop-i.i = omega (arith, c.levels-i-end.ensures.value, c.loop-i-test.false) in
    (c.loop-i.invariant.last past, λ message j below. c.loop-i.invariant.valid message j (omega arith) below)

-- a level is the first that isn't valid
pub returns-in_err-verify_by : goal.returns-in_err-verify_by
returns-in_err-verify_by g c =
    let top = c.args.top.now in
    let s = signature_of c.args.view.now in
    let i = c.loop-i.i in
    let inside : i < length s.signed = omega (arith, c.in-Some.ensures.is_some.0 refl) in
    let is : c.from_residual.result ≡ Err c.in_err-verify_by.field-0.0 = search rules in
    let refused = level-at {A = Unit {0}} top s i c.loop-i.key c.in-Some.signed.key _ (Err c.in_err-verify_by.field-0.0) inside c.in-Some.ensures.signature c.in-Some.ensures.key c.in_err-verify_by.ensures.verdict in
    subst (AboveVerdict top s) (sym is)
    (above-refused top s i c.loop-i.key c.in_err-verify_by.field-0.0 (λ same. c.in_err-verify_by.ensures.read (ap Err same)) inside (c.loop-i.invariant.key (omega arith)) (λ message j below. c.loop-i.invariant.valid message j below (omega arith))
    (λ message. level-refused (Unit {0}) LmsPublic c.loop-i.key _ _ i c.in_err-verify_by.field-0.0 (refused message)))
