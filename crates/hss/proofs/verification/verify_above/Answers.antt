use Rattle.std.proofs.Common.{◌≡◌, ℕ, List, ◌∙◌, sym, subst, Err, arith, rules}
use Rattle.std.specs.Prelude.{IfErr}
use Rattle.typecodes.specs.Layout.{Spells}
use Rattle.hss.specs.Signature.{level_count, signature}
use Rattle.hss.specs.Verification.{Verdict}
use Rattle.hss.specs.View.{signature_of}
use Rattle.hss.proofs.Verifying.{above-read, above-verdict}
use Rattle.hss.proofs.verification.verify_above.Goals.{After-bottom_key}
use Rattle.hss.proofs.verification.verify_above.Goals as goal

-- the bytes spell the view's signature, which has the key's number of levels
spelled : (g : _) (c : After-bottom_key g) → Spells signature (signature_of c.in-Ok.view) c.args.signature.now
spelled g c = c.in-Ok.ensures.reads

count : (g : _) (c : After-bottom_key g) → level_count (signature_of c.in-Ok.view) ≡ c.args.public.now.levels
count g c = sym c.levels.ensures.value ∙ (c.if-levels-get.false ∙ c.get.ensures.value)

-- the signature has another number of levels than the key
pub returns-then-levels-get-clause-err : goal.returns-then-levels-get-clause-err
returns-then-levels-get-clause-err g c = λ message. (
  signature_of c.in-Ok.view,
  c.in-Ok.ensures.reads,
  λ same. c.if-levels-get.true (c.levels.ensures.value ∙ same ∙ sym c.get.ensures.value),
)

-- a level above the bottom is the first that isn't valid
pub returns-in_err-key-clause-err : goal.returns-in_err-key-clause-err
returns-in_err-key-clause-err g c =
    let after = (goal.at.returns-in_err-key-clause-err g c).After-bottom_key in
    let key = c.args.public.now in
    let bytes = c.args.signature.now in
    let is : c.from_residual.result ≡ Err c.in_err-key.field-0.0 = search rules in
    subst (λ r. IfErr r (λ refusal. (message : List ℕ) → Verdict {A = Unit {0}} key message bytes (Err refusal))) (sym is)
    (λ message. above-verdict (Unit {0}) key message bytes (signature_of c.in-Ok.view) c.in_err-key.field-0.0 (spelled g after) (count g after) c.in_err-key.ensures)

-- nor does it say that the message can't be read
pub returns-in_err-key-clause-read : goal.returns-in_err-key-clause-read
returns-in_err-key-clause-read g c =
    let never = above-read c.args.public.now.top (signature_of c.in-Ok.view) c.in_err-key.field-0.0 c.in_err-key.ensures in
    λ same. never (search rules)

-- all above the bottom are valid
pub returns-clause-ok : goal.returns-clause-ok
returns-clause-ok g c =
    let after = (goal.at.returns-clause-ok g c).After-bottom_key in
    record {
      whole = signature_of c.in-Ok.view;
      spelled = spelled g after;
      count = count g after;
      above = c.in_ok-key.ensures;
      last = omega (arith, c.levels-2.ensures.value);
      signature_is = c.bottom.ensures.value;
    }
