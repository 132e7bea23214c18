use Rattle.std.proofs.Common.{◌≡◌, ◌-◌, sym, ◌∙◌, subst, length, Err, arith, refl, rules}
use Rattle.typecodes.specs.Layout.{Spells}
use Rattle.typecodes.proofs.Messages.{some_content}
use Rattle.typecodes.proofs.WasRead.{read_spells}
use Rattle.hss.specs.Signature.{level_count, signature}
use Rattle.hss.specs.Verification.{LeavesMessage, Verdict}
use Rattle.hss.specs.View.{signature_of}
use Rattle.hss.proofs.Verifying.{above-leaves, above-verdict, bottom-leaves, bottom-read, signature_at-bottom}
use Rattle.hss.proofs.verification.verify.Given.{Over}
use Rattle.hss.proofs.verification.verify.Goals.{After-bottom_key}
use Rattle.hss.proofs.verification.verify.Goals as goal

-- the bytes spell the view's signature, which has the key's number of levels
spelled : (g : Over) (c : After-bottom_key g) → Spells signature (signature_of c.in_ok-view.view) c.args.signature.now
spelled g c = read_spells _ signature signature_of _ c.read.result _ _ c.read.ensures.reads c.in_ok-view.ensures.cases (λ _ never. never)

count : (g : Over) (c : After-bottom_key g) → level_count (signature_of c.in_ok-view.view) ≡ c.args.public.now.levels
count g c = sym c.levels.ensures.value ∙ (c.if-levels-get.false ∙ c.get.ensures.value)

-- the bytes have a fault
pub returns-in_err-view : goal.returns-in_err-view
returns-in_err-view g c =
    let (text, fits) = some_content (g.M.Message.remaining c.args.message.now) in
    (text, fits, search rules, search rules)

-- the signature has another number of levels than the key
pub returns-then-levels-get : goal.returns-then-levels-get
returns-then-levels-get g c =
    let (text, fits) = some_content (g.M.Message.remaining c.args.message.now) in (
      text,
      fits,
      (
        signature_of c.in_ok-view.view,
        read_spells _ signature signature_of _ c.read.result _ _ c.read.ensures.reads c.in_ok-view.ensures.cases (λ _ never. never),
        λ same. c.if-levels-get.true (c.levels.ensures.value ∙ same ∙ sym c.get.ensures.value),
      ),
      refl,
    )

-- a level above the bottom is the first that isn't valid
pub returns-in_err-key : goal.returns-in_err-key
returns-in_err-key g c =
    let after = (goal.at.returns-in_err-key g c).After-bottom_key in
    let key = c.args.public.now in
    let s = signature_of c.in_ok-view.view in
    let (text, fits) = some_content (g.M.Message.remaining c.args.message.now) in
    let is : c.from_residual-in_err-key.result ≡ Err c.in_err-key.field-0.0 = search rules in (
      text,
      fits,
      subst (Verdict key text c.args.signature.now) (sym is)
          (above-verdict (Unit {0}) key text c.args.signature.now s c.in_err-key.field-0.0 (spelled g after) (count g after) c.in_err-key.ensures),
      subst (LeavesMessage g.M.Message.transition g.M.Message.remaining key text c.args.message.now c.args.message.now) (sym is)
          (above-leaves _ _ (Unit {0}) key s text c.args.message.now c.in_err-key.field-0.0 (count g after) c.in_err-key.ensures),
    )

-- the bottom's answer is the whole answer
pub returns : goal.returns
returns g c =
    let after = (goal.at.returns g c).After-bottom_key in
    let key = c.args.public.now in
    let s = signature_of c.in_ok-view.view in
    let last : c.levels-2.result - 1 ≡ length s.signed = omega (arith, c.levels-2.ensures.value) in
    let (text, fits, verdict, leaves) = c.verify.ensures in (
      text,
      fits,
      bottom-read key text c.args.signature.now s c.in_ok-key.key _ (c.levels-2.result - 1) c.verify.result (spelled g after) (count g after)
          c.in_ok-key.ensures last (c.bottom.ensures.value ∙ signature_at-bottom s (c.levels-2.result - 1) last) verdict,
      bottom-leaves _ _ _ _ _ key _ _ (c.levels-2.result - 1) c.verify.result (omega (arith, c.levels-2.ensures.value, count g after)) verdict leaves,
    )
