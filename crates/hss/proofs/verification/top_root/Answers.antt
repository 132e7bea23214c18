use Rattle.std.specs.Prelude.{◌↔◌}
use Rattle.std.proofs.Common.{◌≡◌, ◌+◌, ◌-◌, ◌∙◌, sym, subst, ap, length, Err, arith, rules}
use Rattle.hss.specs.Signature.{key_at, message_at}
use Rattle.hss.specs.Verification.{IsValidAt}
use Rattle.hss.specs.inner.Verification.{GivesTopRoot}
use Rattle.hss.specs.View.{signature_of}
use Rattle.hss.proofs.Roots.{all_valid, no_root_at, one_more, root_at, signs_computed}
use Rattle.hss.proofs.Verifying.{message_at-bottom}
use Rattle.hss.proofs.verification.top_root.Goals as goal

pub returns-in_err-root-clause-root : goal.returns-in_err-root-clause-root
returns-in_err-root-clause-root g c =
    let top = c.args.top.now in
    let message = c.args.message.now in
    let s = signature_of c.args.view.now in
    let n = length s.signed in
    let is : c.from_residual.result ≡ Err c.in_err-root.field-0.0 = search rules in
    let bottom : c.levels-bottom.result - 1 ≡ n = omega (arith, c.levels-bottom.ensures.value) in
    let signed = message_at-bottom message s ∙ ap (message_at message s) (sym bottom) in
    subst (GivesTopRoot top message s) (sym is)
    (no_root_at top message message s (c.levels-bottom.result - 1) c.in_err-root.field-0.0 (omega arith) signed c.in_err-root.ensures)

-- the bottom level's root
pub loop-done-init : goal.loop-done-init
loop-done-init g c =
    let top = c.args.top.now in
    let message = c.args.message.now in
    let s = signature_of c.args.view.now in
    let n = length s.signed in
    let bottom : c.levels-bottom.result - 1 ≡ n = omega (arith, c.levels-bottom.ensures.value) in
    let signed = message_at-bottom message s ∙ ap (message_at message s) (sym bottom) in
    let exact = root_at top message message c.in_ok-root.root s (c.levels-bottom.result - 1) signed c.in_ok-root.ensures in
    let here : n - 0 ≡ n = omega arith in
    record {
      within = omega arith;
      root = subst (λ i. (c.in_ok-root.root ≡ (key_at top s i).root) ↔ IsValidAt top message s i) (bottom ∙ sym here) exact;
      below = λ j past inside. absurd (omega arith);
    }

-- a level below the top leads to another root than its key's
pub returns-then-ne-clause-root : goal.returns-then-ne-clause-root
returns-then-ne-clause-root g c = λ valid.
    let s = signature_of c.args.view.now in
    let n = length s.signed in
    let done = c.loop-done.done in
    let level : c.levels-bottom.result - 1 - done ≡ n - done = omega (arith, c.levels-bottom.ensures.value) in
    let key_is = c.key-key.ensures.value c.args.top.now ∙ ap (key_at c.args.top.now s) level in
    let equal = c.loop-done.invariant.root.1 (valid (n - done) (omega arith)) in
    let alike : c.loop-done.root ≡ c.key-key.result.root = equal ∙ sym (ap (λ k. k.root) key_is) in
    search rules

pub returns-in_err-root-2-clause-root : goal.returns-in_err-root-2-clause-root
returns-in_err-root-2-clause-root g c =
    let top = c.args.top.now in
    let message = c.args.message.now in
    let s = signature_of c.args.view.now in
    let n = length s.signed in
    let i = c.levels-bottom.result - 1 - c.loop-done.done - 1 in
    let is : c.from_residual-in_err-root-2.result ≡ Err c.in_err-root-2.field-0.0 = search rules in
    let level : c.levels-bottom.result - 1 - c.loop-done.done ≡ i + 1 = omega (arith, c.levels-bottom.ensures.value) in
    let key_is = c.key-key.ensures.value top ∙ ap (key_at top s) level in
    let alike : c.loop-done.root ≡ c.key-key.result.root = search rules in
    let signed = signs_computed top c.key-key.result message _ _ s i (omega (arith, c.levels-bottom.ensures.value)) key_is alike c.to_bytes.ensures.bytes in
    subst (GivesTopRoot top message s) (sym is)
    (no_root_at top message _ s i c.in_err-root-2.field-0.0 (omega (arith, c.levels-bottom.ensures.value)) signed c.in_err-root-2.ensures)

pub loop-done-preserved : goal.loop-done-preserved
loop-done-preserved g c =
    let top = c.args.top.now in
    let message = c.args.message.now in
    let s = signature_of c.args.view.now in
    let n = length s.signed in
    let done = c.loop-done.done in
    let i = c.levels-bottom.result - 1 - done - 1 in
    let level : c.levels-bottom.result - 1 - done ≡ i + 1 = omega (arith, c.levels-bottom.ensures.value) in
    let key_is = c.key-key.ensures.value top ∙ ap (key_at top s) level in
    let alike : c.loop-done.root ≡ c.key-key.result.root = search rules in
    let signed = signs_computed top c.key-key.result message _ _ s i (omega (arith, c.levels-bottom.ensures.value)) key_is alike c.to_bytes.ensures.bytes in
    let exact = root_at top message _ c.in_ok-root-2.root s i signed c.in_ok-root-2.ensures in
    let before : n - done ≡ i + 1 = omega (arith, c.levels-bottom.ensures.value) in
    let next : i ≡ n - (done + 1) = omega (arith, c.levels-bottom.ensures.value) in
    let valid = subst (IsValidAt top message s) before
    (c.loop-done.invariant.root.0 (alike ∙ ap (λ k. k.root) key_is ∙ ap (λ i. (key_at top s i).root) (sym before))) in
    record {
      within = omega (arith, c.levels-bottom.ensures.value);
      root = subst (λ i. (c.in_ok-root-2.root ≡ (key_at top s i).root) ↔ IsValidAt top message s i) next exact;
      below = λ j past inside.
          one_more top message s i (λ j past inside. c.loop-done.invariant.below j (omega arith) inside) valid j (omega arith) inside;
    }

pub returns-clause-root : goal.returns-clause-root
returns-clause-root g c =
    let top = c.args.top.now in
    let message = c.args.message.now in
    let s = signature_of c.args.view.now in
    let n = length s.signed in
    let top_is : n - c.loop-done.done ≡ 0 = omega (arith, c.levels-bottom.ensures.value, c.loop-done-test.false) in
    let exact = subst (λ i. (c.loop-done.root ≡ (key_at top s i).root) ↔ IsValidAt top message s i) top_is c.loop-done.invariant.root in (
      λ same. all_valid top message s (λ j past inside. c.loop-done.invariant.below j (omega arith) inside) (exact.0 same),
      λ valid. exact.1 (valid 0 (omega arith)),
    )
