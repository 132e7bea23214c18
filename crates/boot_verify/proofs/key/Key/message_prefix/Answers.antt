use Rattle.std.proofs.Common.{◌≡◌, ℕ, List, sym, subst, Err, rules}
use Rattle.std.specs.Prelude.{IfErr}
use Rattle.boot_verify.specs.Key.{KeyVerdict}
use Rattle.boot_verify.proofs.key.Key.message_prefix.Goals as goal

-- a scheme's refusal is its key's
pub returns-in_err-message_prefix-in-Lms-clause-err : goal.returns-in_err-message_prefix-in-Lms-clause-err
returns-in_err-message_prefix-in-Lms-clause-err c =
    let bytes = c.args.signature.now in
    let is : c.from_residual.result ≡ Err c.in_err-message_prefix-in-Lms.field-0.0 = search rules in
    subst (λ r. IfErr r (λ refusal. (message : List ℕ) → KeyVerdict {A = Unit {0}} c.args.self.now message bytes (Err refusal))) (sym is)
    (λ message. subst (λ key. KeyVerdict {A = Unit {0}} key message bytes (Err c.in_err-message_prefix-in-Lms.field-0.0)) (sym c.in-Lms.is) (c.in_err-message_prefix-in-Lms.ensures.err message))

pub returns-in_err-message_prefix-in-Hss-clause-err : goal.returns-in_err-message_prefix-in-Hss-clause-err
returns-in_err-message_prefix-in-Hss-clause-err c =
    let bytes = c.args.signature.now in
    let is : c.from_residual-in_err-message_prefix-in-Hss.result ≡ Err c.in_err-message_prefix-in-Hss.field-0.0 = search rules in
    subst (λ r. IfErr r (λ refusal. (message : List ℕ) → KeyVerdict {A = Unit {0}} c.args.self.now message bytes (Err refusal))) (sym is)
    (λ message. subst (λ key. KeyVerdict {A = Unit {0}} key message bytes (Err c.in_err-message_prefix-in-Hss.field-0.0)) (sym c.in-Hss.is) (c.in_err-message_prefix-in-Hss.ensures.err message))

pub returns-in_err-message_prefix-in-Xmss-clause-err : goal.returns-in_err-message_prefix-in-Xmss-clause-err
returns-in_err-message_prefix-in-Xmss-clause-err c =
    let bytes = c.args.signature.now in
    let is : c.from_residual-in_err-message_prefix-in-Xmss.result ≡ Err c.in_err-message_prefix-in-Xmss.field-0.0 = search rules in
    subst (λ r. IfErr r (λ refusal. (message : List ℕ) → KeyVerdict {A = Unit {0}} c.args.self.now message bytes (Err refusal))) (sym is)
    (λ message. subst (λ key. KeyVerdict {A = Unit {0}} key message bytes (Err c.in_err-message_prefix-in-Xmss.field-0.0)) (sym c.in-Xmss.is) (c.in_err-message_prefix-in-Xmss.ensures.err message))
