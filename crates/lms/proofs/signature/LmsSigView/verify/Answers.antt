use Rattle.std.proofs.Common.{◌≡◌, ◌∙◌, Err, ap, refl, rules, subst, sym}
use Rattle.typecodes.specs.declared.refusal.Refusal.TheVariants.{TypeMismatch}
use Rattle.typecodes.proofs.Messages.{content_read, some_content}
use Rattle.lms.specs.Verification.{LeavesMessage, LevelVerdict, digest_of}
use Rattle.lms.specs.View.{signature_of}
use Rattle.lms.proofs.Verdicts.{leaves_of_digest, level_of_digest}
use Rattle.lms.proofs.signature.LmsSigView.verify.Goals as goal

-- the types are others
pub returns-in_err-check_types : goal.returns-in_err-check_types
returns-in_err-check_types g c =
    let (text, fits) = some_content (g.M.Message.remaining c.args.message.now) in
    let error : c.from_residual.result ≡ Err c.in_err-check_types.field-0.0 = search rules in
    let is : c.from_residual.result ≡ Err (TypeMismatch c.args.level) = error ∙ ap Err c.in_err-check_types.ensures.0 in (
      text,
      fits,
      subst (LevelVerdict c.args.public.now text (signature_of c.args.self.now) c.args.level) (sym is) (refl, c.in_err-check_types.ensures.1),
      subst (LeavesMessage g.M.Message.transition g.M.Message.remaining text c.args.message.now c.args.message.now) (sym is) refl,
    )

-- the message was read
pub returns-in-Ok : goal.returns-in-Ok
returns-in-Ok g c =
    let (text, read, digest) = c.in-Ok.ensures in
    let same : c.in-Ok.digest ≡ digest_of c.args.public.now text (signature_of c.args.self.now) = search rules in (
      text,
      content_read _ _ _ _ _ read,
      level_of_digest _ _ _ _ _ c.verify_digest.result same c.in_ok-check_types.ensures c.verify_digest.ensures,
      leaves_of_digest _ _ _ _ _ _ _ _ _ c.verify_digest.result c.verify_digest.ensures read,
    )

-- it can't be read
pub returns-in-Err : goal.returns-in-Err
returns-in-Err g c =
    let (text, fits) = some_content (g.M.Message.remaining c.args.message.now) in
    (text, fits, c.in_ok-check_types.ensures, c.in-Err.ensures)
