use Rattle.std.proofs.Common.{◌≡◌, rules}
use Rattle.typecodes.proofs.Messages.{content_read, some_content}
use Rattle.xmss.specs.Verification.{digest_of}
use Rattle.xmss.specs.View.{signature_of}
use Rattle.xmss.proofs.Verdicts.{leaves_of_digest, verdict_of_digest}
use Rattle.xmss.proofs.Verifying.{is_read}
use Rattle.xmss.proofs.verification.verify.Goals as goal

-- the view has the key's type
pub verify_digest-requires : goal.verify_digest-requires
verify_digest-requires g c =
    let read = is_read _ c.args.public.now _ c.read.result _ _ c.read.ensures.reads c.read.ensures.tree c.in_ok-view.ensures.cases (λ _ never. never) in
    read.tree

-- the bytes have a fault
pub returns-in_err-view : goal.returns-in_err-view
returns-in_err-view g c =
    let (text, fits) = some_content (g.M.Message.remaining c.args.message.now) in
    (text, fits, search rules, search rules)

-- the message was read
pub returns-in-Ok : goal.returns-in-Ok
returns-in-Ok g c =
    let read = is_read _ c.args.public.now _ c.read.result _ _ c.read.ensures.reads c.read.ensures.tree c.in_ok-view.ensures.cases (λ _ never. never) in
    let (text, whole, digest) = c.in-Ok.ensures in
    let same : c.in-Ok.digest ≡ digest_of c.args.public.now text (signature_of c.in_ok-view.view) = search rules in (
      text,
      content_read _ _ _ _ _ whole,
      verdict_of_digest _ _ _ _ _ c.verify_digest.result same read.spelled c.verify_digest.ensures,
      leaves_of_digest _ _ _ _ _ _ _ _ c.verify_digest.result c.verify_digest.ensures whole,
    )

-- the message can't be read
pub returns-in-Err : goal.returns-in-Err
returns-in-Err g c =
    let read = is_read _ c.args.public.now _ c.read.result _ _ c.read.ensures.reads c.read.ensures.tree c.in_ok-view.ensures.cases (λ _ never. never) in
    let (text, fits) = some_content (g.M.Message.remaining c.args.message.now) in
    (text, fits, (_, read.spelled), c.in-Err.ensures)
