use Rattle.command.proofs.Visiting.{verifies_failed, verifies_opened}
use Rattle.command.proofs.verify.Verify.answer.Goals as goal

pub returns-in_err-files : goal.returns-in_err-files
returns-in_err-files g c =
    let line = c.args.self.now in
    verifies_failed (g.D.Folder.content c.args.folder.now) line.public.now line.message.now line.signature.now c.in_err-files.field-0.0
    c.from_residual.result _ _ c.in_err-files.ensures.err c.from_residual.ensures.1 c.in_err-files.ensures.opens

pub returns : goal.returns
returns g c =
    let line = c.args.self.now in
    verifies_opened (g.D.Folder.content c.args.folder.now) line.public.now line.message.now line.signature.now _ _ _ _ _ _
    c.judge_files.result _ _ _ c.in_ok-files.ensures.public c.in_ok-files.ensures.message c.in_ok-files.ensures.signature
    c.in_ok-files.ensures.opens c.judge_files.ensures.answers c.judge_files.ensures.order
