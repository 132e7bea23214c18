use Rattle.command.proofs.KeyLines.{signs_opened}
use Rattle.command.proofs.sign.Sign.sign_on.Goals as goal

pub returns-in-Ok : goal.returns-in-Ok
returns-in-Ok g c =
    let (is_message, shown, drawn, begins) = c.in-Ok.ensures in
    signs_opened _ _ _ (g.D.Folder.content c.args.folder.now) _ _ _ _ _ _ c.in-Ok.random (g.D.File.OpenFile.remaining c.in-Ok.message) c.sign_file.result.1 _ _ _ drawn shown begins
    c.sign_file.ensures
