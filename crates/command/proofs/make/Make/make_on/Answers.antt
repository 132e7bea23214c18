use Rattle.command.proofs.KeyLines.{makes_opened}
use Rattle.command.proofs.make.Make.make_on.Goals as goal

pub returns-in-Ok : goal.returns-in-Ok
returns-in-Ok g c =
    makes_opened _ _ _ (g.D.Folder.content c.args.folder.now) _ _ _ _ _ _ c.in-Ok.random _ _ _ _ c.in-Ok.ensures.shows c.in-Ok.ensures.trace c.make_key.ensures
