use Rattle.command.proofs.KeyLines.{serves_in}
use Rattle.command.specs.Files.{files_seen}
use Rattle.command.proofs.serve.Serve.answer.Goals as goal

pub returns : goal.returns
returns g c =
    serves_in _ _ _ _ g.W.Write.contents (files_seen _ g.D.SignerFolder.is_opened _) _ _ c.in_ok-disk.disk c.serve_on-disk.result.0 (g.D.Folder.content c.open_state.new.self) _ _ c.serve_on-disk.result.1 _ _ _ _
    c.in_ok-disk.ensures.content c.in_ok-disk.ensures.opened c.serve_on-disk.ensures c.in_ok-disk.ensures.trace c.close_state.ensures.trace
    c.close_state.ensures.closed
