use Rattle.std.proofs.Common.{ap, sym}
use Rattle.command.specs.Make.{make_answer}
use Rattle.command.proofs.KeyLines.{makes_in}
use Rattle.command.specs.Files.{files_seen}
use Rattle.command.proofs.make.Make.answer.Goals as goal

pub returns-in-Ok-made : goal.returns-in-Ok-made
returns-in-Ok-made g c =
    makes_in _ _ _ (files_seen _ g.D.SignerFolder.is_opened _) _ c.in-Ok.spec _ _ _ _ c.in_ok-disk.disk c.make_on-disk.result.0 (g.D.Folder.content c.open_or_make_state.new.self)
    c.make_on-disk.result.1 _ _ _ _ _ c.in-Ok.ensures.spec c.in-Ok.ensures.ok c.in_ok-disk.ensures.content c.in_ok-disk.ensures.opened
    c.make_on-disk.ensures c.in_ok-disk.ensures.trace c.close_state.ensures.trace c.close_state.ensures.closed
    (sym (ap make_answer c.in-Ok-made.is))

pub returns-in-Err : goal.returns-in-Err
returns-in-Err g c =
    makes_in _ _ _ (files_seen _ g.D.SignerFolder.is_opened _) _ c.in-Ok.spec _ _ _ _ c.in_ok-disk.disk c.make_on-disk.result.0 (g.D.Folder.content c.open_or_make_state.new.self)
    c.make_on-disk.result.1 _ _ _ _ _ c.in-Ok.ensures.spec c.in-Ok.ensures.ok c.in_ok-disk.ensures.content c.in_ok-disk.ensures.opened
    c.make_on-disk.ensures c.in_ok-disk.ensures.trace c.close_state.ensures.trace c.close_state.ensures.closed
    (sym (ap make_answer c.in-Err.is))
