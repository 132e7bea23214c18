use Rattle.std.proofs.Common.{◌++◌, ◌∷◌, [], inr}
use Rattle.command.specs.Trace.{opened_unlocked}
use Rattle.command.proofs.Describing.{listed_between}
use Rattle.command.proofs.list.list_file.Goals as goal

pub returns : goal.returns
returns g c =
    inr (
      c.in_ok-disk.disk,
      c.list-disk.result.0,
      c.list-disk.result.1,
      c.in_ok-disk.ensures.opened,
      c.list-disk.ensures.lists,
      c.close_state.ensures.closed,
      listed_between (g.D.Folder.content c.args.folder.now) (g.D.Folder.content c.open_state_unlocked.new.self) c.args.path.now
          c.list-disk.result.1 c.answer_to-answer.result (g.D.Traced.trace c.args.folder.now ++ opened_unlocked c.args.path.now ∷ [])
          (g.D.Traced.trace c.open_state_unlocked.new.self) (g.D.Traced.trace c.answer_to-answer.new.folder)
          (g.D.Traced.trace c.close_state.new.self) (c.in_ok-disk.ensures.content c.args.path.now) c.in_ok-disk.ensures.trace
          c.close_state.ensures.trace c.answer_to-answer.ensures,
    )
