use Rattle.std.proofs.Common.{inr}
use Rattle.command.proofs.Comparing.{key_fails}
use Rattle.command.proofs.compared.compare_with.Goals as goal

pub returns-in_err-key : goal.returns-in_err-key
returns-in_err-key g c = key_fails (g.D.Folder.content c.args.folder.now) c.args.first.now _ c.in_err-key.field-0.0 c.from_residual.result _ _ c.from_residual.ensures.1 c.in_err-key.ensures.reads

pub returns : goal.returns
returns g c =
    let (bytes, file, reads) = c.in_ok-key.ensures.reads in
    inr (bytes, c.in_ok-key.key, file, reads, c.compare.ensures)
