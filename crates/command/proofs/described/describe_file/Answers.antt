use Rattle.std.proofs.Common.{inr, subst}
use Rattle.command.specs.Described.{DescribesStart}
use Rattle.command.proofs.Describing.{file_fails}
use Rattle.command.proofs.described.describe_file.Goals as goal

pub returns-in_err-first : goal.returns-in_err-first
returns-in_err-first g c =
    file_fails (g.D.Folder.content c.args.folder.now) _ c.in_err-first.field-0.0 c.from_residual.result _ _ c.from_residual.ensures.1 c.in_err-first.ensures.reads

pub returns : goal.returns
returns g c =
    let first = c.in_ok-first.first.items in
    inr (first, c.in_ok-first.ensures.reads, subst (λ l. DescribesStart l c.describe_start.result) c.as_slice.ensures.value c.describe_start.ensures)
