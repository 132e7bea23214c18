use Rattle.std.proofs.Common.{inr, subst}
use Rattle.command.specs.Compared.{ComparesWith}
use Rattle.command.proofs.Comparing.{same_comparison, signature_fails}
use Rattle.command.proofs.compared.compare_files.Goals as goal

pub returns-in_err-first : goal.returns-in_err-first
returns-in_err-first g c =
    signature_fails (g.D.Folder.content c.args.folder.now) _ c.args.public.now c.in_err-first.field-0.0 c.from_residual.result _ _ c.from_residual.ensures.1 c.in_err-first.ensures.reads

pub returns : goal.returns
returns g c =
    let first = c.in_ok-first.first.items in
    inr (
      first,
      g.D.Traced.trace c.read_signature_file.new.folder,
      c.in_ok-first.ensures.reads,
      same_comparison (g.D.Folder.content c.args.folder.now) (g.D.Folder.content c.read_signature_file.new.folder) first c.args.public.now c.compare_with.result
          (g.D.Traced.trace c.read_signature_file.new.folder) (g.D.Traced.trace c.compare_with.new.folder)
          (c.in_ok-first.ensures.content c.args.public.now)
          (subst (λ l. ComparesWith (g.D.Folder.content c.read_signature_file.new.folder) l c.args.public.now c.compare_with.result
          (g.D.Traced.trace c.read_signature_file.new.folder) (g.D.Traced.trace c.compare_with.new.folder)) c.as_slice.ensures.value c.compare_with.ensures),
    )
