use Rattle.std.proofs.Common.{◌∙◌, ap, inr}
use Rattle.state_file.specs.FileStore.{disk_of}
use Rattle.command.specs.declared.refusal.Refusal.TheVariants.{Opening}
use Rattle.sign_core.proofs.calls.Told.{told_then}
use Rattle.command.proofs.key_file.serve.Goals as goal

pub returns-in-Ok-clause-serves : goal.returns-in-Ok-clause-serves
returns-in-Ok-clause-serves g c =
    inr (
      c.in-Ok.signer,
      c.serve_telling.new.signer,
      c.serve_telling.result,
      c.in-Ok.ensures.opens,
      c.serve_telling.ensures,
      c.serve_reported-served.ensures,
      c.into_disk.ensures ∙ ap disk_of c.into_store.ensures,
    )

pub returns-in-Ok-clause-tells : goal.returns-in-Ok-clause-tells
returns-in-Ok-clause-tells g c = told_then g.D.Disk c.args.disk Opening c.in-Ok.signer _ _ _ c.in-Ok.ensures.tells
