use Rattle.std.proofs.Common.{◌∙◌, ap, inr}
use Rattle.state_file.specs.FileStore.{disk_of}
use Rattle.command.proofs.make.Make.make_key.Goals as goal

pub returns-in-Ok : goal.returns-in-Ok
returns-in-Ok g c =
    inr (c.in-Ok.signer, c.in-Ok.ensures, c.publish-published.ensures, c.into_disk.ensures ∙ ap disk_of c.into_store.ensures)
