use Rattle.command.proofs.KeyLines.{delivered_err, delivered_ok, signs_and_delivers}
use Rattle.command.proofs.sign.sign_file.Goals as goal

pub returns-in-Ok : goal.returns-in-Ok
returns-in-Ok g c =
    let after = c.read_and_sign-disk.new in
    signs_and_delivers _ _ _ _ _ _ _ _ _ c.deliver.result _ _ _ after.signature.items c.read_and_sign-disk.result.1
    (g.D.Traced.trace after.folder) c.new-signature.ensures.capacity c.read_and_sign-disk.ensures
    (delivered_ok _ _ _ _ _ _ _ _ c.in-Ok.is c.as_slice.ensures.value c.deliver.ensures)

pub returns : goal.returns
returns g c =
    let after = c.read_and_sign-disk.new in
    signs_and_delivers _ _ _ _ _ _ _ _ _ _ _ _ _ after.signature.items c.read_and_sign-disk.result.1
    (g.D.Traced.trace after.folder) c.new-signature.ensures.capacity c.read_and_sign-disk.ensures
    (delivered_err _ _ _ _ _ c.in-Err.is)
