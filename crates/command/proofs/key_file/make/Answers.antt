use Rattle.std.proofs.Common.{inr}
use Rattle.command.proofs.key_file.make.Goals as goal

-- the signer refuses
pub returns-in-Err-create_telling : goal.returns-in-Err-create_telling
returns-in-Err-create_telling g c =
    let refused = c.in-Err-create_telling.refused in
    inr (c.in-Ok.store, refused.fault, refused.given.0, refused.given.1, c.in-Ok.ensures, c.in-Err-create_telling.ensures, c.handed_back.ensures.fault, c.handed_back.ensures.given)
