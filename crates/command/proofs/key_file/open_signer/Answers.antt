use Rattle.std.proofs.Common.{inl, inr, refl}
use Rattle.command.proofs.key_file.open_signer.Goals as goal

-- the signer refuses
pub returns-in-Err-open_replayed-clause-opens : goal.returns-in-Err-open_replayed-clause-opens
returns-in-Err-open_replayed-clause-opens g c =
    let refused = c.in-Err-open_replayed.refused in
    inr (c.in-Ok.store, refused.fault, refused.given.0, refused.given.1, c.in-Ok.ensures.finds, c.in-Err-open_replayed.ensures, c.handed_back.ensures.fault, c.handed_back.ensures.given)

pub returns-in-Err-open_replayed-clause-tells : goal.returns-in-Err-open_replayed-clause-tells
returns-in-Err-open_replayed-clause-tells g c = inr (c.in-Ok.store, c.in-Ok.ensures.finds, c.warn_behind.ensures)

pub returns-in-Ok-open_replayed-clause-tells : goal.returns-in-Ok-open_replayed-clause-tells
returns-in-Ok-open_replayed-clause-tells g c = inr (c.in-Ok.store, c.in-Ok.ensures.finds, c.warn_behind.ensures)

pub returns-in-Err-clause-tells : goal.returns-in-Err-clause-tells
returns-in-Err-clause-tells g c = inl (c.in-Err.refused.fault, refl, c.in-Err.ensures.finds.fault, refl)
