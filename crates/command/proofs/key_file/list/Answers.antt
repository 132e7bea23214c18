use Rattle.std.proofs.Common.{inl, inr, refl}
use Rattle.command.proofs.key_file.list.Goals as goal

pub returns-in-Ok-clause-lists : goal.returns-in-Ok-clause-lists
returns-in-Ok-clause-lists g c =
    inr (c.in-Ok.store, c.list_replayed.result, c.in-Ok.ensures.finds, c.list_replayed.ensures, c.reported-listed.ensures, c.into_disk.ensures)

pub returns-in-Ok-clause-tells : goal.returns-in-Ok-clause-tells
returns-in-Ok-clause-tells g c = inr (c.in-Ok.store, c.in-Ok.ensures.finds, c.warn_behind.ensures)

pub returns-in-Err-clause-tells : goal.returns-in-Err-clause-tells
returns-in-Err-clause-tells g c = inl (c.in-Err.refused.fault, refl, c.in-Err.ensures.finds.fault, refl)
