use Rattle.std.proofs.Common.{inl, inr, refl}
use Rattle.command.proofs.compared.compare_key.Goals as goal

pub returns-in-Some : goal.returns-in-Some
returns-in-Some c = inl (c.in-Some.described, c.could_be.result, refl, c.in-Some.ensures, c.could_be.ensures)

pub returns-in-None : goal.returns-in-None
returns-in-None c = inr (c.fault_of-fault.result, refl, c.in-None.ensures, c.fault_of-fault.ensures)
