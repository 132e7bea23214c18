use Rattle.command.proofs.listing_text.write_identifier.Goals as goal

pub returns-in-Some : goal.returns-in-Some
returns-in-Some g c = rw c.in-Some.is c.write_known_identifier.ensures
