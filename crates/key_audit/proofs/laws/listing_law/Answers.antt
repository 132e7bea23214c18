use Rattle.key_audit.proofs.Hiding.{listing_law}
use Rattle.key_audit.proofs.laws.listing_law.Goals as goal

pub returns : goal.returns
returns c = listing_law
