use Rattle.hss.proofs.Making.{textbook_valid}
use Rattle.hss.proofs.Sized.{public-spelled, textbook-spelled}
use Rattle.hss.proofs.laws.textbook_laws.Goals as goal

pub returns : goal.returns
returns c = record { valid = textbook_valid; key = public-spelled; signature = textbook-spelled }
