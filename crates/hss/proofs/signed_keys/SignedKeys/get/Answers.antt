use Rattle.hss.proofs.Slots.{none-past}
use Rattle.hss.proofs.signed_keys.SignedKeys.get.Goals as goal

pub returns-then-i-self : goal.returns-then-i-self
returns-then-i-self c = let keys = c.args.self.now in none-past keys.count keys.slots c.args.i keys.first c.if-i-self.true
