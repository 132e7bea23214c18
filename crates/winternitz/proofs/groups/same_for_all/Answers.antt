use Rattle.std.proofs.lemmas.List.{get_or-replicate}
use Rattle.winternitz.proofs.groups.same_for_all.Goals as goal

pub returns-clause-each : goal.returns-clause-each
returns-clause-each c = λ i low. get_or-replicate 265 i c.args.place 0 low
