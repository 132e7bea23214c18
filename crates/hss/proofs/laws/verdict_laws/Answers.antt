use Rattle.hss.proofs.Verdicts.{accepted, one_refusal, read_in_turn}
use Rattle.hss.proofs.laws.verdict_laws.Goals as goal

pub returns : goal.returns
returns c = record { accepted = accepted; one_refusal = one_refusal (Unit {0}); read_in_turn = read_in_turn (Unit {0}) }
