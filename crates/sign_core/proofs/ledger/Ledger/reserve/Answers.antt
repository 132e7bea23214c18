use Rattle.std.proofs.Common.{◌∙◌, ap}
use Rattle.std.specs.Prelude.{is_some}
use Rattle.sign_core.proofs.ledger.Ledger.reserve.Goals as goal

pub invariant_of-self-2 : goal.invariant_of-self-2
invariant_of-self-2 c = record {
  legal = c.self.invariant.legal;
  keyed = c.self.invariant.keyed;
  sizes = c.self.invariant.sizes;
  counted = c.self.invariant.counted;
  moved_is = c.self.invariant.moved_is;
  trees_are = c.self.invariant.trees_are;
  recorded_are = λ place. c.reserve.ensures.entries.2 place ∙ c.self.invariant.recorded_are place;
  bindings_are = λ name. c.reserve-2.ensures.same name ∙ c.self.invariant.bindings_are name;
  identifiers_are = λ identifier. ap is_some (c.reserve-3.ensures.entries.2 identifier) ∙ c.self.invariant.identifiers_are identifier;
}
