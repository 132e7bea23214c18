use Rattle.std.proofs.Common.{rules, ◌≡◌, None, sym, subst}
use Rattle.sign_core.specs.inner.Replay.{IsReplay}
use Rattle.sign_core.proofs.ledgers.Replaying.{ignores, takes}
use Rattle.sign_core.proofs.replay.ReplayTaker.take.Goals as goal

pub invariant_of-self : goal.invariant_of-self
invariant_of-self c =
    let none : c.self.inside.fault ≡ None = search rules in
    subst (λ l. IsReplay l c.take_next.new.ledger c.err-self-inside.result) (sym c.push.ensures)
    (takes c.self.inside.taken c.self.inside.ledger c.take_next.new.ledger c.self.inside.fault c.err-self-inside.result c.args.entry.now c.take_next.result
    none c.err-self-inside.ensures.value c.take_next.ensures c.self.invariant)

pub invariant_of-self-else-is_none : goal.invariant_of-self-else-is_none
invariant_of-self-else-is_none c =
    let some : c.self.inside.fault ≡ None → ⊥ = search rules in
    subst (λ l. IsReplay l c.self.inside.ledger c.self.inside.fault) (sym c.push.ensures)
    (ignores c.self.inside.taken c.args.entry.now c.self.inside.ledger c.self.inside.fault some c.self.invariant)
