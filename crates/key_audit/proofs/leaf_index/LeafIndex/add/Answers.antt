use Rattle.std.proofs.Common.{take, sym, subst, arith, take_all}
use Rattle.key_audit.proofs.LeafIndex.{AreAdded, added_more, next_taken}
use Rattle.key_audit.proofs.leaf_index.LeafIndex.add.Goals as goal

pub loop-used-preserved : goal.loop-used-preserved
loop-used-preserved c =
    let uses = c.args.uses.now in
    let i = c.loop-used.used-index in
    subst (λ l. AreAdded c.args.place l c.args.self.now.entries c.add_use.new.self.entries) (sym (next_taken uses i c.used-item.result (omega (arith, c.loop-used-test.true)) c.used-item.is))
    (added_more c.args.place (take i uses) c.used-item.result c.args.self.now.entries c.loop-used.self.entries c.add_use.new.self.entries c.loop-used.invariant
    c.in_ok-add_use.ensures)

pub returns : goal.returns
returns c = λ before low kept.
    (subst (λ l. AreAdded c.args.place l c.args.self.now.entries c.loop-used.self.entries)
    (take_all c.loop-used.used-index c.args.uses.now (omega (arith, c.loop-used-test.false))) c.loop-used.invariant before low kept).kept
