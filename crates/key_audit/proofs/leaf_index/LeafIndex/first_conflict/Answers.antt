use Rattle.std.proofs.Common.{[], ◌∷◌, ◌++◌, take, sym, subst, arith, take_all}
use Rattle.key_audit.specs.inner.LeafIndex.{IsFirstConflict}
use Rattle.key_audit.proofs.LeafIndex.{least_push, next_taken}
use Rattle.key_audit.proofs.leaf_index.LeafIndex.first_conflict.Goals as goal

pub loop-used-preserved : goal.loop-used-preserved
loop-used-preserved c =
    let entries = c.args.self.now.entries in
    let uses = c.args.uses.now in
    let i = c.loop-used.used-index in
    let more = least_push entries (take i uses) c.used-item.result c.loop-used.least c.conflict_of_use.result (sym c.conflict_of_use.ensures) c.loop-used.invariant in
    subst (λ l. IsFirstConflict entries l c.min_some-least.result) (sym (next_taken uses i c.used-item.result (omega (arith, c.loop-used-test.true)) c.used-item.is))
    (subst (IsFirstConflict entries (take i uses ++ c.used-item.result ∷ [])) (sym c.min_some-least.ensures) more)

pub returns : goal.returns
returns c =
    subst (λ l. IsFirstConflict c.args.self.now.entries l c.loop-used.least) (take_all c.loop-used.used-index c.args.uses.now (omega (arith, c.loop-used-test.false))) c.loop-used.invariant
