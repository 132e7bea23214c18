use Rattle.std.proofs.Common.{◌≡◌, Some, subst, sym}
use Rattle.typecodes.specs.declared.secret.LmsSecret.{LmsSecret}
use Rattle.typecodes.specs.Types.{height_of}
use Rattle.sign_core.specs.inner.KeyTrees.{chain_trees}
use Rattle.sign_core.specs.inner.Progress.{height_at}
use Rattle.sign_core.proofs.records.Heights.{height_of_current}
use Rattle.sign_core.proofs.caches.Caches.keep_current.Goals as goal

pub new-requires-clause-of_key : goal.new-requires-clause-of_key
new-requires-clause-of_key g c =
    let a = c.args in
    let l = a.ledger.now in
    let r = c.requires in
    subst (λ (s : LmsSecret). height_at a.progress.now.spec a.level ≡ Some (height_of s.pair.tree)) (sym c.secret_at-secret.ensures)
    (height_of_current l.key (chain_trees a.trees.now) l.records a.level _ c.current.result c.in-Some.tree r.legal r.keyed r.trees r.types
    c.current.ensures c.in-Some.is)
