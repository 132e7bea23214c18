use Rattle.std.proofs.Common.{Ok, sym, subst}
use Rattle.state_file.specs.declared.record.Record.TheVariants.{Extend as ExtendRecord}
use Rattle.sign_core.specs.Signer.{view_of}
use Rattle.sign_core.specs.inner.Signer.{Adds}
use Rattle.sign_core.proofs.calls.AddedRecords.{adds_caching}
use Rattle.sign_core.proofs.signer.Signer.add_tree.Goals as goal

pub returns-clause-adds : goal.returns-clause-adds
returns-clause-adds g c =
    let i = c.self.inside in
    adds_caching g.S.Store c.args.self.now (view_of i.store i.random i.ledger i.caches i.is_open) c.renew.new.self (ExtendRecord c.args.extend) (Ok tt)
    (subst (λ w. Adds g.S.Store c.args.self.now w (ExtendRecord c.args.extend) (Ok tt)) (sym c.self.view_is) c.in_ok-add.ensures.adds)
