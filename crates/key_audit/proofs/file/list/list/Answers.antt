use Rattle.std.proofs.Common.{rules, ◌≡◌, Err, sym, subst}
use Rattle.std.specs.Prelude.{IfOk}
use Rattle.key_audit.specs.Listing.{Lists}
use Rattle.key_audit.proofs.Lists.{listed, not_listed}
use Rattle.key_audit.proofs.file.list.list.Goals as goal

pub returns-in_err-load_into : goal.returns-in_err-load_into
returns-in_err-load_into g c =
    let answer : c.from_residual.result ≡ Err c.in_err-load_into.field-0.0 = search rules in
    subst (Lists g.D.Disk c.args.store.now c.load_into.new.store) (sym answer)
    (not_listed g.D.Disk c.args.store.now c.load_into.new.store _ c.in_err-load_into.ensures.reads c.in_err-load_into.ensures.refused)

pub returns : goal.returns
returns g c =
    listed g.D.Disk c.args.store.now c.load_into.new.store _ c.load_into.new.taker c.finish.result c.in_ok-load_into.ensures.reads
    c.in_ok-load_into.ensures.records c.finish.ensures.lists
    (subst (λ slot. IfOk c.finish.result (λ listing. listing.behind ≡ slot)) c.slot_behind-behind.ensures c.finish.ensures.behind)
