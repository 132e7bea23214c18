use Rattle.std.proofs.Common.{◌≡◌, subst}
use Rattle.std.specs.Prelude.{IfOk}
use Rattle.key_audit.proofs.Lists.{listed_replayed}
use Rattle.key_audit.proofs.file.list.list_replayed.Goals as goal

pub returns : goal.returns
returns g c =
    listed_replayed g.D.Disk c.args.store.now (λ content honest since. g.met.D.Disk.only_now c.args.store.now.disk content honest since)
    c.args.replay c.finish.result c.requires.running c.requires.taken c.finish.ensures.lists
    (subst (λ slot. IfOk c.finish.result (λ listing. listing.behind ≡ slot)) c.slot_behind.ensures c.finish.ensures.behind)
