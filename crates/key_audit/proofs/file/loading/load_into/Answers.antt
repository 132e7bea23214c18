use Rattle.std.proofs.Common.{ap, arith, ◌+◌, None, Some, Ok, sym, subst}
use Rattle.std.specs.Prelude.{length}
use Rattle.key_audit.specs.inner.Loading.{LoadsSlot}
use Rattle.key_audit.proofs.Loads.{HasLoaded, all_loaded, loaded_more, none_loaded}
use Rattle.key_audit.proofs.file.loading.load_into.Goals as goal

pub loop-slot-init : goal.loop-slot-init
loop-slot-init g c =
    subst (λ l. HasLoaded g.D.Disk c.args.store.now c.args.store.now l 0) (sym c.requires)
    (none_loaded g.D.Disk c.args.store.now (λ content honest since. g.met.D.Disk.only_now c.args.store.now.disk content honest since))

pub loop-slot-preserved : goal.loop-slot-preserved
loop-slot-preserved g c =
    let loads : LoadsSlot g.D.Disk c.loop-slot.store c.load_at.new.store c.loop-slot.slot (Ok (Some c.in-Some.record)) =
    subst (λ found. LoadsSlot g.D.Disk c.loop-slot.store c.load_at.new.store c.loop-slot.slot (Ok found)) c.in-Some.is c.in_ok-record.ensures in
    subst (λ l. HasLoaded g.D.Disk c.args.store.now c.load_at.new.store l (c.loop-slot.slot + 1)) (sym c.take.ensures)
    (loaded_more g.D.Disk c.args.store.now c.loop-slot.store c.load_at.new.store (g.T.Taker.taken c.loop-slot.taker) c.loop-slot.slot c.in-Some.record
    c.loop-slot.invariant loads)

pub returns-in-None-clause-records : goal.returns-in-None-clause-records
returns-in-None-clause-records g c =
    let loads : LoadsSlot g.D.Disk c.loop-slot.store c.load_at.new.store c.loop-slot.slot (Ok None) =
    subst (λ found. LoadsSlot g.D.Disk c.loop-slot.store c.load_at.new.store c.loop-slot.slot (Ok found)) c.in-None.is c.in_ok-record.ensures in
    all_loaded g.D.Disk c.args.store.now c.loop-slot.store (g.T.Taker.taken c.loop-slot.taker) c.loop-slot.slot c.loop-slot.invariant
    (omega (arith, loads.finds, ap length c.loop-slot.invariant.kept.records))

pub returns-clause-records : goal.returns-clause-records
returns-clause-records g c =
    all_loaded g.D.Disk c.args.store.now c.loop-slot.store (g.T.Taker.taken c.loop-slot.taker) c.loop-slot.slot c.loop-slot.invariant
    (omega (arith, c.loop-slot-test.false, c.limit-slot-end.ensures, c.loop-slot.store.within_limit, c.loop-slot.auto.slot-end, ap length c.loop-slot.invariant.kept.records))
