use Rattle.std.proofs.Common.{Err, sym, subst}
use Rattle.state_file.specs.FileStore.{disk_of}
use Rattle.sign_core.specs.Migration.{Migrates}
use Rattle.sign_core.specs.OldFile.{opening_fault}
use Rattle.sign_core.proofs.calls.Told.{told_then}
use Rattle.sign_core.proofs.calls.Lives.{KeepsTime}
use Rattle.sign_core.proofs.moves.Ends.{filled, refused_old, refused_place, refused_seal}
use Rattle.sign_core.proofs.migration.migrate_key_telling.Given.{Over}
use Rattle.sign_core.proofs.migration.migrate_key_telling.Goals as goal

old_time : (g : Over) → KeepsTime g.D.Disk
old_time g = record {
  shows = λ on honest. g.met.D.Disk.shows on honest;
  counts_now = λ on t content honest early may. g.met.D.Disk.counts_now on t content honest early may;
  only_now = λ on content honest since. g.met.D.Disk.only_now on content honest since;
}

new_time : (g : Over) → KeepsTime g.E.Disk
new_time g = record {
  shows = λ on honest. g.met.E.Disk.shows on honest;
  counts_now = λ on t content honest early may. g.met.E.Disk.counts_now on t content honest early may;
  only_now = λ on content honest since. g.met.E.Disk.only_now on content honest since;
}

pub returns-in-Err-clause-migrates : goal.returns-in-Err-clause-migrates
returns-in-Err-clause-migrates g c = refused_old g.D.Disk g.E.Disk (old_time g) (new_time g) c.args.old c.args.new c.in-Err.field-0 c.in-Err.ensures.opens

pub returns-in-Err-check-clause-migrates : goal.returns-in-Err-check-clause-migrates
returns-in-Err-check-clause-migrates g c =
    subst (λ on. Migrates g.D.Disk g.E.Disk c.args.old c.args.new on c.in-Err-check.field-0.given (Err c.in-Err-check.field-0.fault)) (sym c.into_disk.ensures)
    (refused_place g.D.Disk g.E.Disk (old_time g) (new_time g) c.args.old c.args.new c.in-Ok.store c.in-Err-check.field-0 c.in-Ok.ensures.opens c.in-Err-check.ensures)

pub returns-in-Ok-seal-clause-migrates : goal.returns-in-Ok-seal-clause-migrates
returns-in-Ok-seal-clause-migrates g c =
    filled g.D.Disk g.E.Disk (old_time g) (new_time g) c.args.old c.args.new c.in-Ok.store c.in-Ok-check.place c.in-Ok-seal.sealed c.fill.result.0 c.fill.result.1
    c.fill.result.2 c.in-Ok.ensures.opens c.in-Ok-check.ensures c.in-Ok-seal.ensures c.fill.ensures

pub returns-in-Err-seal-clause-migrates : goal.returns-in-Err-seal-clause-migrates
returns-in-Err-seal-clause-migrates g c =
    subst (λ on. Migrates g.D.Disk g.E.Disk c.args.old c.args.new on c.into_disk-in-Err-seal-2.result (Err c.in-Err-seal.field-0.fault)) (sym c.into_disk-in-Err-seal.ensures)
    (subst (λ on. Migrates g.D.Disk g.E.Disk c.args.old c.args.new (disk_of c.in-Err-seal.field-0.given) on (Err c.in-Err-seal.field-0.fault))
    (sym c.into_disk-in-Err-seal-2.ensures)
    (refused_seal g.D.Disk g.E.Disk (old_time g) (new_time g) c.args.old c.args.new c.in-Ok.store c.in-Ok-check.place c.in-Err-seal.field-0 c.in-Ok.ensures.opens
    c.in-Ok-check.ensures c.in-Err-seal.ensures))

pub returns-in-Err-check-clause-tells : goal.returns-in-Err-check-clause-tells
returns-in-Err-check-clause-tells g c = told_then g.D.Disk c.args.old opening_fault c.in-Ok.store _ _ _ c.in-Ok.ensures.tells

pub returns-in-Ok-seal-clause-tells : goal.returns-in-Ok-seal-clause-tells
returns-in-Ok-seal-clause-tells g c = told_then g.D.Disk c.args.old opening_fault c.in-Ok.store _ _ _ c.in-Ok.ensures.tells

pub returns-in-Err-seal-clause-tells : goal.returns-in-Err-seal-clause-tells
returns-in-Err-seal-clause-tells g c = told_then g.D.Disk c.args.old opening_fault c.in-Ok.store _ _ _ c.in-Ok.ensures.tells
