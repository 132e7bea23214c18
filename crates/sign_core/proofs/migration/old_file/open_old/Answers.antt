use Rattle.std.proofs.Common.{◌∙◌, ◌++◌, Ok, Err, inr, ap, sym, subst}
use Rattle.state_file.specs.FileStore.{records_of}
use Rattle.sign_core.specs.inner.OldFile.{JudgesRecords, OpensOld, RefusesRecords}
use Rattle.sign_core.proofs.moves.OldFile.{judged_movable, judged_refused}
use Rattle.sign_core.proofs.migration.old_file.open_old.Goals as goal

pub returns-in-Ok-judge-clause-opens : goal.returns-in-Ok-judge-clause-opens
returns-in-Ok-judge-clause-opens g c =
    let same = c.in-Ok.ensures.taken ∙ ap (λ l. l ++ records_of c.in-Ok.store) c.new-replay.ensures in
    judged_movable g.D.Disk c.args.old c.in-Ok.store c.in-Ok.ensures.finds c.in-Ok-judge.field-0
    (subst (λ l. JudgesRecords l (Ok c.in-Ok-judge.field-0)) same c.in-Ok-judge.ensures)

pub returns-in-Err-judge-clause-opens : goal.returns-in-Err-judge-clause-opens
returns-in-Err-judge-clause-opens g c =
    let same = c.in-Ok.ensures.taken ∙ ap (λ l. l ++ records_of c.in-Ok.store) c.new-replay.ensures in
    subst (λ on. OpensOld g.D.Disk c.args.old (Err (record { fault = c.in-Err-judge.fault; given = on }))) (sym c.into_disk.ensures)
    (judged_refused g.D.Disk c.args.old c.in-Ok.store c.in-Ok.ensures.finds c.in-Err-judge.fault
    (subst (λ l. RefusesRecords l c.in-Err-judge.fault) same c.in-Err-judge.ensures))

pub returns-in-Ok-judge-clause-tells : goal.returns-in-Ok-judge-clause-tells
returns-in-Ok-judge-clause-tells g c = inr (c.in-Ok.store, c.in-Ok.ensures.finds, c.warn_behind.ensures)

pub returns-in-Err-judge-clause-tells : goal.returns-in-Err-judge-clause-tells
returns-in-Err-judge-clause-tells g c = inr (c.in-Ok.store, c.in-Ok.ensures.finds, c.warn_behind.ensures)
