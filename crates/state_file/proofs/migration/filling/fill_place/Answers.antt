use Rattle.std.proofs.Common.{ℕ, ◌+◌, ◌-◌, ◌*◌, ◌≤◌, List, length, sym, ◌∙◌, subst, arith}
use Rattle.std.specs.Prelude.{IsTrue}
use Rattle.state_file.specs.Carried.{carried}
use Rattle.state_file.specs.Disk.{LeavesOnly}
use Rattle.state_file.specs.File.{SpellsRecords}
use Rattle.state_file.specs.Filling.{LeftByFill}
use Rattle.state_file.specs.inner.Filling.{gate_opened}
use Rattle.state_file.proofs.Carried.{carried_list}
use Rattle.state_file.proofs.Filled.{carried_spelled, left_copied, left_finished, left_prepared}
use Rattle.state_file.proofs.Moments.{combined, weaker}
use Rattle.state_file.proofs.migration.filling.fill_place.Goals.{After-finish}
use Rattle.state_file.proofs.migration.filling.fill_place.Goals as goal

-- a crash while the place was filled left only what a filling leaves
filling_leaves : (g : _) (c : After-finish g) → IsTrue (g.E.Disk.honest c.args.disk.now)
    → LeavesOnly g.E.Disk.moment g.E.Disk.left_since c.args.disk.now c.finish.new.disk
    (LeftByFill (g.D.Disk.honest c.args.store.now.disk) c.args.store.now.records (256 * (length c.args.store.now.records - 1) + 1)
    (g.E.Disk.state c.args.disk.now).content)
filling_leaves g c honest =
    let store = c.args.store.now in
    let place = c.args.disk.now in
    let first = (g.E.Disk.state place).content in
    let end = 256 * (length store.records - 1) + 1 in
    let some : 1 ≤ end = omega arith in
    let was = g.D.Disk.honest store.disk in
    let Left : List ℕ → Type 0 = LeftByFill was store.records end first in
    let base = (g.E.Disk.state c.prepare.new.disk).content in
    let content = (g.E.Disk.state c.copy_slots.new.disk).content in
    let prepared = c.in_ok-prepare.ensures.closed honest in
    let still = c.prepare.ensures.counts.honest ∙ honest in
    let then = c.copy_slots.ensures.honest ∙ still in
    let unfinished = c.copy_slots.ensures.keeps still prepared.0 in
    let spelled : IsTrue was → SpellsRecords (gate_opened content) (carried store.records) = λ honest_old.
    let kept = store.kept honest_old c.requires.running in
    carried_spelled (carried store.records) (gate_opened content) (carried_list store.records c.requires.moved kept.file.first) (c.in_ok-copy_slots.ensures.copied honest_old still prepared.1) in
    let preparing =
    weaker g.E.Disk.moment g.E.Disk.left_since place c.prepare.new.disk _ Left (λ left one. left_prepared was store.records end some first left one) (c.prepare.ensures.any_moment honest) in
    let copying =
    weaker g.E.Disk.moment g.E.Disk.left_since c.prepare.new.disk c.copy_slots.new.disk _ Left (λ left changes. left_copied was store.records end some first base left prepared.1 prepared.2 changes)
    (c.copy_slots.ensures.any_moment still prepared.0) in
    let finishing =
    weaker g.E.Disk.moment g.E.Disk.left_since c.copy_slots.new.disk c.finish.new.disk _ Left (λ left one. left_finished was store.records end some first base content left prepared.2 spelled one)
    (c.finish.ensures.any_moment end base then prepared.1 some unfinished) in
    combined g.E.Disk.moment g.E.Disk.left_since place c.copy_slots.new.disk c.finish.new.disk _
    (combined g.E.Disk.moment g.E.Disk.left_since place c.prepare.new.disk c.copy_slots.new.disk _ preparing copying) finishing

pub returns-in_err-finish-clause-any_moment : goal.returns-in_err-finish-clause-any_moment
returns-in_err-finish-clause-any_moment g c = filling_leaves g (goal.at.returns-in_err-finish-clause-any_moment g c).After-finish

pub returns-clause-any_moment : goal.returns-clause-any_moment
returns-clause-any_moment g c = filling_leaves g (goal.at.returns-clause-any_moment g c).After-finish

pub returns-clause-done : goal.returns-clause-done
returns-clause-done g c honest_old honest =
    let store = c.args.store.now in
    let end = 256 * (length store.records - 1) + 1 in
    let base = (g.E.Disk.state c.prepare.new.disk).content in
    let content = (g.E.Disk.state c.copy_slots.new.disk).content in
    let prepared = c.in_ok-prepare.ensures.closed honest in
    let still = c.prepare.ensures.counts.honest ∙ honest in
    let kept = store.kept honest_old c.requires.running in
    let spelled = carried_spelled (carried store.records) (gate_opened content) (carried_list store.records c.requires.moved kept.file.first) (c.in_ok-copy_slots.ensures.copied honest_old still prepared.1) in
    let finished = c.in_ok-finish.ensures.finished end base (c.copy_slots.ensures.honest ∙ still) prepared.1 (c.copy_slots.ensures.keeps still prepared.0) in (
      finished.0,
      subst (λ (l : List ℕ). SpellsRecords l (carried store.records)) (sym finished.1) spelled,
    )
