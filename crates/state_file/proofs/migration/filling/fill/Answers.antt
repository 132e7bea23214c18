use Rattle.std.proofs.Common.{◌≡◌, ℕ, ◌+◌, ◌-◌, ◌*◌, length, sym, subst}
use Rattle.state_file.specs.Carried.{carried}
use Rattle.state_file.specs.Disk.{LeavesOnly}
use Rattle.state_file.specs.Filling.{LeftByFill}
use Rattle.state_file.specs.Migration.{FillsPlace}
use Rattle.state_file.proofs.Carried.{carried_length}
use Rattle.state_file.proofs.Lists.{reads_leave}
use Rattle.state_file.proofs.Moments.{weaker}
use Rattle.state_file.proofs.Moved.{moved_spelled}
use Rattle.state_file.specs.File.{SpellsRecords}
use Rattle.state_file.proofs.Filled.{counted}
use Rattle.state_file.proofs.migration.filling.fill.Goals as goal

pub returns : goal.returns
returns g c =
    let sealed = c.args.sealed in
    let store = sealed.store in
    let place = c.args.place in
    let filled = c.fill_place-answer.ensures in
    let new = c.fill_place-answer.new.disk in
    let count : length store.records - 1 ≡ length (carried store.records) = sym (carried_length store.records sealed.moved) in
    subst (λ old. FillsPlace g.D.Disk g.E.Disk sealed place old new c.fill_place-answer.result) (sym c.into_disk.ensures) (record {
      old_reads = λ honest. filled.reads.reads honest sealed.running;
      old_moments = λ honest.
          weaker g.D.Disk.moment g.D.Disk.left_since store.disk c.fill_place-answer.new.store.disk _ (λ left. SpellsRecords left store.records) (λ left stands. moved_spelled store.records left sealed.moved stands)
          (reads_leave g.D.Disk.state g.D.Disk.moment g.D.Disk.left_since store.disk c.fill_place-answer.new.store.disk store.records store.tag (store.kept honest sealed.running) (filled.reads.reads honest sealed.running));
      new_moments = λ honest.
          subst (λ (n : ℕ). LeavesOnly g.E.Disk.moment g.E.Disk.left_since place.disk new (LeftByFill (g.D.Disk.honest store.disk) store.records (256 * n + 1) (g.E.Disk.state place.disk).content)) count (filled.any_moment honest);
      done = filled.done;
      number = counted (length store.records) (length (carried store.records)) c.fill_place-answer.result count filled.number;
      failures = filled.failures;
      old_past_ends = filled.reads.past_ends;
      new_past_ends = filled.past_ends;
      old_honest = filled.reads.honest;
      new_honest = filled.honest;
    })
