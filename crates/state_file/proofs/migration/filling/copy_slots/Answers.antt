use Rattle.std.proofs.Common.{◌≡◌, ◌+◌, ◌-◌, ◌*◌, ◌≤◌, length, sym, ◌∙◌, arith}
use Rattle.state_file.proofs.Copied.{copied_all}
use Rattle.state_file.proofs.Carried.{carried_length, carried_list}
use Rattle.state_file.proofs.Moments.{combined}
use Rattle.state_file.proofs.StoreReads.{copied_along, reads_store_on}
use Rattle.state_file.proofs.migration.filling.copy_slots.Goals as goal

pub loop-copied-preserved : goal.loop-copied-preserved
loop-copied-preserved g c =
    let before = c.loop-copied.invariant in
    let first = c.args.store.now in
    let place = c.args.disk.now in
    let end = 256 * (length first.records - 1) + 1 in
    let base = (g.E.Disk.state place).content in
    let done = c.in_ok-copy_slot.ensures in
    let fits : 256 * c.loop-copied.copied.count + 257 ≤ end = omega (arith, before.total, c.loop-copied-test.true) in record {
      total = before.total;
      within_limit = omega (arith, done.count, c.loop-copied-test.true);
      running = done.running;
      reads = reads_store_on g.D.Disk first c.loop-copied.store c.copy_slot.new.store before.running before.reads done.reads;
      old_failures = done.failures.0 ∙ before.old_failures;
      new_failures = done.failures.1 ∙ before.new_failures;
      past_ends = done.past_ends ∙ before.past_ends;
      honest = done.honest ∙ before.honest;
      unfinished = λ honest synced. done.keeps end base (before.honest ∙ honest) fits (before.unfinished honest synced);
      leaves = λ honest synced.
          combined g.E.Disk.moment g.E.Disk.left_since place c.loop-copied.disk c.copy_slot.new.disk _ (before.leaves honest synced) (done.any_moment end base (before.honest ∙ honest) fits (before.unfinished honest synced));
      copied = λ honest_old honest closed.
          copied_along c.loop-copied.store.records first.records _ _ _ before.reads.records
          (done.copied (before.reads.honest ∙ honest_old) (before.honest ∙ honest) (copied_along first.records c.loop-copied.store.records _ _ _ (sym before.reads.records) (before.copied honest_old honest closed)));
    }

pub returns-in_err-copy_slot-clause-keeps : goal.returns-in_err-copy_slot-clause-keeps
returns-in_err-copy_slot-clause-keeps g c honest synced =
    let before = c.loop-copied.invariant in
    let end = 256 * (length c.args.store.now.records - 1) + 1 in
    let fits : 256 * c.loop-copied.copied.count + 257 ≤ end = omega (arith, before.total, c.loop-copied-test.true) in
    c.copy_slot.ensures.keeps end (g.E.Disk.state c.args.disk.now).content (before.honest ∙ honest) fits (before.unfinished honest synced)

pub returns-in_err-copy_slot-clause-any_moment : goal.returns-in_err-copy_slot-clause-any_moment
returns-in_err-copy_slot-clause-any_moment g c honest synced =
    let before = c.loop-copied.invariant in
    let end = 256 * (length c.args.store.now.records - 1) + 1 in
    let fits : 256 * c.loop-copied.copied.count + 257 ≤ end = omega (arith, before.total, c.loop-copied-test.true) in
    combined g.E.Disk.moment g.E.Disk.left_since c.args.disk.now c.loop-copied.disk c.copy_slot.new.disk _ (before.leaves honest synced)
    (c.copy_slot.ensures.any_moment end (g.E.Disk.state c.args.disk.now).content (before.honest ∙ honest) fits (before.unfinished honest synced))

pub returns-clause-copied : goal.returns-clause-copied
returns-clause-copied g c honest_old honest closed =
    let before = c.loop-copied.invariant in
    let first = c.args.store.now in
    let kept = first.kept honest_old c.requires.running in
    let all : c.loop-copied.copied.count ≡ length first.records - 1 = omega (arith, before.total, before.within_limit, c.loop-copied-test.false) in
    copied_all _ c.loop-copied.copied.count c.loop-copied.copied.tag (g.E.Disk.state c.loop-copied.disk).content (carried_list first.records c.requires.moved kept.file.first) (all ∙ sym (carried_length first.records c.requires.moved))
    (before.copied honest_old honest closed)
