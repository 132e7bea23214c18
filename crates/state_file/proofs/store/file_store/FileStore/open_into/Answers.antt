use Rattle.std.proofs.Common.{sym, ap, ◌∙◌, arith}
use Rattle.state_file.specs.Slot.{version_code}
use Rattle.state_file.proofs.Finding.{found_kept}
use Rattle.state_file.proofs.store.file_store.FileStore.open_into.Goals as goal

pub invariant_of-result : goal.invariant_of-result
invariant_of-result g c = record {
  counted = c.in-Ok.ensures.counted;
  within_limit = omega (arith, c.in-Ok.ensures.counted, c.in-Ok.ensures.at_most_limit);
  moved_is = c.in-Ok.ensures.moved;
  of_version = λ honest running.
      let before = sym c.in-Ok.ensures.counts.honest ∙ honest in
      ap version_code (c.in-Ok.ensures.found before).of_version;
  kept = λ honest running.
      let before = sym c.in-Ok.ensures.counts.honest ∙ honest in
      found_kept c.in-Ok.found.version c.in-Ok.found.records c.in-Ok.found.tag (g.D.Disk.state c.args.disk).content (g.D.Disk.state c.find_records.new.disk) (c.in-Ok.ensures.synced before) (c.in-Ok.ensures.found before);
}
