use Rattle.std.proofs.Common.{rules}
use Rattle.state_file.proofs.Adding.{prepared_len}
use Rattle.state_file.proofs.store.file_store.FileStore.format.Goals as goal

pub returns-in-Ok : goal.returns-in-Ok
returns-in-Ok g c = record {
  records = search rules;
  running = search rules;
  unreadable = search rules;
  loads = search rules;
  records_given = search rules;
  behind = search rules;
  answer = search rules;
  len = λ honest.
      prepared_len (g.D.Disk.state c.args.disk).content (g.D.Disk.state c.format.new.disk) (c.in-Ok.ensures.answer honest);
  moments = search rules;
  failures = search rules;
}
