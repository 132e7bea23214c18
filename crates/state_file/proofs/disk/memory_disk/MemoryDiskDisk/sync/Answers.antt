use Rattle.std.proofs.Common.{rules}
use Rattle.state_file.specs.declared.disk.log.Entry.TheVariants.{Synced}
use Rattle.state_file.proofs.Log.{elapses_more}
use Rattle.state_file.proofs.disk.memory_disk.MemoryDiskDisk.sync.Goals as goal

pub returns-in-Ok-clause-call : goal.returns-in-Ok-clause-call
returns-in-Ok-clause-call c =
    let synced = c.in-Ok.ensures.log in
    record {
      time = elapses_more c.args.self.now.first.items c.args.self.now.log.items c.keep.new.log.items (Synced synced.0) synced.2;
      failures = search rules;
      plan = search rules;
    }
