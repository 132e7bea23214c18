use Rattle.std.proofs.Common.{rules}
use Rattle.state_file.proofs.disk.log.keep.Goals as goal

pub returns-clause-log : goal.returns-clause-log
returns-clause-log c = (c.in_ok-copy.copy, search rules, search rules)
