use Rattle.std.proofs.Common.{◌+◌, ◌*◌, refl, arith}
use Rattle.state_file.proofs.PastEnd.{range_taken}
use Rattle.state_file.proofs.file.opening.read_fields.Goals as goal

pub returns-clause-fields : goal.returns-clause-fields
returns-clause-fields g c honest =
    range_taken (g.D.Disk.state c.args.disk.now).content c.read_within.new.into (256 * c.from.result + 1) (256 * c.args.k + 1) 223 223 (omega arith) refl (c.in_ok-read_within.ensures.bytes honest)
