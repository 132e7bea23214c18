use Rattle.std.proofs.Common.{⊎_elim, subst, sym}
use Rattle.state_file.specs.Disk.{OpensRange, range_of}
use Rattle.command.proofs.PartCalls.{opens_nothing}
use Rattle.command.proofs.disk_file.DiskFileFileCalls.write_at.Goals as goal

pub returns-in-Err-clause-takes : goal.returns-in-Err-clause-takes
returns-in-Err-clause-takes g c = λ honest.
    let range = range_of c.args.at c.args.bytes.now in
    let old = g.D.Disk.state c.args.self.now.disk in
    ⊎_elim (λ same. subst (λ s. OpensRange range old s) (sym same) (opens_nothing range old)) (λ opens. opens) (c.in-Err.ensures.written honest)
