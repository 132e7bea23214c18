use Rattle.state_file.specs.Disk.{MayLeave}
use Rattle.state_file.proofs.Filling.{unfinished_leaves, written_after}
use Rattle.state_file.proofs.Moments.{goes_on, started}
use Rattle.state_file.proofs.file.unfinished.write_after.Goals as goal

pub returns-clause-keeps : goal.returns-clause-keeps
returns-clause-keeps g c end base honest fits unfinished =
    written_after end base c.args.at c.args.bytes.now (g.E.Disk.state c.args.disk.now) (g.E.Disk.state c.write_at.new.self) c.write_at.result
    c.requires.after fits (c.write_at.ensures.written honest) unfinished

pub returns-clause-any_moment : goal.returns-clause-any_moment
returns-clause-any_moment g c end base honest fits unfinished =
    let old = c.args.disk.now in
    let new = c.write_at.new.self in
    goes_on g.E.Disk.moment g.E.Disk.left_since old old new _ (MayLeave (g.E.Disk.state new))
    (started g.E.Disk.moment g.E.Disk.left_since old _
    (λ left since. unfinished_leaves end base (g.E.Disk.state old) left unfinished (g.met.E.Disk.only_now old left honest since)))
    (c.write_at.ensures.call.time honest)
    (λ left may. unfinished_leaves end base (g.E.Disk.state new) left
    (written_after end base c.args.at c.args.bytes.now (g.E.Disk.state old) (g.E.Disk.state new) c.write_at.result
    c.requires.after fits (c.write_at.ensures.written honest) unfinished) may)
