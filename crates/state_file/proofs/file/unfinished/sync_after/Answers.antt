use Rattle.state_file.specs.Disk.{MayLeave}
use Rattle.state_file.proofs.Filling.{sync_ends, sync_leaves, unfinished_leaves}
use Rattle.state_file.proofs.Moments.{goes_on, started}
use Rattle.state_file.proofs.file.unfinished.sync_after.Goals as goal

pub returns-clause-synced : goal.returns-clause-synced
returns-clause-synced g c end base honest unfinished =
    let old = c.args.disk.now in
    sync_ends end base (g.E.Disk.state old) (g.E.Disk.state c.sync.new.self) c.sync.result unfinished (g.met.E.Disk.shows old honest) (c.sync.ensures.synced honest)

pub returns-clause-any_moment : goal.returns-clause-any_moment
returns-clause-any_moment g c end base honest unfinished =
    let old = c.args.disk.now in
    let new = c.sync.new.self in
    goes_on g.E.Disk.moment g.E.Disk.left_since old old new _ (MayLeave (g.E.Disk.state new))
    (started g.E.Disk.moment g.E.Disk.left_since old _
    (λ left since. unfinished_leaves end base (g.E.Disk.state old) left unfinished (g.met.E.Disk.only_now old left honest since)))
    (c.sync.ensures.call.time honest)
    (λ left may. sync_leaves end base (g.E.Disk.state old) (g.E.Disk.state new) left c.sync.result unfinished (g.met.E.Disk.shows old honest) (c.sync.ensures.synced honest) may)
