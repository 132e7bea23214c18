use Rattle.std.proofs.Common.{◌∙◌}
use Rattle.state_file.specs.Disk.{MayLeave, range_of}
use Rattle.state_file.proofs.Moments.{goes_on, started}
use Rattle.state_file.proofs.WriteSynced.{synced_leaves, synced_then_leaves, written_leaves}
use Rattle.state_file.proofs.file.gates.write_synced.Goals as goal

pub returns-in_err-write_at-clause-any_moment : goal.returns-in_err-write_at-clause-any_moment
returns-in_err-write_at-clause-any_moment g c honest synced =
    let old = c.args.disk.now in
    let new = c.write_at.new.self in
    let state_of = g.D.Disk.state in
    goes_on g.D.Disk.moment g.D.Disk.left_since old old new _ (MayLeave (state_of new))
    (started g.D.Disk.moment g.D.Disk.left_since old _
    (λ left since. synced_leaves (range_of c.args.at c.args.bytes.now) (state_of old) left synced (g.met.D.Disk.only_now old left honest since)))
    (c.write_at.ensures.call.time honest)
    (λ left may. written_leaves c.args.at c.args.bytes.now (state_of old) (state_of new) c.write_at.result left synced
    (c.write_at.ensures.written honest) may)

pub returns-clause-any_moment : goal.returns-clause-any_moment
returns-clause-any_moment g c honest synced =
    let old = c.args.disk.now in
    let middle = c.write_at.new.self in
    let new = c.sync.new.self in
    let state_of = g.D.Disk.state in
    let at = c.args.at in
    let bytes = c.args.bytes.now in
    let stays = c.write_at.ensures.call.honest ∙ honest in
    let written = c.write_at.ensures.written honest in
    goes_on g.D.Disk.moment g.D.Disk.left_since old middle new _ (MayLeave (state_of new))
    (goes_on g.D.Disk.moment g.D.Disk.left_since old old middle _ (MayLeave (state_of middle))
    (started g.D.Disk.moment g.D.Disk.left_since old _
    (λ left since. synced_leaves (range_of at bytes) (state_of old) left synced (g.met.D.Disk.only_now old left honest since)))
    (c.write_at.ensures.call.time honest)
    (λ left may. written_leaves at bytes (state_of old) (state_of middle) c.write_at.result left synced written may))
    (c.sync.ensures.call.time stays)
    (λ left may. synced_then_leaves at bytes (state_of old) (state_of middle) (state_of new) c.write_at.result c.sync.result left synced written
    (g.met.D.Disk.shows middle stays) (c.sync.ensures.synced stays) may)
