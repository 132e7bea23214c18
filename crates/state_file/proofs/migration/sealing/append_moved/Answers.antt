use Rattle.std.proofs.Common.{inl}
use Rattle.state_file.proofs.Moments.{started}
use Rattle.state_file.specs.inner.FileStore.{kept_leaves}
use Rattle.state_file.proofs.migration.sealing.append_moved.Goals as goal

pub returns-then-has_moved-clause-any_moment : goal.returns-then-has_moved-clause-any_moment
returns-then-has_moved-clause-any_moment g c honest running =
    let store = c.args.store.now in
    started g.D.Disk.moment g.D.Disk.left_since store.disk _
    (λ left since. inl (kept_leaves store.records store.tag (g.D.Disk.state store.disk) left (store.kept honest running) (g.met.D.Disk.only_now store.disk left honest since)))
