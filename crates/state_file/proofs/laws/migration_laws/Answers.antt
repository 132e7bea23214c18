use Rattle.state_file.proofs.Contents.{no_key_cannot}
use Rattle.state_file.proofs.Moved.{free_leaves, moved_signs_nothing, moved_spelled}
use Rattle.state_file.specs.inner.FileStore.{kept_leaves}
use Rattle.state_file.proofs.laws.migration_laws.Goals as goal

pub returns-clause-places : goal.returns-clause-places
returns-clause-places g c = record {
  no_key = λ place left honest since. free_leaves place.short (g.E.Disk.state place.disk) left (place.free honest) (g.met.E.Disk.only_now place.disk left honest since);
  signs_nothing = λ place left honest since can.
      no_key_cannot left (free_leaves place.short (g.E.Disk.state place.disk) left (place.free honest) (g.met.E.Disk.only_now place.disk left honest since)) can;
}

pub returns-clause-sealed : goal.returns-clause-sealed
returns-clause-sealed g c = record {
  moved = λ sealed. sealed.moved;
  running = λ sealed. sealed.running;
  leaves = λ sealed left honest since.
      let store = sealed.store in
      moved_spelled store.records left sealed.moved (kept_leaves store.records store.tag (g.D.Disk.state store.disk) left (store.kept honest sealed.running) (g.met.D.Disk.only_now store.disk left honest since));
  signs_nothing = λ sealed left honest since can.
      let store = sealed.store in
      moved_signs_nothing store.records left sealed.moved (kept_leaves store.records store.tag (g.D.Disk.state store.disk) left (store.kept honest sealed.running) (g.met.D.Disk.only_now store.disk left honest since)) can;
}
