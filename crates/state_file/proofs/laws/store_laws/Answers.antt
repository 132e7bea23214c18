use Rattle.state_file.specs.inner.FileStore.{kept_leaves}
use Rattle.state_file.proofs.laws.store_laws.Goals as goal

pub returns : goal.returns
returns g c = record {
  leaves = λ store left honest running since.
      kept_leaves store.records store.tag (g.D.Disk.state store.disk) left (store.kept honest running) (g.met.D.Disk.only_now store.disk left honest since);
}
