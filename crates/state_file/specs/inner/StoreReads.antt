-- What functions that only read a store's records do to it.
use Rattle.std.specs.Prelude.{◌≡◌, IsTrue}
use Rattle.state_file.specs.DiskCalls.{OnlyReads}
use Rattle.state_file.specs.FileStore.{WhileStoreRuns, disk_of, records_of}
use Rattle.state_file.specs.declared.disk.Disk as disk
use Rattle.state_file.specs.declared.store.file_store.FileStore.{FileStore}

-- Its records stay, and its disk is only read, never past the end of an honest one.
pub record ReadsStore {D : Type 0} {bound : _} (d : disk.Ghosts D) (old new : FileStore D bound) : Type 0 where
  pub records : records_of new ≡ records_of old
  pub reads : WhileStoreRuns d old (OnlyReads d.state d.moment d.left_since (disk_of old) (disk_of new))
  pub past_ends : IsTrue (d.honest (disk_of old)) → d.past_ends (disk_of new) ≡ d.past_ends (disk_of old)
  pub honest : d.honest (disk_of new) ≡ d.honest (disk_of old)
