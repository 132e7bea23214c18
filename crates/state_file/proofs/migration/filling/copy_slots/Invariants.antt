-- The slots so far are written; the store was only read.
use Rattle.std.proofs.Common.{◌-◌, ◌≡◌, ◌+◌, ◌*◌, ◌≤◌, ◌∷◌, [], false, length}
use Rattle.std.specs.Prelude.{IsTrue}
use Rattle.state_file.specs.Carried.{carried}
use Rattle.state_file.specs.Disk.{ChangesOnly, IsSynced, LeavesOnly}
use Rattle.state_file.specs.File.{IsClosed}
use Rattle.state_file.specs.FileStore.{disk_of, has_stopped, records_of}
use Rattle.state_file.specs.inner.Filling.{IsCopied, IsUnfinished, after_first_gate}
use Rattle.state_file.specs.inner.StoreReads.{ReadsStore}
use Rattle.state_file.proofs.migration.filling.copy_slots.Given as goal

abbrev pub invariant-loop-copied : goal.invariant-loop-copied
invariant-loop-copied g l = record {
  total : l.count + 1 ≡ length (records_of l.initial.store);
  within_limit : l.copied.count ≤ l.count;
  running : has_stopped l.store ≡ false;
  reads : ReadsStore g.D.Disk l.initial.store l.store;
  old_failures : g.D.Disk.failures (disk_of l.store) ≡ g.D.Disk.failures (disk_of l.initial.store);
  new_failures : g.E.Disk.failures l.disk ≡ g.E.Disk.failures l.initial.disk;
  past_ends : g.E.Disk.past_ends l.disk ≡ g.E.Disk.past_ends l.initial.disk;
  honest : g.E.Disk.honest l.disk ≡ g.E.Disk.honest l.initial.disk;
  unfinished : IsTrue (g.E.Disk.honest l.initial.disk) → IsSynced (g.E.Disk.state l.initial.disk) → IsUnfinished (256 * (length (records_of l.initial.store) - 1) + 1) (g.E.Disk.state l.initial.disk).content (g.E.Disk.state l.disk);
  leaves : IsTrue (g.E.Disk.honest l.initial.disk) → IsSynced (g.E.Disk.state l.initial.disk)
      → LeavesOnly g.E.Disk.moment g.E.Disk.left_since l.initial.disk l.disk (ChangesOnly (after_first_gate (256 * (length (records_of l.initial.store) - 1) + 1) ∷ []) (g.E.Disk.state l.initial.disk).content);
  copied : IsTrue (g.D.Disk.honest (disk_of l.initial.store)) → IsTrue (g.E.Disk.honest l.initial.disk) → IsClosed (g.E.Disk.state l.initial.disk).content 0
      → IsCopied (carried (records_of l.initial.store)) l.copied.count l.copied.tag (g.E.Disk.state l.disk).content;
}

abbrev pub decreases-loop-copied : goal.decreases-loop-copied
decreases-loop-copied g l = l.count - l.copied.count
