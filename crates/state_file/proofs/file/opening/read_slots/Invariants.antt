-- The content begins with the records found so far; all calls only read.
use Rattle.std.proofs.Common.{◌≡◌, ◌*◌, ◌-◌, ◌%◌, ◌<◌, ◌≤◌, ◌++◌, length}
use Rattle.std.specs.Prelude.{IsTrue}
use Rattle.state_file.specs.File.{most_records}
use Rattle.state_file.specs.DiskCalls.{OnlyReads}
use Rattle.state_file.specs.inner.Opening.{HasPiece}
use Rattle.state_file.specs.Laws.{has_moved}
use Rattle.state_file.proofs.Finding.{BeginsFound}
use Rattle.state_file.proofs.file.opening.read_slots.Given as goal

abbrev pub invariant-loop-piece : goal.invariant-loop-piece
invariant-loop-piece g l = record {
  counted : l.found.count ≡ length l.found.records;
  at_most_limit : l.found.count ≤ most_records;
  moved : l.found.moved ≡ has_moved l.found.records;
  version : l.found.version ≡ l.version;
  len : l.found.len ≡ l.len;
  within : 256 * l.found.count < l.len;
  taken : g.T.Taker.taken l.taker ≡ g.T.Taker.taken l.initial.taker ++ l.found.records;
  honest : g.D.Disk.honest l.disk ≡ g.D.Disk.honest l.initial.disk;
  failures : g.D.Disk.failures l.disk ≡ g.D.Disk.failures l.initial.disk;
  past_ends : IsTrue (g.D.Disk.honest l.initial.disk) → g.D.Disk.past_ends l.disk ≡ g.D.Disk.past_ends l.initial.disk;
  reads : IsTrue (g.D.Disk.honest l.initial.disk) → OnlyReads g.D.Disk.state g.D.Disk.moment g.D.Disk.left_since l.initial.disk l.disk;
  found : IsTrue (g.D.Disk.honest l.initial.disk) → BeginsFound l.version (g.D.Disk.state l.initial.disk).content l.found.count l.found.records l.found.tag;
  piece : IsTrue (g.D.Disk.honest l.initial.disk) → 0 < l.found.count % 256 → HasPiece (g.D.Disk.state l.initial.disk).content l.found.count l.piece;
}

abbrev pub decreases-loop-piece : goal.decreases-loop-piece
decreases-loop-piece g l = most_records - l.found.count
