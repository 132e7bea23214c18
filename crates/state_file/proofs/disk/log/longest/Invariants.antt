use Rattle.std.proofs.Common.{◌≡◌, take, reverse, length}
use Rattle.state_file.specs.Disk.{greatest_end}
use Rattle.state_file.specs.Log.{ranges_of}
use Rattle.state_file.proofs.disk.log.longest.Given as goal

abbrev pub invariant-loop-entry : goal.invariant-loop-entry
invariant-loop-entry l = l.longest ≡ greatest_end (length l.base) (ranges_of (reverse (take l.entry-index l.log)))
