use Rattle.std.proofs.Common.{IsTrue, ◌↔◌, take, reverse}
use Rattle.state_file.specs.Disk.{IsOutside}
use Rattle.state_file.specs.Log.{ranges_of}
use Rattle.state_file.proofs.disk.log.is_outside.Given as goal

abbrev pub invariant-loop-entry : goal.invariant-loop-entry
invariant-loop-entry l = IsTrue l.outside ↔ IsOutside l.offset (ranges_of (reverse (take l.entry-index l.log)))
