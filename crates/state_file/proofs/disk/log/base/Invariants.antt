use Rattle.std.proofs.Common.{◌≡◌, take, reverse}
use Rattle.state_file.specs.Log.{base_of}
use Rattle.state_file.proofs.disk.log.base.Given as goal

abbrev pub invariant-loop-entry : goal.invariant-loop-entry
invariant-loop-entry l = l.base ≡ base_of l.first (reverse (take l.entry-index l.log))
