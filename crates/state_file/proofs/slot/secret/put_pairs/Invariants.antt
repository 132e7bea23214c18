use Rattle.std.proofs.Common.{◌*◌, take}
use Rattle.state_file.specs.Slot.{pairs}
use Rattle.state_file.specs.inner.Fields.{Puts}
use Rattle.state_file.proofs.slot.secret.put_pairs.Given as goal

abbrev pub invariant-loop-pair : goal.invariant-loop-pair
invariant-loop-pair l =
    Puts (8 * l.pair-index) (pairs l.pair-index) (take l.pair-index l.all) l.initial.out l.out
