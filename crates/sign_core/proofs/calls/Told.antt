-- What an alarm was told as a disk was opened, whatever came after that.
use Rattle.std.proofs.Common.{ℕ, List, Result, Ok, inl, inr}
use Rattle.state_file.specs.declared.disk.Disk as disk
use Rattle.state_file.specs.declared.file.opening.OpenFault.{OpenFault}
use Rattle.sign_core.specs.Alarm.{TellsBehind}

pub told_then : {D A B F : Type 0} (d : disk.Ghosts D) (given : D) (refused_as : OpenFault → F) (x : A) (answer : Result B F) (old new : List ℕ)
    → TellsBehind d given refused_as (Ok x) old new → TellsBehind d given refused_as answer old new
told_then d given refused_as x answer old new (inl (fault, same, reports, kept)) = absurd cc
told_then d given refused_as x answer old new (inr found) = inr found
