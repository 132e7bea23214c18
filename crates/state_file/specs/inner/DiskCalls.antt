-- Calls that only read a disk, or read no bytes of it.
use Rattle.std.specs.Prelude.{◌≡◌, Bool, IsTrue, Result}
use Rattle.state_file.specs.Disk.{Counts}
use Rattle.state_file.specs.declared.disk.Disk as disk
use Rattle.state_file.specs.DiskCalls.{CountsFailures, OnlyReads}

-- As `CountsFailures`, for calls that read no bytes: no disk, honest or not, counts a read past the end.
pub record CountsFailuresWithoutReads {D A E : Type 0} (d : disk.Ghosts D) (is_failed : E → Bool) (old new : D)
    (answer : Result A E) : Type 0 where
  pub failures : Counts is_failed (d.failures old) (d.failures new) answer
  pub past_ends : d.past_ends new ≡ d.past_ends old
  pub honest : d.honest new ≡ d.honest old

-- A function only reads its disk, if that is honest, and counts what failed.
pub record ReadsDisk {D A E : Type 0} (d : disk.Ghosts D) (is_failed : E → Bool) (old new : D) (answer : Result A E)
    : Type 0 where
  pub only : IsTrue (d.honest old) → OnlyReads d.state d.moment d.left_since old new
  pub counts : CountsFailures d is_failed old new answer
