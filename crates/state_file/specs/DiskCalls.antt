-- What functions over a disk do to it.
use Rattle.std.specs.Prelude.{◌≡◌, ℕ, Bool, IsTrue, List, Result}
use Rattle.state_file.specs.Disk.{Counts, DiskState, LeavesOnly, MayLeave}
use Rattle.state_file.specs.declared.disk.Disk as disk

-- Each failure of the disk is counted and answered. None is a read past the end of an honest disk. Honesty stays.
pub record CountsFailures {D A E : Type 0} (d : disk.Ghosts D) (is_failed : E → Bool) (old new : D)
    (answer : Result A E) : Type 0 where
  pub failures : Counts is_failed (d.failures old) (d.failures new) answer
  pub past_ends : IsTrue (d.honest old) → d.past_ends new ≡ d.past_ends old
  pub honest : d.honest new ≡ d.honest old

-- Calls that only read: the state stays, and a crash leaves only what it could leave before.
pub record OnlyReads {D : Type 0} (state : D → DiskState) (moment : D → ℕ) (left_since : D → ℕ → List ℕ → Type 0)
    (old new : D) : Type 0 where
  pub stays : state new ≡ state old
  pub leaves : LeavesOnly moment left_since old new (MayLeave (state old))
