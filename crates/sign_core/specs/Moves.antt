-- The headline across a migration: runs of the world lead to what it leaves at either place.
use Rattle.std.specs.Prelude.{◌⊎◌, ℕ, IsTrue, List, Result, Ok}
use Rattle.state_file.specs.declared.disk.Disk as disk
use Rattle.state_file.specs.declared.migration.MigrateFault.{MigrateFault}
use Rattle.state_file.specs.Disk.{MayLeave}
use Rattle.state_file.specs.File.{HasNoKey}
use Rattle.sign_core.specs.Lives.{IsAtStart, LedTo}
use Rattle.sign_core.specs.Migration.{Migrates}
use Rattle.sign_core.specs.World.{Handed}

-- A migration whose old place has a content to which runs lead that handed this out, as after any lives of its disk.
-- The lives of either disk may begin with what runs lead to then.
pub record MovesLaw {D E : Type 0} (d : disk.Ghosts D) (e : disk.Ghosts E) : Type 0 where
  -- runs lead to whatever a crash at any moment leaves at the old place
  pub old_place : (limit : ℕ) (handed : List Handed) (old old_after : D) (new new_after : E)
      (answer : Result ℕ MigrateFault) → IsAtStart d (LedTo limit handed) old
      → Migrates d e old new old_after new_after answer
      → (c : List ℕ) → d.left_since old_after (d.moment old) c → LedTo limit handed c
  -- and to whatever it leaves at the new one, except for what a crash just before could leave, and a place without a
  -- key
  pub new_place : (limit : ℕ) (handed : List Handed) (old old_after : D) (new new_after : E)
      (answer : Result ℕ MigrateFault) → IsAtStart d (LedTo limit handed) old → IsTrue (e.honest new)
      → Migrates d e old new old_after new_after answer
      → (c : List ℕ) → e.left_since new_after (e.moment new) c
      → MayLeave (e.state new) c ⊎ HasNoKey c ⊎ LedTo limit handed c
  -- after Ok, to whatever a crash from then on leaves there
  pub done : (limit : ℕ) (handed : List Handed) (old old_after : D) (new new_after : E) (n : ℕ)
      → IsAtStart d (LedTo limit handed) old → IsTrue (e.honest new)
      → Migrates d e old new old_after new_after (Ok n)
      → (c : List ℕ) → MayLeave (e.state new_after) c → LedTo limit handed c
