-- A place for a file that holds no key yet.
use Rattle.std.specs.Prelude.{◌≡◌, ◌↔◌, ◌<◌, ℕ, Bool, true, false, List, length, Result, Ok, Err}
use Rattle.state_file.specs.Disk.{DiskState, IsSynced, settled}
use Rattle.state_file.specs.File.{HasNoKey, IsClosed, MayHaveKey}
use Rattle.state_file.specs.declared.migration.MigrateFault.{MigrateFault}
use Rattle.state_file.specs.declared.migration.MigrateFault.TheVariants.{DeviceFailed, KeyThere}

-- All is synced, and there is no key: under 257 bytes (short), or a closed first gate.
pub record IsFreePlace (short : Bool) (state : DiskState) : Type 0 where
  pub synced : IsSynced state
  pub size : (short ≡ true) ↔ (length state.content < 257)
  pub closed : short ≡ false → IsClosed state.content 0

-- What looking at a place answers, and leaves: no key, perhaps a key (50), or a device that failed (45).
abbrev pub FindsPlace : {A : Type 0} (content : List ℕ) (new : DiskState) → Result A MigrateFault → Type 0
FindsPlace content new (Ok _) = HasNoKey content × (new ≡ settled content)
FindsPlace content new (Err KeyThere) = MayHaveKey content × (new ≡ settled content)
FindsPlace content new (Err DeviceFailed) = Unit {0}
FindsPlace content new (Err _) = ⊥

-- The refusals of a place, over any disk.
abbrev pub RefusesPlace : MigrateFault → Type 0
RefusesPlace KeyThere = Unit {0}
RefusesPlace DeviceFailed = Unit {0}
RefusesPlace _ = ⊥
