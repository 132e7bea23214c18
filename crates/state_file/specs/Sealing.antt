-- What sealing a file does to its records.
use Rattle.std.specs.Prelude.{◌≡◌, ◌⊎◌, ℕ, ◌+◌, ◌<◌, ◌≤◌, Bool, true, false, List, length, Result, Ok, Err}
use Rattle.state_file.specs.Carried.{with_moved}
use Rattle.state_file.specs.File.{most_records}
use Rattle.state_file.specs.Laws.{has_moved}
use Rattle.state_file.specs.declared.migration.MigrateFault.{MigrateFault}
use Rattle.state_file.specs.declared.migration.MigrateFault.TheVariants.{DeviceFailed, Full, Stopped}
use Rattle.state_file.specs.declared.record.Record.{Record}

-- What sealing does, by its answer: to the records, whether the store has stopped, and the failures of its device.
abbrev pub Seals : {A : Type 0} (old : List Record) (old_stopped : Bool) (new : List Record) (new_stopped : Bool)
    (failures_before failures_after : ℕ) → Result A MigrateFault → Type 0
Seals old old_stopped new new_stopped before after (Ok _) =
    (old_stopped ≡ false) × ((has_moved old ≡ true) ⊎ (length old < most_records)) × (new ≡ with_moved old)
    × (new_stopped ≡ false) × (after ≡ before)
Seals old old_stopped new new_stopped before after (Err Stopped) =
    (old_stopped ≡ true) × (new ≡ old) × (new_stopped ≡ true) × (after ≡ before)
Seals old old_stopped new new_stopped before after (Err Full) =
    (old_stopped ≡ false) × (has_moved old ≡ false) × (most_records ≤ length old) × (new ≡ old)
    × (new_stopped ≡ false) × (after ≡ before)
Seals old old_stopped new new_stopped before after (Err DeviceFailed) =
    (old_stopped ≡ false) × (has_moved old ≡ false) × (length old < most_records)
    × ((new ≡ old) ⊎ (new ≡ with_moved old)) × (new_stopped ≡ true) × (after ≡ before + 1)
Seals old old_stopped new new_stopped before after (Err _) = ⊥
