-- A new file that a migration is filling, and the old one that it reads.
use Rattle.std.specs.Prelude.{◌≡◌, ℕ, ◌+◌, ◌<◌, Bool, false, List, [], ◌∷◌, drop, take, Result, Ok, Err}
use Rattle.state_file.specs.Carried.{carried}
use Rattle.state_file.specs.Disk.{AreWithin, DiskState, Range}
use Rattle.state_file.specs.File.{IsClosed, IsFileOf, first_tag, open_value, previous_tag}
use Rattle.state_file.specs.Store.{IsRecordAt}
use Rattle.state_file.specs.declared.migration.MigrateFault.{MigrateFault}
use Rattle.state_file.specs.declared.migration.MigrateFault.TheVariants.{Damaged, DeviceFailed}
use Rattle.state_file.specs.declared.record.Record.{Record}

-- all offsets below this one, without the first gate's
abbrev pub after_first_gate : ℕ → Range
after_first_gate end = record { from = 1; to = end }

-- Slots are being written: since this base was synced, all writes were after the first gate and below `end`.
pub record IsUnfinished (end : ℕ) (base : List ℕ) (state : DiskState) : Type 0 where
  pub same_base : state.base ≡ base
  pub within : AreWithin (after_first_gate end ∷ []) state.ranges

-- the content with its first gate open
abbrev pub gate_opened : List ℕ → List ℕ
gate_opened content = open_value ∷ drop 1 content

-- The first k records are in the slots, and this is the last one's tag. If its first gate were open, the content would
-- be a file of them. For k = 0 that gate is closed.
pub record IsCopied (list : List Record) (k : ℕ) (tag content : List ℕ) : Type 0 where
  pub none : k ≡ 0 → IsClosed content 0 × (tag ≡ first_tag)
  pub some : 0 < k → IsFileOf (take k list) (gate_opened content) × (tag ≡ previous_tag (gate_opened content) k)

-- A record of the old file is loaded, as version 2 has it.
abbrev pub LoadsCarried : (honest : Bool) (records : List Record) (k : ℕ) (new_stopped : Bool)
    (failures_before failures_after : ℕ) → Result Record MigrateFault → Type 0
LoadsCarried honest records k new_stopped before after (Ok entry) =
    IsRecordAt honest (carried records) k entry × (new_stopped ≡ false) × (after ≡ before)
LoadsCarried honest records k new_stopped before after (Err DeviceFailed) = after ≡ before + 1
LoadsCarried honest records k new_stopped before after (Err (Damaged slot)) = (honest ≡ false)
    × (after ≡ before)
LoadsCarried honest records k new_stopped before after (Err _) = ⊥
