-- Filling a place: slots are written behind a closed first gate, which is opened at the end.
use Rattle.std.specs.Prelude.{◌≡◌, ◌⊎◌, ℕ, ◌+◌, Bool, false, IsTrue, List, [], ◌∷◌, Result, Ok, Err}
use Rattle.state_file.specs.Carried.{carried}
use Rattle.state_file.specs.Disk.{ChangesOnly, Range}
use Rattle.state_file.specs.File.{HasNoKey, SpellsRecords}
use Rattle.state_file.specs.declared.migration.MigrateFault.{MigrateFault}
use Rattle.state_file.specs.declared.migration.MigrateFault.TheVariants.{Damaged, DeviceFailed}
use Rattle.state_file.specs.declared.record.Record.{Record}

-- ---- what is written

-- all offsets below this one
abbrev pub first_offsets : ℕ → Range
first_offsets end = record { from = 0; to = end }

-- What a crash leaves while a place is filled. Bytes from `end` on stay. If the old disk is honest, the place has no
-- key, or spells all that is carried over.
pub record LeftByFill (old_honest : Bool) (records : List Record) (end : ℕ) (content c : List ℕ) : Type 0 where
  pub changes : ChangesOnly (first_offsets end ∷ []) content c
  pub kind : IsTrue old_honest → HasNoKey c ⊎ SpellsRecords c (carried records)

-- ---- the answers

-- A 45 is one failure, of the old disk or of the new one. Otherwise only 43 refuses, where the old disk isn't honest.
abbrev pub CountsEither : {A : Type 0} (old_honest : Bool) (old_before old_after new_before new_after : ℕ)
    → Result A MigrateFault → Type 0
CountsEither old_honest old_before old_after new_before new_after (Ok _) =
    (old_after ≡ old_before) × (new_after ≡ new_before)
CountsEither old_honest old_before old_after new_before new_after (Err DeviceFailed) =
    ((old_after ≡ old_before + 1) × (new_after ≡ new_before))
    ⊎ ((old_after ≡ old_before) × (new_after ≡ new_before + 1))
CountsEither old_honest old_before old_after new_before new_after (Err (Damaged slot)) =
    (old_honest ≡ false) × (old_after ≡ old_before) × (new_after ≡ new_before)
CountsEither old_honest old_before old_after new_before new_after (Err _) = ⊥
