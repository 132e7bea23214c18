-- What a migration does: a key's records go on at the new place, in version 2, and no crash leaves two files that can
-- sign.
use Rattle.std.specs.Prelude.{◌≡◌, ◌⊎◌, ℕ, ◌+◌, ◌*◌, ◌≤◌, Bool, false, IsTrue, OnOk, List, [], ◌∷◌, length, Result, Ok}
use Rattle.std.specs.Prelude.{Err}
use Rattle.state_file.specs.Carried.{carried, with_moved}
use Rattle.state_file.specs.Disk.{ChangesOnly, DiskState, IsSynced, LeavesOnly, MayLeave, settled}
use Rattle.state_file.specs.File.{HasNoKey, MayHaveKey, SpellsRecords, StandsFor, most_records}
use Rattle.state_file.specs.Filling.{LeftByFill}
use Rattle.state_file.specs.Gates.{slot_and_gate}
use Rattle.state_file.specs.Laws.{CanSign, has_moved}
use Rattle.state_file.specs.declared.disk.Disk as disk
use Rattle.state_file.specs.declared.migration.MigrateFault.{MigrateFault}
use Rattle.state_file.specs.declared.migration.MigrateFault.TheVariants.{Stopped, DeviceFailed, KeyThere, Full}
use Rattle.state_file.specs.declared.record.Record.{Record}
use Rattle.sign_core.specs.OldFile.{ReportsOld, SpellsMovable}
use Rattle.sign_core.specs.World.{Migration, left_alone, sealed, carried_over, closed_state, migrated}

-- ---- the answer

-- The answer for the old place's content, and what is left there. Ok: the content had records that can move, and now
-- has a Moved after them; the answer is how many are carried over. A refusal leaves it as it was.
abbrev pub AnswersOld : (content : List ℕ) (after : DiskState) → Result ℕ MigrateFault → Type 0
AnswersOld content after (Ok n) = (records : List Record) × SpellsMovable content records
    × (n ≡ length (carried records)) × IsSynced after × StandsFor (with_moved records) after.content
AnswersOld content after (Err DeviceFailed) = Unit {0}
AnswersOld content after (Err KeyThere) = (records : List Record) × SpellsMovable content records
    × (after ≡ settled content)
AnswersOld content after (Err Full) = (records : List Record) × SpellsMovable content records
    × (has_moved records ≡ false) × (most_records ≤ length records) × (after ≡ settled content)
AnswersOld content after (Err fault) = ReportsOld content fault × (after ≡ settled content)

-- The answer for the new place's content. It had no key after Ok and 52; it may have one after 50.
abbrev pub AnswersNew : (content : List ℕ) (after : DiskState) → Result ℕ MigrateFault → Type 0
AnswersNew content after (Ok n) = HasNoKey content
AnswersNew content after (Err KeyThere) = MayHaveKey content × (after ≡ settled content)
AnswersNew content after (Err Full) = HasNoKey content × (after ≡ settled content)
AnswersNew content after (Err _) = Unit {0}

-- A refusal for what stands at the old place leaves the new one alone.
abbrev pub IsUntouched : {E : Type 0} (old new : E) → Result ℕ MigrateFault → Type 0
IsUntouched old new (Ok n) = Unit {0}
IsUntouched old new (Err DeviceFailed) = Unit {0}
IsUntouched old new (Err KeyThere) = Unit {0}
IsUntouched old new (Err Full) = Unit {0}
IsUntouched old new (Err _) = new ≡ old

-- A 45 counts as one failure, of the old disk or of the new one, and no other answer counts any. No answer is 26.
abbrev pub CountsOne : {A : Type 0} (old_before old_after new_before new_after : ℕ) → Result A MigrateFault → Type 0
CountsOne old_before old_after new_before new_after (Ok _) = (old_after ≡ old_before) × (new_after ≡ new_before)
CountsOne old_before old_after new_before new_after (Err DeviceFailed) =
    ((old_after ≡ old_before + 1) × (new_after ≡ new_before))
    ⊎ ((old_after ≡ old_before) × (new_after ≡ new_before + 1))
CountsOne old_before old_after new_before new_after (Err Stopped) = ⊥
CountsOne old_before old_after new_before new_after (Err _) = (old_after ≡ old_before) × (new_after ≡ new_before)

-- ---- what a crash leaves

-- At the old place: what a crash could leave at the start, or the records that can move, or these with a Moved. Only
-- the slot after these records and the gate after it change.
abbrev pub LeftAtOld : DiskState → List ℕ → Type 0
LeftAtOld state c = MayLeave state c ⊎ ((records : List Record) × SpellsMovable state.content records
    × (StandsFor records c ⊎ StandsFor (with_moved records) c)
    × ChangesOnly (slot_and_gate (length records) ∷ []) state.content c)

-- At the new place: what a crash could leave at the start, or what filling it with these records leaves: no key, or all
-- that is carried over.
abbrev pub LeftAtNew : (old_honest : Bool) (old_content : List ℕ) → DiskState → List ℕ → Type 0
LeftAtNew old_honest old_content state c = MayLeave state c ⊎ ((records : List Record)
    × (IsTrue old_honest → SpellsMovable old_content records)
    × LeftByFill old_honest records (256 * length (carried records) + 1) state.content c)

-- No crash leaves two contents that can both sign.
abbrev pub NeverBothSign : DiskState → DiskState → Type 0
NeverBothSign a b = (c other : List ℕ) → MayLeave a c → MayLeave b other → CanSign c → CanSign other → ⊥

-- ---- the event

-- What becomes of a migration, by its answer. After a failure it may be any.
abbrev pub IsFateOf : Result ℕ MigrateFault → Migration → Type 0
IsFateOf (Ok n) fate = fate ≡ carried_over
IsFateOf (Err DeviceFailed) fate = Unit {0}
IsFateOf (Err _) fate = fate ≡ left_alone

-- Where these records stand afterwards: at the new place if they are carried over, else at the old one.
abbrev pub StandsAfter : Migration → List Record → (old new : List ℕ) → Type 0
StandsAfter left_alone records old new = StandsFor records old
StandsAfter sealed records old new = StandsFor records old × HasNoKey new
StandsAfter carried_over records old new = StandsFor records new

-- The two contents stand for what an event of the world leaves of these records.
pub record IsMigration (records : List Record) (answer : Result ℕ MigrateFault) (old new : List ℕ) : Type 0 where
  pub fate : Migration
  pub is_fate : IsFateOf answer fate
  pub stands : StandsAfter fate (migrated (closed_state records) fate).records old new

-- ---- the call

-- A key was migrated from the old disk to the new one, or it was refused.
pub record Migrates {D E : Type 0} (d : disk.Ghosts D) (e : disk.Ghosts E) (old : D) (new : E) (old_after : D)
    (new_after : E) (answer : Result ℕ MigrateFault) : Type 0 where
  pub answers_old : IsTrue (d.honest old) → AnswersOld (d.state old).content (d.state old_after) answer
  pub answers_new : IsTrue (e.honest new) → AnswersNew (e.state new).content (e.state new_after) answer
  pub untouched : IsTrue (d.honest old) → IsUntouched new new_after answer
  -- Ok: what is carried over stands at the new place, synced.
  pub carries : IsTrue (d.honest old) → IsTrue (e.honest new) → (records : List Record)
      → SpellsRecords (d.state old).content records
      → OnOk answer (IsSynced (e.state new_after) × SpellsRecords (e.state new_after).content (carried records))
  -- What a crash at any moment leaves.
  pub old_moments : IsTrue (d.honest old)
      → LeavesOnly d.moment d.left_since old old_after (LeftAtOld (d.state old))
  pub new_moments : IsTrue (e.honest new)
      → LeavesOnly e.moment e.left_since new new_after
      (LeftAtNew (d.honest old) (d.state old).content (e.state new))
  -- If no crash at the start leaves both able to sign, none at the end does.
  pub never_both : IsTrue (d.honest old) → IsTrue (e.honest new) → NeverBothSign (d.state old) (e.state new)
      → NeverBothSign (d.state old_after) (e.state new_after)
  -- Where a crash at the start leaves these records, one at the end leaves what an event leaves of them.
  pub event : IsTrue (d.honest old) → IsTrue (e.honest new) → (records : List Record)
      → ((c : List ℕ) → MayLeave (d.state old) c → StandsFor records c)
      → (c other : List ℕ) → MayLeave (d.state old_after) c → MayLeave (e.state new_after) other
      → IsMigration records answer c other
  pub failures : CountsOne (d.failures old) (d.failures old_after) (e.failures new) (e.failures new_after) answer
  pub old_past_ends : IsTrue (d.honest old) → d.past_ends old_after ≡ d.past_ends old
  pub new_past_ends : IsTrue (e.honest new) → e.past_ends new_after ≡ e.past_ends new
  pub old_honest : d.honest old_after ≡ d.honest old
  pub new_honest : e.honest new_after ≡ e.honest new
