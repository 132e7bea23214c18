-- What an alarm hears of a state file that has bytes behind its last record.
use Rattle.std.specs.Prelude.{◌≡◌, ◌⊎◌, ℕ, zero, suc, List, ◌∷◌, length, Option, Some, None, Result, Ok, Err, IsTrue}
use Rattle.std.specs.Prelude.{if◌then◌else◌}
use Rattle.state_file.specs.declared.disk.Disk as disk
use Rattle.state_file.specs.declared.file.opening.OpenFault.{OpenFault}
use Rattle.state_file.specs.declared.store.file_store.FileStore.{FileStore}
use Rattle.state_file.specs.FileStore.{FindsRecords, has_bytes_behind, records_of}
use Rattle.state_file.specs.Opening.{ReportsContent}

-- the last of this number of slots
abbrev pub last_slot : ℕ → Option ℕ
last_slot zero = None
last_slot (suc before) = Some before

-- the last record's slot, if the file was opened with bytes behind it
abbrev pub slot_behind : {D : Type 0} {bound : _} → FileStore D bound → Option ℕ
slot_behind store = if has_bytes_behind store then last_slot (length (records_of store)) else None

-- An alarm was told of this slot, and of nothing else; without one, of nothing.
abbrev pub TellsSlot : Option ℕ → (old new : List ℕ) → Type 0
TellsSlot (Some slot) old new = new ≡ slot ∷ old
TellsSlot None old new = new ≡ old

-- A disk's records were found, and an alarm was told of the last one's slot if bytes stand behind it, and of nothing
-- else. Or the opening was refused, which is the answer, and the alarm was told of nothing.
abbrev pub TellsBehind : {D A F : Type 0} → (d : disk.Ghosts D) → (given : D) → (refused_as : OpenFault → F)
    → Result A F → (old new : List ℕ) → Type 0
TellsBehind {D} d given refused_as answer old new =
    ((fault : OpenFault) × (answer ≡ Err (refused_as fault))
    × (IsTrue (d.honest given) → ReportsContent (d.state given).content fault) × (new ≡ old))
    ⊎ ((found : FileStore D d) × FindsRecords d given (Ok found) × TellsSlot (slot_behind found) old new)
