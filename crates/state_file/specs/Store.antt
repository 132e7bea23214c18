-- What the calls of a store do.
use Rattle.std.specs.Prelude.{◌≡◌, ◌⊎◌, ℕ, ◌+◌, ◌<◌, ◌≤◌, Bool, true, false, IsTrue, List, [], ◌∷◌, ◌++◌, length}
use Rattle.std.specs.Prelude.{codes, slice_get, Option, Some, None, Result, Ok, Err, if◌then◌else◌}
use Rattle.state_file.specs.declared.record.Record.{Record}
use Rattle.state_file.specs.declared.record.Record.TheVariants.{Key as KeyRecord, Extend, Bound, Retire, Moved}
use Rattle.state_file.specs.Slot.{FitsVersion, file_version}
use Rattle.state_file.specs.declared.store.StoreFault.{StoreFault}
use Rattle.state_file.specs.declared.store.StoreFault.TheVariants.{Stopped, Damaged, DeviceFailed, OutOfMemory, Full}

abbrev pub is_key : Record → Bool
is_key (KeyRecord key) = true
is_key (Extend extend) = false
is_key (Bound bound) = false
is_key (Retire upto) = false
is_key Moved = false

abbrev pub begins_with_key : List Record → Bool
begins_with_key [] = true
begins_with_key (entry ∷ entries) = is_key entry

-- The record can be written after this list: the first is a Key, and a file of its version can hold the others.
abbrev pub CanFollow : List Record → Record → Type 0
CanFollow [] entry = is_key entry ≡ true
CanFollow (first ∷ rest) entry = FitsVersion (file_version (first ∷ rest)) entry

-- What holds while a store runs: its device is honest, and no call has failed since it was opened.
abbrev pub WhileRunning : (honest stopped : Bool) → Type 0 → Type 0
WhileRunning honest stopped Then = IsTrue honest → stopped ≡ false → Then

-- What an append does, by its answer: to the list, whether the store has stopped, and the failures of its device.
-- Requirement: RFC 8554 5.4.1, stored
-- Requirement: SP 800-208 8.1, before export
abbrev pub Appends : {A : Type 0} (most : ℕ) (old : List Record) (old_stopped : Bool) (entry : Record)
    (new : List Record) (new_stopped : Bool) (failures_before failures_after : ℕ) → Result A StoreFault → Type 0
Appends most old old_stopped entry new new_stopped before after (Ok _) =
    (old_stopped ≡ false) × (length old < most) × (new ≡ old ++ entry ∷ []) × (new_stopped ≡ false) × (after ≡ before)
Appends most old old_stopped entry new new_stopped before after (Err Stopped) =
    (old_stopped ≡ true) × (new ≡ old) × (new_stopped ≡ true) × (after ≡ before)
Appends most old old_stopped entry new new_stopped before after (Err (Damaged k)) = ⊥
Appends most old old_stopped entry new new_stopped before after (Err DeviceFailed) =
    (old_stopped ≡ false) × (length old < most) × ((new ≡ old) ⊎ (new ≡ old ++ entry ∷ [])) × (new_stopped ≡ true)
    × (after ≡ before + 1)
Appends most old old_stopped entry new new_stopped before after (Err OutOfMemory) =
    (old_stopped ≡ false) × (length old < most) × (new ≡ old) × (new_stopped ≡ false) × (after ≡ before)
Appends most old old_stopped entry new new_stopped before after (Err Full) =
    (old_stopped ≡ false) × (most ≤ length old) × (new ≡ old) × (new_stopped ≡ false) × (after ≡ before)

-- the numbers and names of faults
abbrev pub store_fault_number : StoreFault → ℕ
store_fault_number Stopped = 26
store_fault_number (Damaged k) = 43
store_fault_number DeviceFailed = 45
store_fault_number OutOfMemory = 46
store_fault_number Full = 52

abbrev pub store_fault_name : StoreFault → List ℕ
store_fault_name Stopped = codes "Stopped"
store_fault_name (Damaged k) = codes "Damaged"
store_fault_name DeviceFailed = codes "DeviceFailed"
store_fault_name OutOfMemory = codes "OutOfMemory"
store_fault_name Full = codes "Full"

-- the answer 26
abbrev pub is_stopped : StoreFault → Bool
is_stopped Stopped = true
is_stopped (Damaged k) = false
is_stopped DeviceFailed = false
is_stopped OutOfMemory = false
is_stopped Full = false

-- Only 46 counts as a refusal of memory.
abbrev pub is_out_of_memory : StoreFault → Bool
is_out_of_memory Stopped = false
is_out_of_memory (Damaged k) = false
is_out_of_memory DeviceFailed = false
is_out_of_memory OutOfMemory = true
is_out_of_memory Full = false

-- Only 45 counts as a failure of the device.
abbrev pub is_device_failed : StoreFault → Bool
is_device_failed Stopped = false
is_device_failed (Damaged k) = false
is_device_failed DeviceFailed = true
is_device_failed OutOfMemory = false
is_device_failed Full = false

-- the slot that answer 43 names
abbrev pub unreadable_slot : StoreFault → List ℕ
unreadable_slot Stopped = []
unreadable_slot (Damaged k) = k ∷ []
unreadable_slot DeviceFailed = []
unreadable_slot OutOfMemory = []
unreadable_slot Full = []

abbrev pub is_fault : {A E : Type 0} → (is_kind : E → Bool) → Result A E → Bool
is_fault is_kind (Ok _) = false
is_fault is_kind (Err fault) = is_kind fault

-- What a refusal names is added to a list's head; nothing else is.
abbrev pub Collects : {A E T : Type 0} (named_by : E → List T) (before after : List T) → Result A E → Type 0
Collects named_by before after (Ok _) = after ≡ before
Collects named_by before after (Err fault) = after ≡ named_by fault ++ before

-- A load's slot is added to a list's head, unless the answer is of this kind.
abbrev pub AddsLoad : {A E : Type 0} (had_stopped : E → Bool) (k : ℕ) (before after : List ℕ) → Result A E → Type 0
AddsLoad had_stopped k before after (Ok _) = after ≡ k ∷ before
AddsLoad had_stopped k before after (Err fault) = after ≡ (if had_stopped fault then before else k ∷ before)

-- A record that a load gives is added to a list's end; nothing else is.
abbrev pub AddsGiven : {E : Type 0} (before after : List Record) → Result (Option Record) E → Type 0
AddsGiven before after (Ok (Some entry)) = after ≡ before ++ entry ∷ []
AddsGiven before after (Ok None) = after ≡ before
AddsGiven before after (Err fault) = after ≡ before

-- the record that load may give: over an honest device record k, else any
abbrev pub IsRecordAt : Bool → List Record → ℕ → Record → Type 0
IsRecordAt true list k entry = slice_get list k ≡ Some entry
IsRecordAt false list k entry = Unit {0}

-- What a load does, by its answer. Over an honest device each record can be read.
abbrev pub Loads : (honest : Bool) (list : List Record) (old_stopped : Bool) (k : ℕ)
    (new_stopped : Bool) (failures_before failures_after : ℕ) → Result (Option Record) StoreFault → Type 0
Loads honest list old_stopped k new_stopped before after (Ok None) =
    (old_stopped ≡ false) × (length list ≤ k) × (new_stopped ≡ false) × (after ≡ before)
Loads honest list old_stopped k new_stopped before after (Ok (Some entry)) =
    (old_stopped ≡ false) × (k < length list) × IsRecordAt honest list k entry × (new_stopped ≡ false)
    × (after ≡ before)
Loads honest list old_stopped k new_stopped before after (Err Stopped) =
    (old_stopped ≡ true) × (new_stopped ≡ true) × (after ≡ before)
Loads honest list old_stopped k new_stopped before after (Err (Damaged slot)) =
    (old_stopped ≡ false) × (honest ≡ false) × (slot ≡ k) × (k < length list) × (new_stopped ≡ false) × (after ≡ before)
Loads honest list old_stopped k new_stopped before after (Err DeviceFailed) =
    (old_stopped ≡ false) × (new_stopped ≡ true) × (after ≡ before + 1)
Loads honest list old_stopped k new_stopped before after (Err OutOfMemory) =
    (old_stopped ≡ false) × (new_stopped ≡ false) × (after ≡ before)
Loads honest list old_stopped k new_stopped before after (Err Full) = ⊥

-- What reading a tag does, by its answer.
abbrev pub ReadsTag : {A : Type 0} (old_stopped new_stopped : Bool) (failures_before failures_after : ℕ)
    → Result A StoreFault → Type 0
ReadsTag old_stopped new_stopped before after (Ok _) = (old_stopped ≡ false) × (new_stopped ≡ false) × (after ≡ before)
ReadsTag old_stopped new_stopped before after (Err Stopped) = (old_stopped ≡ true) × (new_stopped ≡ true)
    × (after ≡ before)
ReadsTag old_stopped new_stopped before after (Err DeviceFailed) = (old_stopped ≡ false) × (new_stopped ≡ true)
    × (after ≡ before + 1)
ReadsTag old_stopped new_stopped before after (Err fault) = ⊥
