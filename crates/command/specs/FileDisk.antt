-- How a disk reads and writes a file of the machine: each call may do only a part of what is requested.
use Rattle.std.specs.Prelude.{ℕ, Bool, true, List, ◌≡◌, ◌+◌, ◌-◌, [], ◌∷◌, ◌++◌, ◌≤◌, ◌^◌, ◌⊎◌, length, drop}
use Rattle.std.specs.Prelude.{Result, Ok, Err}
use Rattle.std.specs.declared.io.ErrorKind.{ErrorKind}
use Rattle.state_file.specs.Disk.{DiskState}
use Rattle.state_file.specs.declared.disk.DiskFault.{DiskFault}
use Rattle.state_file.specs.declared.disk.DiskFault.TheVariants.{Failed, PastEnd, OutOfMemory}
use Rattle.typecodes.specs.Message.{GivesAll, GivesText, ReadFails, Transition, size_of}
use Rattle.command.specs.declared.file_disk.FileDisk.{FileDisk}
use Rattle.command.specs.declared.offset_file.OffsetFile as offset_file
use Rattle.command.specs.declared.refusal.Refusal.{Refusal}
use Rattle.command.specs.declared.refusal.Refusal.TheVariants.{FileFailed, Locked}
use Rattle.command.specs.declared.state.StateAlarm.{StateAlarm}
use Rattle.command.specs.declared.state.StateFile.{StateFile}
use Rattle.command.specs.StateFile.{IsOpenedAt}
use Rattle.command.specs.Trace.{Happening, measured, read_at, synced, written_at}

abbrev pub file_of : {F : Type 0} → FileDisk F → F
file_of disk = disk.file

-- calls that the disk refused
abbrev pub failures_of : {F : Type 0} → FileDisk F → ℕ
failures_of disk = disk.failures

-- reads past the end among them
abbrev pub past_ends_of : {F : Type 0} → FileDisk F → ℕ
past_ends_of disk = disk.past_ends

-- whether the disk's file is honest, and its state, moment and leavings
abbrev pub honest_of : {F : Type 0} → offset_file.Ghosts F → FileDisk F → Bool
honest_of f disk = f.honest disk.file

abbrev pub state_of : {F : Type 0} → offset_file.Ghosts F → FileDisk F → DiskState
state_of f disk = f.state disk.file

abbrev pub moment_of : {F : Type 0} → offset_file.Ghosts F → FileDisk F → ℕ
moment_of f disk = f.moment disk.file

abbrev pub left_since_of : {F : Type 0} → offset_file.Ghosts F → FileDisk F → ℕ → List ℕ → Type 0
left_since_of f disk = f.left_since disk.file

-- the slots that an alarm was told of, the last one first
abbrev pub slots_of : StateAlarm → List ℕ
slots_of alarm = alarm.slots

-- The state file can't be opened (53), or is locked (54).
abbrev pub IsStateRefusal : Refusal → Type 0
IsStateRefusal refusal = (refusal ≡ FileFailed) ⊎ (refusal ≡ Locked)

-- The state file at this path was opened and locked, and nothing happened to it yet; or it was refused.
abbrev pub OpensState : {F : Type 0} → (path : List ℕ) → Result (StateFile F) Refusal → Type 0
OpensState path (Ok file) = IsOpenedAt path file × (file.is_locked ≡ true)
OpensState path (Err refusal) = IsStateRefusal refusal

-- As `OpensState`, without a lock, so that 54 can't come.
abbrev pub OpensUnlocked : {F : Type 0} → (path : List ℕ) → Result (StateFile F) Refusal → Type 0
OpensUnlocked path (Ok file) = IsOpenedAt path file
OpensUnlocked path (Err refusal) = refusal ≡ FileFailed

-- ---- a part of the bytes, and then the rest

-- how many of the bytes are done, and what happened to the file
abbrev pub Stage : Type 0
Stage = ℕ × List Happening

-- A read requests all of the rest, at its offset.
abbrev pub ReadsRest : (at room : ℕ) → Transition Stage
ReadsRest at room (done, old) outcome (after, new) =
    (after ≡ done + size_of outcome) × (new ≡ old ++ read_at (at + done) (room - done) outcome ∷ [])

-- A write offers all of the rest, at its offset.
abbrev pub WritesRest : (at : ℕ) (bytes : List ℕ) → Transition Stage
WritesRest at bytes (done, old) outcome (after, new) =
    (after ≡ done + size_of outcome) × (new ≡ old ++ written_at (at + done) (drop done bytes) outcome ∷ [])

-- A call failed.
abbrev pub Breaks : {M : Type 0} → Transition M → M → M → Type 0
Breaks step old new = ReadFails step old new

-- The range ends at 2^64 or beyond, so no call was made.
abbrev pub EndsBeyond : (at size : ℕ) (old new : List Happening) → Type 0
EndsBeyond at size old new = (2 ^ 64 ≤ at + size) × (new ≡ old)

-- ---- the calls of the disk

-- These bytes were read at an offset. Or the file ended before them, or a read failed, or no file is so long.
abbrev pub ReadsAt : {A : Type 0} → (at : ℕ) (bytes : List ℕ) → Result A DiskFault → (old new : List Happening)
    → Type 0
ReadsAt at bytes (Ok _) old new =
    GivesText (ReadsRest at (length bytes)) bytes (0, old) (length bytes, new)
ReadsAt at bytes (Err PastEnd) old new =
    (done : ℕ) × (first : List ℕ) × GivesAll (ReadsRest at (length bytes)) first (0, old) (done, new)
ReadsAt at bytes (Err Failed) old new = EndsBeyond at (length bytes) old new
    ⊎ ((done : ℕ) × Breaks (ReadsRest at (length bytes)) (0, old) (done, new))
ReadsAt at bytes (Err OutOfMemory) old new = ⊥

-- These bytes were written at an offset. Or a write took nothing, or failed.
abbrev pub WritesAt : {A : Type 0} → (at : ℕ) (bytes : List ℕ) → Result A DiskFault → (old new : List Happening)
    → Type 0
WritesAt at bytes (Ok _) old new = GivesText (WritesRest at bytes) bytes (0, old) (length bytes, new)
WritesAt at bytes (Err Failed) old new = EndsBeyond at (length bytes) old new
    ⊎ ((done : ℕ) × (first : List ℕ) × GivesAll (WritesRest at bytes) first (0, old) (done, new))
    ⊎ ((done : ℕ) × Breaks (WritesRest at bytes) (0, old) (done, new))
WritesAt at bytes (Err PastEnd) old new = ⊥
WritesAt at bytes (Err OutOfMemory) old new = ⊥

-- One call asked for the length, and this is the answer.
abbrev pub Measures : Result ℕ DiskFault → (old new : List Happening) → Type 0
Measures (Ok n) old new = new ≡ old ++ measured (Ok n) ∷ []
Measures (Err fault) old new = (fault ≡ Failed) × (kind : ErrorKind) × (new ≡ old ++ measured (Err kind) ∷ [])

-- One call synced the content and the length.
abbrev pub SyncsAll : Result Unit DiskFault → (old new : List Happening) → Type 0
SyncsAll (Ok _) old new = new ≡ old ++ synced (Ok tt) ∷ []
SyncsAll (Err fault) old new = (fault ≡ Failed) × (kind : ErrorKind) × (new ≡ old ++ synced (Err kind) ∷ [])
