-- A store over a disk: what callers see of it, and what an opening and a new file give.
use Rattle.std.specs.Prelude.{Bool, List, Result, Ok, Err, ◌≡◌, ◌↔◌, ℕ, false, [], IfErr, IfOk, IsTrue, OnOk, length}
use Rattle.std.specs.Prelude.{max}
use Rattle.state_file.specs.declared.disk.Disk as disk
use Rattle.state_file.specs.declared.store.file_store.FileStore.{FileStore}
use Rattle.state_file.specs.declared.record.Record.{Record}
use Rattle.state_file.specs.declared.refused.Refused.{Refused}
use Rattle.state_file.specs.File.{IsLongerThanAppended, SpellsRecords, StandsFor, LeftLists}
use Rattle.state_file.specs.Disk.{LeavesOnly, MayLeave}
use Rattle.state_file.specs.DiskCalls.{CountsFailures}
use Rattle.state_file.specs.Format.{Formats, LeftByFormat, is_failed_format}
use Rattle.state_file.specs.Opening.{ReportsContent, Settles, is_failed_opening}
use Rattle.state_file.specs.Store.{WhileRunning}
use Rattle.state_file.specs.declared.file.format.FormatFault.{FormatFault}
use Rattle.state_file.specs.declared.file.opening.OpenFault.{OpenFault}

abbrev pub disk_of : {D : Type 0} {bound : _} → FileStore D bound → D
disk_of store = store.disk

abbrev pub records_of : {D : Type 0} {bound : _} → FileStore D bound → List Record
records_of store = store.records

-- whether a call has failed, so that no other is answered
abbrev pub has_stopped : {D : Type 0} {bound : _} → FileStore D bound → Bool
has_stopped store = store.stopped

-- whether the file, when it was opened, had bytes behind what an append can leave
abbrev pub has_bytes_behind : {D : Type 0} {bound : _} → FileStore D bound → Bool
has_bytes_behind store = store.behind

abbrev pub WhileStoreRuns : {D : Type 0} {bound : _} (d : disk.Ghosts D) (store : FileStore D bound) → Type 0 → Type 0
WhileStoreRuns d store Then = WhileRunning (d.honest (disk_of store)) (has_stopped store) Then

-- What a crash leaves at any moment from the old store on stands for lists that have P. A content that stands for no
-- list counts as every list.
abbrev pub LeavesLists : {D : Type 0} {bound : _} (d : disk.Ghosts D) (old new : FileStore D bound)
    (P : List Record → Type 0) → Type 0
LeavesLists d old new P =
    LeavesOnly (λ store. d.moment (disk_of store)) (λ store. LeftLists (d.left_since (disk_of store))) old new P

-- slots that load reported as unreadable, the last one first
abbrev pub unreadable_of : {D : Type 0} {bound : _} → FileStore D bound → List ℕ
unreadable_of store = store.unreadable

-- slots that load was asked for, the last one first
abbrev pub loads_of : {D : Type 0} {bound : _} → FileStore D bound → List ℕ
loads_of store = store.loads

-- records that load gave, the first one first
abbrev pub given_of : {D : Type 0} {bound : _} → FileStore D bound → List Record
given_of store = store.given

-- the disk afterwards: the store's, or the one in a refusal
abbrev pub disk_of_result : {D F : Type 0} {bound : _} → Result (FileStore D bound) (Refused D F) → D
disk_of_result (Ok store) = store.disk
disk_of_result (Err refused) = refused.given

-- the answer, without what a refusal gives back
abbrev pub outcome_of : {A T F : Type 0} → Result A (Refused T F) → Result A F
outcome_of (Ok a) = Ok a
outcome_of (Err refused) = Err refused.fault

-- A disk's records were found, or why there are none. The disk is synced, its content stays, and meanwhile a crash
-- leaves only what it could leave before.
pub record FindsRecords {D : Type 0} {bound : _} (d : disk.Ghosts D) (given : D)
    (result : Result (FileStore D bound) (Refused D OpenFault)) : Type 0 where
  pub records : IsTrue (d.honest given)
      → IfOk result (λ found. SpellsRecords (d.state given).content (records_of found))
  pub running : IfOk result (λ found. has_stopped found ≡ false)
  pub unreadable : IfOk result (λ found. unreadable_of found ≡ [])
  pub loads : IfOk result (λ found. loads_of found ≡ [])
  pub records_given : IfOk result (λ found. given_of found ≡ [])
  pub behind : IsTrue (d.honest given)
      → IfOk result (λ found. IsTrue (has_bytes_behind found)
      ↔ IsLongerThanAppended (length (records_of found)) (d.state given).content)
  pub fault : IsTrue (d.honest given)
      → IfErr result (λ refused. ReportsContent (d.state given).content refused.fault)
  pub moments : IsTrue (d.honest given)
      → LeavesOnly d.moment d.left_since given (disk_of_result result) (MayLeave (d.state given))
  pub settled : IsTrue (d.honest given)
      → Settles (d.state given).content (d.state (disk_of_result result)) (outcome_of result)
  pub failures : CountsFailures d is_failed_opening given (disk_of_result result) (outcome_of result)

-- A disk was prepared for a key, or refused. An honest one then has no slot, and a closed gate. Meanwhile a crash
-- leaves what it could leave before, or no key.
pub record PreparesDisk {D : Type 0} {bound : _} (d : disk.Ghosts D) (given : D)
    (result : Result (FileStore D bound) (Refused D FormatFault)) : Type 0 where
  pub records : IfOk result (λ prepared. records_of prepared ≡ [])
  pub running : IfOk result (λ prepared. has_stopped prepared ≡ false)
  pub unreadable : IfOk result (λ prepared. unreadable_of prepared ≡ [])
  pub loads : IfOk result (λ prepared. loads_of prepared ≡ [])
  pub records_given : IfOk result (λ prepared. given_of prepared ≡ [])
  pub behind : IfOk result (λ prepared. has_bytes_behind prepared ≡ false)
  pub answer : IsTrue (d.honest given)
      → Formats (d.state given).content (d.state (disk_of_result result)) (outcome_of result)
  pub len : IsTrue (d.honest given)
      → OnOk result (length (d.state (disk_of_result result)).content ≡ max (length (d.state given).content) 1)
  pub moments : IsTrue (d.honest given)
      → LeavesOnly d.moment d.left_since given (disk_of_result result) (LeftByFormat (d.state given))
  pub failures : CountsFailures d is_failed_format given (disk_of_result result) (outcome_of result)

-- ---- laws

-- While a store runs, a crash between two calls leaves its records: a content that spells them, or, where there are
-- none, one without a key.
pub record StoreLaw {D : Type 0} (d : disk.Ghosts D) : Type 0 where
  pub leaves : (store : FileStore D d) (c : List ℕ) → WhileStoreRuns d store
      (d.left_since (disk_of store) (d.moment (disk_of store)) c → StandsFor (records_of store) c)
