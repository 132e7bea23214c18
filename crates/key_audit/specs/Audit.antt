-- What an audit of a state file answers: what its records say of the key, and whether they fit an anchor.
use Rattle.std.specs.Prelude.{◌≡◌, ◌⊎◌, ℕ, ◌-◌, ◌<◌, ◌≤◌, Bool, true, false, ◌||◌, IsTrue, List, [], ◌∷◌, ◌++◌}
use Rattle.std.specs.Prelude.{codes, length, take, Option, Some, None, IsSome, Result, Ok, Err, if◌then◌else◌}
use Rattle.state_file.specs.declared.disk.Disk as disk
use Rattle.state_file.specs.declared.record.Key.{Key}
use Rattle.state_file.specs.declared.record.Record.{Record}
use Rattle.state_file.specs.declared.store.file_store.FileStore.{FileStore}
use Rattle.state_file.specs.DiskCalls.{CountsFailures, OnlyReads}
use Rattle.state_file.specs.File.{tag_at}
use Rattle.state_file.specs.FileStore.{WhileStoreRuns, disk_of, given_of, has_stopped, loads_of, records_of}
use Rattle.state_file.specs.FileStore.{unreadable_of}
use Rattle.state_file.specs.Laws.{IsLegal}
use Rattle.state_file.specs.Store.{Collects}
pub use Rattle.state_file.specs.Store.{is_fault}
use Rattle.sign_core.specs.Once.{public_of_key}
use Rattle.sign_core.specs.Records.{first_illegal, free_counts, has_moved, the_key}
use Rattle.key_audit.specs.declared.report.Anchor.{Anchor}
use Rattle.key_audit.specs.declared.report.AuditFault.{AuditFault}
use Rattle.key_audit.specs.declared.report.AuditFault.TheVariants.{Stopped, NoKey, Damaged, Illegal, DeviceFailed}
use Rattle.key_audit.specs.declared.report.AuditFault.TheVariants.{OutOfMemory, AnchorCount, AnchorTag}
use Rattle.key_audit.specs.declared.report.Report.{Report}
use Rattle.key_audit.specs.Tags.{IsTag}

abbrev pub audit_fault_number : AuditFault → ℕ
audit_fault_number Stopped = 26
audit_fault_number NoKey = 40
audit_fault_number (Damaged k) = 43
audit_fault_number (Illegal k) = 44
audit_fault_number DeviceFailed = 45
audit_fault_number OutOfMemory = 46
audit_fault_number AnchorCount = 47
audit_fault_number AnchorTag = 48

-- the name that is printed beside it
abbrev pub audit_fault_name : AuditFault → List ℕ
audit_fault_name Stopped = codes "Stopped"
audit_fault_name NoKey = codes "NoKey"
audit_fault_name (Damaged slot) = codes "Damaged"
audit_fault_name (Illegal slot) = codes "Illegal"
audit_fault_name DeviceFailed = codes "DeviceFailed"
audit_fault_name OutOfMemory = codes "OutOfMemory"
audit_fault_name AnchorCount = codes "AnchorCount"
audit_fault_name AnchorTag = codes "AnchorTag"

-- ---- what it does to the store

abbrev pub is_stopped : AuditFault → Bool
is_stopped Stopped = true
is_stopped _ = false

abbrev pub is_device_failed : AuditFault → Bool
is_device_failed DeviceFailed = true
is_device_failed _ = false

-- the slot that answer 43 names
abbrev pub unreadable_slot : AuditFault → List ℕ
unreadable_slot (Damaged k) = k ∷ []
unreadable_slot _ = []

-- Only reads: the store's records stay, and where the disk is honest its content, at every moment. Each failure of the
-- disk is counted and answered by 45, and stops the store. A store that had stopped answers 26, unchanged. The list of
-- unreadable slots grows by k at answer 43 of k, else it stays.
pub record ReadsStore {D A : Type 0} (d : disk.Ghosts D) (old new : FileStore D d) (answer : Result A AuditFault)
    : Type 0 where
  pub records : records_of new ≡ records_of old
  pub reads : WhileStoreRuns d old (OnlyReads d.state d.moment d.left_since (disk_of old) (disk_of new))
  pub counts : CountsFailures d is_device_failed (disk_of old) (disk_of new) answer
  pub was_stopped : has_stopped old ≡ is_fault is_stopped answer
  pub stopped : has_stopped new ≡ (is_fault is_device_failed answer || has_stopped old)
  pub stays : has_stopped old ≡ true → new ≡ old
  pub unreadable : Collects unreadable_slot (unreadable_of old) (unreadable_of new) answer

-- ---- what the records say

-- the version of the file that carries the records on, if one does
abbrev pub moved_version : List Record → Option ℕ
moved_version records = if has_moved records then Some 2 else None

-- The report says of these records: the public key, their number, the free leaves of each level's current tree, and
-- whether they go on elsewhere.
pub record Reports (records : List Record) (report : Report) : Type 0 where
  pub public_is : public_of_key (the_key records) ≡ Some report.public
  pub count : report.records ≡ length records
  pub left_are : (key : Key) → the_key records ≡ Some key → report.left.items ≡ free_counts key.secret records
  pub moved_is : report.moved ≡ moved_version records

-- ---- anchors

-- The anchor, if given, counts at least one record, and no more than there are.
abbrev pub AnchorFits : Option Anchor → List Record → Type 0
AnchorFits None records = Unit {0}
AnchorFits (Some anchor) records = (0 < anchor.count) × (anchor.count ≤ length records)

-- An anchor is given that counts none, or more than there are.
abbrev pub IsBeyond : Option Anchor → List Record → Type 0
IsBeyond None records = ⊥
IsBeyond (Some anchor) records = (anchor.count ≡ 0) ⊎ (length records < anchor.count)

-- The last record that the anchor counts, if one is given, has its tag.
abbrev pub IsTagged : (IsTagOf : ℕ → List ℕ → Type 0) → Option Anchor → Type 0
IsTagged IsTagOf None = Unit {0}
IsTagged IsTagOf (Some anchor) = IsTagOf (anchor.count - 1) anchor.tag

abbrev pub IsSlotTag : {D : Type 0} (d : disk.Ghosts D) → D → ℕ → List ℕ → Type 0
IsSlotTag d on k tag = tag ≡ tag_at (d.state on).content k

-- ---- the answer

-- The answer about these records, tags aside. Legality comes before the anchor's count, and that before its tag. 46
-- needs a record, and 43 a disk that isn't honest.
abbrev pub Judges : (honest : Bool) → List Record → Option Anchor → Result Report AuditFault → Type 0
Judges honest records anchor (Ok report) = IsLegal records × AnchorFits anchor records × Reports records report
Judges honest records anchor (Err Stopped) = Unit {0}
Judges honest records anchor (Err NoKey) = records ≡ []
Judges honest records anchor (Err (Damaged k)) = (honest ≡ false) × (k < length records)
Judges honest records anchor (Err (Illegal k)) = first_illegal records ≡ Some k
Judges honest records anchor (Err DeviceFailed) = Unit {0}
Judges honest records anchor (Err OutOfMemory) = 0 < length records
Judges honest records anchor (Err AnchorCount) = IsLegal records × IsBeyond anchor records
Judges honest records anchor (Err AnchorTag) = IsLegal records × IsSome anchor × AnchorFits anchor records

-- What the answer says of tags: Ok, the report's and the anchor's are right; 48, the anchor's isn't.
abbrev pub AreTags : (IsTagOf : ℕ → List ℕ → Type 0) → Option Anchor → Result Report AuditFault → Type 0
AreTags IsTagOf anchor (Ok report) = IsTagOf (report.records - 1) report.tag × IsTagged IsTagOf anchor
AreTags IsTagOf anchor (Err AnchorTag) = IsTagged IsTagOf anchor → ⊥
AreTags IsTagOf anchor (Err _) = Unit {0}

-- An audit reads the store and judges what it loads: as many records as the store has, and over an honest disk the same
-- ones. There the tags are those of the slots (`tags`), and of the records by themselves (`by_records`).
pub record Audits {D : Type 0} (d : disk.Ghosts D) (old new : FileStore D d) (anchor : Option Anchor)
    (answer : Result Report AuditFault) : Type 0 where
  pub store : ReadsStore d old new answer
  pub loaded : List Record
  pub same_count : length loaded ≡ length (records_of old)
  pub same : IsTrue (d.honest (disk_of old)) → loaded ≡ records_of old
  pub judges : Judges (d.honest (disk_of old)) loaded anchor answer
  pub tags : IsTrue (d.honest (disk_of old)) → AreTags (IsSlotTag d (disk_of old)) anchor answer
  pub by_records : IsTrue (d.honest (disk_of old)) → AreTags (IsTag (records_of old)) anchor answer

-- An audit by records that a replay took: they are the store's, and none is loaded.
pub record AuditsReplayed {D : Type 0} (d : disk.Ghosts D) (old new : FileStore D d) (anchor : Option Anchor)
    (answer : Result Report AuditFault) : Type 0 where
  pub audits : Audits d old new anchor answer
  pub own : audits.loaded ≡ records_of old
  pub loads : loads_of new ≡ loads_of old
  pub given : given_of new ≡ given_of old
  -- so 43 doesn't come
  pub unreadable : unreadable_of new ≡ unreadable_of old

-- ---- what holds of audits

abbrev pub anchor_of : Report → Anchor
anchor_of report = record { count = report.records; tag = report.tag }

-- The fault isn't about records: the store had stopped, its disk failed, or memory was refused.
abbrev pub IsOutsideRecords : AuditFault → Type 0
IsOutsideRecords Stopped = Unit {0}
IsOutsideRecords DeviceFailed = Unit {0}
IsOutsideRecords OutOfMemory = Unit {0}
IsOutsideRecords _ = ⊥

pub record AuditLaw : Type 0 where
  -- legal records that fit the anchor are refused only for reasons outside them
  pub accepts : (records : List Record) (anchor : Option Anchor) (fault : AuditFault) → IsLegal records
      → AnchorFits anchor records → IsTagged (IsTag records) anchor → Judges true records anchor (Err fault)
      → AreTags (IsTag records) anchor (Err fault) → IsOutsideRecords fault
  -- a report is an anchor that its records fit, whatever records follow
  pub anchors : (honest : Bool) (records more : List Record) (anchor : Option Anchor) (report : Report)
      → Judges honest records anchor (Ok report) → AreTags (IsTag records) anchor (Ok report)
      → AnchorFits (Some (anchor_of report)) (records ++ more)
      × IsTagged (IsTag (records ++ more)) (Some (anchor_of report))
  -- fewer records don't fit it
  pub put_back : (honest : Bool) (records : List Record) (anchor : Option Anchor) (report : Report) (n : ℕ)
      → Judges honest records anchor (Ok report) → n < length records
      → IsBeyond (Some (anchor_of report)) (take n records)
