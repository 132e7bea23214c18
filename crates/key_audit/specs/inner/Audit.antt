-- What a store answers to an anchor.
use Rattle.std.specs.Prelude.{◌≡◌, ℕ, Bool, IsTrue, List, Option, IsSome, Result, Ok, Err}
use Rattle.state_file.specs.declared.disk.Disk as disk
use Rattle.state_file.specs.declared.record.Record.{Record}
use Rattle.state_file.specs.declared.store.file_store.FileStore.{FileStore}
use Rattle.state_file.specs.FileStore.{disk_of, records_of}
use Rattle.key_audit.specs.declared.report.Anchor.{Anchor}
use Rattle.key_audit.specs.declared.report.AuditFault.{AuditFault}
use Rattle.key_audit.specs.declared.report.AuditFault.TheVariants.{Stopped, DeviceFailed, AnchorCount, AnchorTag}
use Rattle.key_audit.specs.declared.report.Report.{Report}
use Rattle.key_audit.specs.Audit.{Audits, IsBeyond, IsSlotTag, IsTagged, AnchorFits, ReadsStore}
use Rattle.key_audit.specs.inner.Loading.{KeepsLoads}

-- The anchor, if given, fits the store's records, or this is why not.
abbrev pub FitsAnchor : (IsTagOf : ℕ → List ℕ → Type 0) → (honest : Bool) → List Record → Option Anchor
    → Result (Unit {0}) AuditFault → Type 0
FitsAnchor IsTagOf honest list anchor (Ok _) = AnchorFits anchor list × (IsTrue honest → IsTagged IsTagOf anchor)
FitsAnchor IsTagOf honest list anchor (Err Stopped) = Unit {0}
FitsAnchor IsTagOf honest list anchor (Err DeviceFailed) = Unit {0}
FitsAnchor IsTagOf honest list anchor (Err AnchorCount) = IsBeyond anchor list
FitsAnchor IsTagOf honest list anchor (Err AnchorTag) =
    IsSome anchor × AnchorFits anchor list × (IsTrue honest → IsTagged IsTagOf anchor → ⊥)
FitsAnchor IsTagOf honest list anchor (Err _) = ⊥

pub record ChecksAnchor {D : Type 0} (d : disk.Ghosts D) (old new : FileStore D d) (anchor : Option Anchor)
    (answer : Result (Unit {0}) AuditFault) : Type 0 where
  pub store : ReadsStore d old new answer
  pub loads : KeepsLoads old new
  pub fits : FitsAnchor (IsSlotTag d (disk_of old)) (d.honest (disk_of old)) (records_of old) anchor answer

-- An audit judges the records that a replay took, and loads none.
pub record JudgesReplay {D : Type 0} (d : disk.Ghosts D) (old new : FileStore D d) (taken : List Record)
    (anchor : Option Anchor) (answer : Result Report AuditFault) : Type 0 where
  pub audits : Audits d old new anchor answer
  pub own : audits.loaded ≡ taken
  pub loads : KeepsLoads old new
