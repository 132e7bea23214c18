-- The old file's records, which were read once, and judged.
use Rattle.std.proofs.Common.{◌≡◌, inr, ℕ, ◌+◌, false, List, Some, None, Ok, Err, refl, sym, ap, ◌∙◌}
use Rattle.std.specs.Prelude.{if◌then◌else◌, slice_get}
use Rattle.state_file.specs.declared.disk.Disk as disk
use Rattle.state_file.specs.declared.migration.MigrateFault.{MigrateFault}
use Rattle.state_file.specs.declared.migration.MigrateFault.TheVariants.{Stopped, NoKey, NotKeyFile, Version as VersionFault, Damaged, Illegal, DeviceFailed, OutOfMemory, KeyThere, Full}
use Rattle.state_file.specs.declared.record.Record.{Record}
use Rattle.state_file.specs.declared.record.Record.TheVariants.{Key as KeyRecord}
use Rattle.state_file.specs.declared.store.file_store.FileStore.{FileStore}
use Rattle.state_file.specs.Disk.{DiskState, settled}
use Rattle.state_file.specs.File.{SpellsRecords}
use Rattle.state_file.specs.FileStore.{FindsRecords, disk_of, records_of}
use Rattle.state_file.specs.MigrateFault.{is_failed_migration}
use Rattle.sign_core.specs.inner.OldFile.{JudgesRecords, KeepsContent, OpensOld, RefusesOld, RefusesRecords}
use Rattle.sign_core.specs.OldFile.{ReportsOld}

module _ {D : Type 0} (d : disk.Ghosts D) where
  -- ---- the old place

  keeps_settled : (content : List ℕ) (after : DiskState) (fault : MigrateFault) → after ≡ settled content → KeepsContent {A = FileStore D d} content after (Err fault)
  keeps_settled content after DeviceFailed same = tt
  keeps_settled content after NoKey same = same
  keeps_settled content after NotKeyFile same = same
  keeps_settled content after VersionFault same = same
  keeps_settled content after (Damaged k) same = same
  keeps_settled content after (Illegal k) same = same
  keeps_settled content after OutOfMemory same = same
  keeps_settled content after Stopped same = same
  keeps_settled content after KeyThere same = same
  keeps_settled content after Full same = same

  reports_old : (content : List ℕ) (records : List Record) (fault : MigrateFault) → SpellsRecords content records → RefusesRecords records fault
      → ReportsOld content fault
  reports_old content records NoKey spelled refuses =
      let first : None ≡ Some (KeyRecord spelled.first.0) = ap (λ l. slice_get l 0) (sym refuses) ∙ spelled.first.1 in absurd (cc)
  reports_old content records VersionFault spelled refuses = inr (records, spelled, refuses.0, refuses.1)
  reports_old content records (Illegal k) spelled refuses = (records, spelled, refuses)
  reports_old content records OutOfMemory spelled refuses = (records, spelled, refuses)
  reports_old content records DeviceFailed spelled refuses = absurd refuses
  reports_old content records Stopped spelled refuses = absurd refuses
  reports_old content records NotKeyFile spelled refuses = absurd refuses
  reports_old content records (Damaged k) spelled refuses = absurd refuses
  reports_old content records KeyThere spelled refuses = absurd refuses
  reports_old content records Full spelled refuses = absurd refuses

  refuses_old : (records : List Record) (fault : MigrateFault) → RefusesRecords records fault → RefusesOld fault × (is_failed_migration fault ≡ false)
  refuses_old records NoKey refuses = (tt, refl)
  refuses_old records VersionFault refuses = (tt, refl)
  refuses_old records (Illegal k) refuses = (tt, refl)
  refuses_old records OutOfMemory refuses = (tt, refl)
  refuses_old records DeviceFailed refuses = absurd refuses
  refuses_old records Stopped refuses = absurd refuses
  refuses_old records NotKeyFile refuses = absurd refuses
  refuses_old records (Damaged k) refuses = absurd refuses
  refuses_old records KeyThere refuses = absurd refuses
  refuses_old records Full refuses = absurd refuses

  -- the records of an opened store were judged
  module _ (given : D) (found : FileStore D d) (finds : FindsRecords {bound = d} d given (Ok found)) where
    pub judged_movable : {A : Type 0} (x : A) → JudgesRecords (records_of found) (Ok x) → OpensOld d given (Ok found)
    judged_movable x fit = record {
      found = λ honest. record { spelled = finds.records honest; legal = fit.0; version = fit.1 };
      refuses = tt;
      reports = λ honest. tt;
      running = finds.running;
      keeps = finds.settled;
      moments = finds.moments;
      counts = record { failures = finds.failures.failures; past_ends = finds.failures.past_ends; honest = finds.failures.honest };
    }

    pub judged_refused : (fault : MigrateFault) → RefusesRecords (records_of found) fault
        → OpensOld d given (Err (record { fault = fault; given = disk_of found }))
    judged_refused fault refuses =
        let (kind, unfailed) = refuses_old (records_of found) fault refuses in record {
          found = λ honest. tt;
          refuses = kind;
          reports = λ honest. reports_old (d.state given).content (records_of found) fault (finds.records honest) refuses;
          running = tt;
          keeps = λ honest. keeps_settled (d.state given).content (d.state (disk_of found)) fault (finds.settled honest);
          moments = finds.moments;
          counts = record {
            failures = finds.failures.failures ∙ ap (λ b. if b then d.failures given + 1 else d.failures given) (sym unfailed);
            past_ends = finds.failures.past_ends;
            honest = finds.failures.honest;
          };
        }
