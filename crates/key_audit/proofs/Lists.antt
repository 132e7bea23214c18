-- What a listing answers at each of its ends.
use Rattle.std.proofs.Common.{◌≡◌, ℕ, Bool, false, List, [], ◌∷◌, Some, None, Ok, Err, Result, refl, ap, ◌∙◌, subst, map}
use Rattle.std.specs.Prelude.{IfOk, option_map}
use Rattle.state_file.specs.declared.disk.Disk as disk
use Rattle.state_file.specs.declared.record.Key.{Key}
use Rattle.state_file.specs.declared.record.Record.{Record}
use Rattle.state_file.specs.declared.record.Record.TheVariants as entry
use Rattle.state_file.specs.declared.store.file_store.FileStore.{FileStore}
use Rattle.state_file.specs.Disk.{Counts}
use Rattle.state_file.specs.FileStore.{disk_of, has_stopped, records_of}
use Rattle.state_file.specs.Laws.{IsLegal}
use Rattle.state_file.specs.Store.{Collects}
use Rattle.sign_core.specs.Alarm.{slot_behind}
use Rattle.sign_core.specs.Records.{free_counts, the_key, types_of}
use Rattle.key_audit.specs.declared.listing.Listing.{Listing}
use Rattle.key_audit.specs.declared.report.AuditFault.{AuditFault}
use Rattle.key_audit.specs.declared.report.AuditFault.TheVariants.{Stopped, NoKey, Damaged, Illegal, DeviceFailed, OutOfMemory, AnchorCount, AnchorTag}
use Rattle.key_audit.specs.Audit.{ReadsStore, is_device_failed, is_fault, is_stopped, unreadable_slot}
use Rattle.key_audit.specs.inner.Listing.{ListsRecords}
use Rattle.key_audit.specs.Listing.{AnswersListing, Lists, ListsReplayed, entry_of, shown_of_listing, shown_of_records, shown_of}
use Rattle.key_audit.specs.inner.Loading.{AreLoaded, StopsLoading}
use Rattle.key_audit.proofs.Audits.{refused_alike, stops_judged}
use Rattle.key_audit.proofs.Loads.{OnlyNow, answered, kept_by, kept_first}

pub key_first : (records : List Record) → (legal : IsLegal records) → the_key records ≡ Some legal.key
key_first [] legal = let first = legal.first in absurd cc
key_first (entry.Key key ∷ rest) legal = let first = legal.first in cc
key_first (entry.Extend extend ∷ rest) legal = let first = legal.first in absurd cc
key_first (entry.Bound bound ∷ rest) legal = let first = legal.first in absurd cc
key_first (entry.Retire upto ∷ rest) legal = let first = legal.first in absurd cc
key_first (entry.Moved ∷ rest) legal = let first = legal.first in absurd cc

pub shown_so : (records : List Record) (key : Key) (listing : Listing) → the_key records ≡ Some key → listing.spec ≡ types_of key.secret
    → listing.version ≡ key.version → listing.left.items ≡ free_counts key.secret records → listing.entries.items ≡ map entry_of records
    → shown_of_records records ≡ Some (shown_of_listing listing)
shown_so records key listing is spec version left entries =
    ap (option_map (shown_of records)) is ∙ rw (spec, version, left, entries) refl

-- The answer to loaded records is no failure of the disk.
record IsNoFailure (answer : Result Listing AuditFault) : Type 0 where
  pub not_stopped : is_fault is_stopped answer ≡ false
  pub not_failed : is_fault is_device_failed answer ≡ false
  pub none : (n : ℕ) → Counts is_device_failed n n answer
  pub no_slot : (l : List ℕ) → Collects unreadable_slot l l answer

no_failure : (records : List Record) (answer : Result Listing AuditFault) → ListsRecords records answer → IsNoFailure answer
no_failure records (Ok listing) lists = record { not_stopped = refl; not_failed = refl; none = λ n. refl; no_slot = λ l. refl }
no_failure records (Err NoKey) lists = record { not_stopped = refl; not_failed = refl; none = λ n. refl; no_slot = λ l. refl }
no_failure records (Err (Illegal k)) lists = record { not_stopped = refl; not_failed = refl; none = λ n. refl; no_slot = λ l. refl }
no_failure records (Err OutOfMemory) lists = record { not_stopped = refl; not_failed = refl; none = λ n. refl; no_slot = λ l. refl }
no_failure records (Err Stopped) lists = absurd lists
no_failure records (Err (Damaged k)) lists = absurd lists
no_failure records (Err DeviceFailed) lists = absurd lists
no_failure records (Err AnchorCount) lists = absurd lists
no_failure records (Err AnchorTag) lists = absurd lists

lists_answered : (honest : Bool) (records : List Record) (answer : Result Listing AuditFault) → ListsRecords records answer
    → AnswersListing honest records answer
lists_answered honest records (Ok listing) lists = lists
lists_answered honest records (Err NoKey) lists = lists
lists_answered honest records (Err (Illegal k)) lists = lists
lists_answered honest records (Err OutOfMemory) lists = lists
lists_answered honest records (Err Stopped) lists = absurd lists
lists_answered honest records (Err (Damaged k)) lists = absurd lists
lists_answered honest records (Err DeviceFailed) lists = absurd lists
lists_answered honest records (Err AnchorCount) lists = absurd lists
lists_answered honest records (Err AnchorTag) lists = absurd lists

module _ {D : Type 0} (d : disk.Ghosts D) where
  -- the records weren't loaded
  pub not_listed : {A : Type 0} (old new : FileStore D d) (fault : AuditFault) → ReadsStore {A = A} d old new (Err fault)
      → StopsLoading (d.honest (disk_of old)) (records_of old) fault → Lists d old new (Err fault)
  not_listed old new fault reads stops = record {
    store = refused_alike d old new fault reads;
    loaded = records_of old;
    same_count = refl;
    same = λ honest. refl;
    answers = (stops_judged (d.honest (disk_of old)) (records_of old) None fault stops).0;
    behind = tt;
  }

  -- they were, and this is answered
  pub listed : {A : Type 0} (old new : FileStore D d) (x : A) (records : List Record) (answer : Result Listing AuditFault)
      → ReadsStore d old new (Ok x) → AreLoaded (d.honest (disk_of old)) (records_of old) records → ListsRecords records answer
      → IfOk answer (λ listing. listing.behind ≡ slot_behind old) → Lists d old new answer
  listed old new x records answer reads are lists behind =
      let fine = no_failure records answer lists in record {
        store = answered d old new answer (kept_by d old new x reads) reads.was_stopped fine.not_stopped fine.not_failed fine.none fine.no_slot;
        loaded = records;
        same_count = are.same_count;
        same = are.same;
        answers = lists_answered (d.honest (disk_of old)) records answer lists;
        behind = behind;
      }

  -- a replay took them, and this is answered
  pub listed_replayed : (store : FileStore D d) → OnlyNow d store → (records : List Record) (answer : Result Listing AuditFault) → has_stopped store ≡ false
      → records ≡ records_of store → ListsRecords records answer → IfOk answer (λ listing. listing.behind ≡ slot_behind store)
      → ListsReplayed d store answer
  listed_replayed store only records answer running same lists behind =
      let own = subst (λ l. ListsRecords l answer) same lists in
      let fine = no_failure (records_of store) answer own in record {
        lists = record {
          store = answered d store store answer (kept_first d store only) running fine.not_stopped fine.not_failed fine.none fine.no_slot;
          loaded = records_of store;
          same_count = refl;
          same = λ honest. refl;
          answers = lists_answered (d.honest (disk_of store)) (records_of store) answer own;
          behind = behind;
        };
        own = refl;
      }
