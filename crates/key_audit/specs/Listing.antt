-- What a listing of a state file says of its records. Nothing of it is secret.
use Rattle.std.specs.Prelude.{◌≡◌, ℕ, ◌+◌, List, [], ◌∷◌, length, map, option_map, Bool, Option, Some, Result, Ok, Err}
use Rattle.std.specs.Prelude.{IfOk, IsTrue, None}
use Rattle.state_file.specs.declared.disk.Disk as disk
use Rattle.state_file.specs.declared.record.Key.{Key}
use Rattle.state_file.specs.declared.record.Record.{Record}
use Rattle.state_file.specs.declared.record.Record.TheVariants as entry
use Rattle.state_file.specs.declared.record.Secret.{Secret}
use Rattle.state_file.specs.declared.record.Secret.TheVariants.{Lms, Hss, Xmss}
use Rattle.state_file.specs.declared.record.Version.{Version}
use Rattle.state_file.specs.declared.store.file_store.FileStore.{FileStore}
use Rattle.state_file.specs.FileStore.{disk_of, records_of}
use Rattle.state_file.specs.Laws.{IsLegal}
use Rattle.typecodes.specs.declared.spec.Spec.{Spec}
use Rattle.sign_core.specs.Alarm.{slot_behind}
use Rattle.sign_core.specs.Records.{free_counts, the_key, types_of}
use Rattle.key_audit.specs.declared.listing.Entry.{Entry}
use Rattle.key_audit.specs.declared.listing.Entry.TheVariants.{Key as KeyEntry, Tree, Name, Retired, Moved}
use Rattle.key_audit.specs.declared.listing.Listing.{Listing}
use Rattle.key_audit.specs.declared.report.AuditFault.{AuditFault}
use Rattle.key_audit.specs.declared.report.Report.{Report}
use Rattle.key_audit.specs.Audit.{Judges, ReadsStore, Reports}

-- ---- what records show

-- a record's entry: of a Key nothing; of an Extend its level and the leaf above that signs it; of a Bound its name,
-- leaf and digest
abbrev pub entry_of : Record → Entry
entry_of (entry.Key key) = KeyEntry
entry_of (entry.Extend extend) = Tree extend.level extend.parent_leaf
entry_of (entry.Bound bound) = Name bound.leaf bound.name bound.digest
entry_of (entry.Retire upto) = Retired upto
entry_of entry.Moved = Moved

-- what is shown of a key's records
pub record Shown : Type 0 where
  pub spec : Spec
  pub version : Version
  pub left : List ℕ
  pub entries : List Entry

abbrev pub shown_of : List Record → Key → Shown
shown_of records key = record {
  spec = types_of key.secret;
  version = key.version;
  left = free_counts key.secret records;
  entries = map entry_of records;
}

abbrev pub shown_of_records : List Record → Option Shown
shown_of_records records = option_map (shown_of records) (the_key records)

abbrev pub shown_of_listing : Listing → Shown
shown_of_listing listing = record {
  spec = listing.spec;
  version = listing.version;
  left = listing.left.items;
  entries = listing.entries.items;
}

-- how many entries are names
abbrev pub name_count : Entry → ℕ
name_count (Name leaf name digest) = 1
name_count KeyEntry = 0
name_count (Tree level leaf) = 0
name_count (Retired upto) = 0
name_count Moved = 0

abbrev pub names_among : List Entry → ℕ
names_among [] = 0
names_among (first ∷ rest) = name_count first + names_among rest

-- ---- the answer

-- Records are answered by a listing of what they show, or refused as by an audit without an anchor.
abbrev pub AnswersListing : (honest : Bool) → List Record → Result Listing AuditFault → Type 0
AnswersListing honest records (Ok listing) =
    IsLegal records × (shown_of_records records ≡ Some (shown_of_listing listing))
AnswersListing honest records (Err fault) = Judges honest records None (Err fault)

-- A listing reads the store and shows what it loads: as many records as the store has, and over an honest disk the same
-- ones. It says whether bytes stand behind the last one.
pub record Lists {D : Type 0} (d : disk.Ghosts D) (old new : FileStore D d) (answer : Result Listing AuditFault)
    : Type 0 where
  pub store : ReadsStore d old new answer
  pub loaded : List Record
  pub same_count : length loaded ≡ length (records_of old)
  pub same : IsTrue (d.honest (disk_of old)) → loaded ≡ records_of old
  pub answers : AnswersListing (d.honest (disk_of old)) loaded answer
  pub behind : IfOk answer (λ listing. listing.behind ≡ slot_behind old)

-- A listing by records that a replay took: they are the store's, which is only looked at.
pub record ListsReplayed {D : Type 0} (d : disk.Ghosts D) (store : FileStore D d) (answer : Result Listing AuditFault)
    : Type 0 where
  pub lists : Lists d store store answer
  pub own : lists.loaded ≡ records_of store

-- ---- secrets

abbrev pub without_seeds : Secret → Secret
without_seeds (Lms secret) = Lms (record { pair = secret.pair; identifier = secret.identifier; seed = [] })
without_seeds (Hss levels identifier seed) = Hss levels identifier []
without_seeds (Xmss secret) =
    Xmss (record { tree = secret.tree; secret_seed = []; prf_key = []; public_seed = secret.public_seed })

-- a record without secrets: the SEED of an Extend; a Key's seeds and SK_PRF
abbrev pub without_secret : Record → Record
without_secret (entry.Key key) = entry.Key (record key { secret = without_seeds key.secret })
without_secret (entry.Extend extend) = entry.Extend (record extend { seed = [] })
without_secret (entry.Bound bound) = entry.Bound bound
without_secret (entry.Retire upto) = entry.Retire upto
without_secret entry.Moved = entry.Moved

-- Lists of records that differ only in secrets show the same.
abbrev pub ListingLaw : Type 0
ListingLaw = (a b : List Record) → map without_secret a ≡ map without_secret b → shown_of_records a ≡ shown_of_records b

-- Two reports say the same, their tags aside.
pub record SayTheSame (one other : Report) : Type 0 where
  pub public : one.public ≡ other.public
  pub records : one.records ≡ other.records
  pub left : one.left.items ≡ other.left.items
  pub moved : one.moved ≡ other.moved

-- So do an audit's reports of them, and with these the public keys. A tag is a hash of whole slots.
abbrev pub ReportLaw : Type 0
ReportLaw = (a b : List Record) (one other : Report) → map without_secret a ≡ map without_secret b → Reports a one
    → Reports b other → SayTheSame one other
