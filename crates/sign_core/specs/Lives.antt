-- The lives of one disk that keeps what was synced. In each a store is opened on the disk or prepared, calls on the
-- store end, and a crash comes at any moment. The next life begins with what it left.
use Rattle.std.specs.Prelude.{◌≡◌, ◌⊎◌, ℕ, IsTrue, List, [], ◌∷◌, Some, false}
use Rattle.state_file.specs.Carried.{carried, with_moved}
use Rattle.state_file.specs.declared.disk.Disk as disk
use Rattle.state_file.specs.declared.record.Key.{Key}
use Rattle.state_file.specs.declared.record.Version.TheVariants.{One}
use Rattle.state_file.specs.declared.record.Record.{Record}
use Rattle.state_file.specs.declared.store.Store as store
use Rattle.state_file.specs.declared.store.file_store.FileStore.{FileStore}
use Rattle.state_file.specs.Disk.{LeavesOnly, MayLeave, settled}
use Rattle.state_file.specs.File.{HasNoKey, SpellsRecords, StandsFor}
use Rattle.state_file.specs.FileStore.{disk_of, has_stopped, records_of}
use Rattle.state_file.specs.Format.{LeftByFormat, PreparesPlace}
use Rattle.sign_core.specs.Calls.{AreLastingCalls, Call, IsCall, IsRun, events_of, store_after_calls}
use Rattle.sign_core.specs.Once.{IsOnce}
use Rattle.sign_core.specs.Records.{the_key}
use Rattle.sign_core.specs.SignerCalls.{world_of}
use Rattle.sign_core.specs.World.{Handed, World, beginning, closed_state, run}

-- ---- a store on a disk

-- what `FileStore::open` gives: a store of the records in the disk's content
pub record IsOpenedOn {D : Type 0} (d : disk.Ghosts D) (on : D) (store : FileStore D d) : Type 0 where
  pub records : SpellsRecords (d.state on).content (records_of store)
  pub running : has_stopped store ≡ false
  pub honest : d.honest (disk_of store) ≡ d.honest on

-- what `FileStore::format` gives: a store without a record, where the disk has no key
pub record IsPreparedOn {D : Type 0} (d : disk.Ghosts D) (on : D) (store : FileStore D d) : Type 0 where
  pub records : records_of store ≡ []
  pub prepares : PreparesPlace (d.state on).content (d.state (disk_of store))
  pub running : has_stopped store ≡ false
  pub honest : d.honest (disk_of store) ≡ d.honest on

abbrev pub IsStoreOn : {D : Type 0} (d : disk.Ghosts D) → (on : D) → FileStore D d → Type 0
IsStoreOn d on store = IsOpenedOn d on store ⊎ IsPreparedOn d on store

-- what a crash at any moment of an opening or preparing leaves, whatever the answer
abbrev pub IsTriedOn : {D : Type 0} → disk.Ghosts D → (old new : D) → Type 0
IsTriedOn d old new = LeavesOnly d.moment d.left_since old new (MayLeave (d.state old))
    ⊎ LeavesOnly d.moment d.left_since old new (LeftByFormat (d.state old))

-- ---- one life

-- A life of the disk. Without a store, an opening or preparing is refused, or a crash comes in it, and it takes the
-- disk from `old` to `new`. With this store, these calls end, and the crash comes in `last`; for one between two calls,
-- `last` leaves the store as it was.
pub data Life (D : Type 0) (d : disk.Ghosts D) : Type 0 where
  fails : (old new : D) → Life D d
  serves : (on : D) → FileStore D d → List (Call (FileStore D d)) → (last : Call (FileStore D d)) → Life D d

-- the world as the life's calls find it: the store's records, and no signer open
abbrev pub world_found : {D : Type 0} {d : disk.Ghosts D} → FileStore D d → List Handed → World
world_found store handed = world_of (closed_state (records_of store)) handed

-- .. and after the calls that ended
abbrev pub world_left : {D : Type 0} {d : disk.Ghosts D} → (limit : ℕ) → FileStore D d → List (Call (FileStore D d))
    → List Handed → World
world_left limit store calls handed = run limit (world_found store handed) (events_of calls)

-- the contents that a crash in it may leave
abbrev pub contents_left : {D : Type 0} (d : disk.Ghosts D) → Life D d → List ℕ → Type 0
contents_left d (fails old new) content = d.left_since new (d.moment old) content
contents_left d (serves on store calls last) content =
    d.left_since (disk_of last.store) (d.moment (disk_of (store_after_calls store calls))) content

-- its disk at its end, without a crash
abbrev pub disk_at_end : {D : Type 0} {d : disk.Ghosts D} → Life D d → D
disk_at_end (fails old new) = new
disk_at_end (serves on store calls last) = disk_of last.store

-- what has been handed out after it: what the ended calls hand out, and no more
abbrev pub life_handed : {D : Type 0} {d : disk.Ghosts D} → (limit : ℕ) → List Handed → Life D d → List Handed
life_handed limit handed (fails old new) = handed
life_handed limit handed (serves on store calls last) = (world_left limit store calls handed).handed

-- The disk keeps what was synced, and whatever a crash may leave of it now, the life before may have left.
pub record IsAtStart {D : Type 0} (d : disk.Ghosts D) (before : List ℕ → Type 0) (on : D) : Type 0 where
  pub honest : IsTrue (d.honest on)
  pub holds : (content : List ℕ) → MayLeave (d.state on) content → before content

-- There is a store, and calls on it lead to the one in which the crash comes.
pub record IsServingLife {D : Type 0} (d : disk.Ghosts D) (g : store.Ghosts (FileStore D d)) (limit : ℕ)
    (handed : List Handed) (on : D) (store : FileStore D d) (calls : List (Call (FileStore D d)))
    (last : Call (FileStore D d)) : Type 0 where
  pub is_store : IsStoreOn d on store
  pub each : AreLastingCalls g limit (world_found store handed) store calls
  pub is_last : IsCall g.moment g.left_since limit (world_left limit store calls handed)
      (store_after_calls store calls) last

-- The life begins with what the one before may have left.
abbrev pub IsLife : {D : Type 0} (d : disk.Ghosts D) → store.Ghosts (FileStore D d) → (limit : ℕ)
    → (before : List ℕ → Type 0) → List Handed → Life D d → Type 0
IsLife d g limit before handed (fails old new) = IsAtStart d before old × IsTriedOn d old new
IsLife d g limit before handed (serves on store calls last) =
    IsAtStart d before on × IsServingLife d g limit handed on store calls last

-- ---- lives one after the other

abbrev pub AreLives : {D : Type 0} (d : disk.Ghosts D) → store.Ghosts (FileStore D d) → (limit : ℕ)
    → (before : List ℕ → Type 0) → List Handed → List (Life D d) → Type 0
AreLives d g limit before handed [] = Unit {0}
AreLives d g limit before handed (life ∷ lives) = IsLife d g limit before handed life
    × AreLives d g limit (contents_left d life) (life_handed limit handed life) lives

-- the contents that may be left after all of them
abbrev pub all_contents_left : {D : Type 0} (d : disk.Ghosts D) → (before : List ℕ → Type 0) → List (Life D d) → List ℕ
    → Type 0
all_contents_left d before [] = before
all_contents_left d before (life ∷ lives) = all_contents_left d (contents_left d life) lives

abbrev pub all_handed : {D : Type 0} {d : disk.Ghosts D} → (limit : ℕ) → List Handed → List (Life D d) → List Handed
all_handed limit handed [] = handed
all_handed limit handed (life ∷ lives) = all_handed limit (life_handed limit handed life) lives

-- The content stands for a list of records. Events that can come lead from one world to another with these records,
-- without an open signer, in which this was handed out.
pub record IsLeftByRun (limit : ℕ) (first : World) (handed : List Handed) (content : List ℕ) : Type 0 where
  pub records : List Record
  pub stands : StandsFor records content
  pub runs : IsRun limit first (world_of (closed_state records) handed)

-- the contents to which runs of the world lead that handed this out
abbrev pub LedTo : (limit : ℕ) → List Handed → List ℕ → Type 0
LedTo limit handed content = IsLeftByRun limit beginning handed content

abbrev pub CanMigrate : List Record → Type 0
CanMigrate records = (key : Key) × (the_key records ≡ Some key) × (key.version ≡ One)

-- All lives of a disk, where runs of the world lead to what may be left as the first one begins.
pub record LivesLaw {D : Type 0} (d : disk.Ghosts D) (g : store.Ghosts (FileStore D d)) : Type 0 where
  -- a disk without a key, and nothing handed out, is such a disk: its lives are such lives, and leave the same
  pub without_key : (limit : ℕ) (lives : List (Life D d)) → AreLives d g limit HasNoKey [] lives
      → AreLives d g limit (LedTo limit []) [] lives
  pub left_without_key : (limit : ℕ) (lives : List (Life D d)) (content : List ℕ)
      → all_contents_left d HasNoKey lives content → all_contents_left d (LedTo limit []) lives content
  -- So is the new place of a migration. If runs lead to records of version 1, they lead to the carried ones, and to
  -- those with a Moved, with the same handed out.
  pub migrates : (limit : ℕ) (handed : List Handed) (records : List Record) (content moved : List ℕ)
      → LedTo limit handed content → StandsFor records content → CanMigrate records
      → StandsFor (carried records) moved ⊎ StandsFor (with_moved records) moved → LedTo limit handed moved
  -- after a crash, the next life may begin with the content that it left, all of it synced
  pub after_power : (limit : ℕ) (handed : List Handed) (lives : List (Life D d)) (on : D) (content : List ℕ)
      → IsTrue (d.honest on) → d.state on ≡ settled content → all_contents_left d (LedTo limit handed) lives content
      → IsAtStart d (all_contents_left d (LedTo limit handed) lives) on
  -- without a crash, with the disk at the life's end
  pub goes_on : (limit : ℕ) (handed : List Handed) (lives : List (Life D d)) (life : Life D d)
      → IsTrue (d.honest (disk_at_end life))
      → IsLife d g limit (all_contents_left d (LedTo limit handed) lives) (all_handed limit handed lives) life
      → IsAtStart d (contents_left d life) (disk_at_end life)
  -- a store has the records of the disk's content, and so what the life before left
  pub finds : (on : D) (store : FileStore D d) (records : List Record) → IsStoreOn d on store
      → StandsFor records (d.state on).content → records_of store ≡ records
  -- a run of the world leads to whatever content the last life leaves, and hands out what the ended calls handed out
  pub leaves : (limit : ℕ) (handed : List Handed) (lives : List (Life D d)) (content : List ℕ)
      → AreLives d g limit (LedTo limit handed) handed lives → all_contents_left d (LedTo limit handed) lives content
      → LedTo limit (all_handed limit handed lives) content
  -- so the law over all runs holds there
  pub once : (limit : ℕ) (handed : List Handed) (lives : List (Life D d)) (content : List ℕ) (records : List Record)
      → AreLives d g limit (LedTo limit handed) handed lives → all_contents_left d (LedTo limit handed) lives content
      → StandsFor records content
      → IsOnce limit (world_of (closed_state records) (all_handed limit handed lives))
  -- and after each call of a life that goes on
  pub once_after : (limit : ℕ) (handed : List Handed) (lives : List (Life D d)) (on : D) (store : FileStore D d)
      (calls : List (Call (FileStore D d))) (last : Call (FileStore D d))
      → AreLives d g limit (LedTo limit handed) handed lives
      → IsLife d g limit (all_contents_left d (LedTo limit handed) lives) (all_handed limit handed lives)
      (serves on store calls last)
      → IsOnce limit (world_left limit store calls (all_handed limit handed lives))
