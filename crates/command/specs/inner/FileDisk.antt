-- Calls at a file's current offset, and what several calls one after the other do.
use Rattle.std.specs.Prelude.{IsTrue, ℕ, List, ◌≡◌, ◌+◌, [], ◌∷◌, ◌++◌, ◌<◌, ◌≤◌, ◌^◌, length}
use Rattle.std.specs.Prelude.{Result, Ok, Err, IfOk, slice_range, ⊤}
use Rattle.state_file.specs.Disk.{DiskState, IsSteady, Syncs, WritesBytes}
use Rattle.state_file.specs.declared.disk.DiskFault.{DiskFault}
use Rattle.state_file.specs.declared.disk.DiskFault.TheVariants.{PastEnd}
use Rattle.typecodes.specs.Message.{ReadOutcome, size_of}
use Rattle.typecodes.specs.Reading.{Request}
use Rattle.typecodes.specs.Sink.{Write, WriteOutcome}
use Rattle.command.specs.declared.file_disk.AtOffset.{AtOffset}
use Rattle.command.specs.declared.offset_file.OffsetFile as offset_file
use Rattle.command.specs.FileDisk.{Measures, ReadsAt, SyncsAll, WritesAt}
use Rattle.command.specs.OffsetFile.{CallsFile, GivesPart, Shows, TakesPart}
use Rattle.command.specs.Trace.{read_at, written_at}

-- ---- one call

-- a read of `room` bytes at this offset
pub record FileReads {F : Type 0} (f : offset_file.Ghosts F) (at room : ℕ) (old : F) (outcome : ReadOutcome) (new : F)
    : Type 0 where
  pub trace : f.trace new ≡ f.trace old ++ read_at at room outcome ∷ []
  pub gives : IsTrue (f.honest old) → GivesPart at room (f.state old) outcome
  pub keeps_state : IsTrue (f.honest old) → f.state new ≡ f.state old
  pub call : CallsFile f.honest f.state f.moment f.left_since old new

-- a write of these bytes at this offset
pub record FileWrites {F : Type 0} (f : offset_file.Ghosts F) (at : ℕ) (bytes : List ℕ) (old : F)
    (outcome : WriteOutcome) (new : F) : Type 0 where
  pub trace : f.trace new ≡ f.trace old ++ written_at at bytes outcome ∷ []
  pub takes : IsTrue (f.honest old) → TakesPart at bytes (f.state old) (f.state new) outcome
  pub call : CallsFile f.honest f.state f.moment f.left_since old new

-- A read is one of the file at the current offset, which then moves on past the bytes that it gave.
abbrev pub ReadsNext : {F : Type 0} → offset_file.Ghosts F → Request (AtOffset F)
ReadsNext f old room outcome new = old.at + room < 2 ^ 64 → (new.file.ghost_name ≡ old.file.ghost_name)
    × (new.at ≡ old.at + size_of outcome) × FileReads f old.at room old.file.now outcome new.file.now

-- As `ReadsNext`, for a write.
abbrev pub WritesNext : {F : Type 0} → offset_file.Ghosts F → Write (AtOffset F)
WritesNext f old bytes outcome new = old.at + length bytes < 2 ^ 64
    → (new.file.ghost_name ≡ old.file.ghost_name) × (new.at ≡ old.at + size_of outcome)
    × FileWrites f old.at bytes old.file.now outcome new.file.now

-- ---- the calls of the disk: what the file's trace shows, and what an honest file leads to

-- The bytes are those of one content that the file shows, though several reads gave them.
abbrev pub ShowsBytes : {A : Type 0} → (at : ℕ) (bytes : List ℕ) → DiskState → Result A DiskFault → Type 0
ShowsBytes at bytes state (Ok _) = (c : List ℕ) × Shows state c × (at + length bytes ≤ length c)
    × (bytes ≡ slice_range c at (at + length bytes))
ShowsBytes at bytes state (Err PastEnd) = IsSteady state → length state.content < at + length bytes
ShowsBytes at bytes state (Err _) = ⊤

-- one call for the length
pub record DiskMeasures {F : Type 0} (f : offset_file.Ghosts F) (result : Result ℕ DiskFault) (old new : F)
    : Type 0 where
  pub measures : Measures result (f.trace old) (f.trace new)
  pub shows : IsTrue (f.honest old) → IfOk result (λ n. (c : List ℕ) × Shows (f.state old) c × (n ≡ length c))
  pub keeps_state : IsTrue (f.honest old) → f.state new ≡ f.state old
  pub call : CallsFile f.honest f.state f.moment f.left_since old new

-- one sync
pub record DiskSyncs {F : Type 0} (f : offset_file.Ghosts F) (result : Result Unit DiskFault) (old new : F)
    : Type 0 where
  pub syncs : SyncsAll result (f.trace old) (f.trace new)
  pub synced : IsTrue (f.honest old) → Syncs (f.state old) (f.state new) result
  pub call : CallsFile f.honest f.state f.moment f.left_since old new

-- reads that each ask for the rest
pub record DiskReads {F A : Type 0} (f : offset_file.Ghosts F) (at : ℕ) (bytes : List ℕ) (result : Result A DiskFault)
    (old new : F) : Type 0 where
  pub reads : ReadsAt at bytes result (f.trace old) (f.trace new)
  pub shows : IsTrue (f.honest old) → ShowsBytes at bytes (f.state old) result
  pub keeps_state : IsTrue (f.honest old) → f.state new ≡ f.state old
  pub call : CallsFile f.honest f.state f.moment f.left_since old new

-- writes that each offer the rest
pub record DiskWrites {F A : Type 0} (f : offset_file.Ghosts F) (at : ℕ) (bytes : List ℕ)
    (result : Result A DiskFault) (old new : F) : Type 0 where
  pub writes : WritesAt at bytes result (f.trace old) (f.trace new)
  pub stores : IsTrue (f.honest old) → WritesBytes at bytes (f.state old) (f.state new) result
  pub call : CallsFile f.honest f.state f.moment f.left_since old new
