-- What is read of files, and how reading them fails.
use Rattle.std.specs.Prelude.{length, ℕ, List, [], ◌∷◌, ◌++◌, Result, Ok, Err, ◌≡◌, Option, Some, IfSome, ◌≢◌, ◌⊎◌, ◌<◌}
use Rattle.std.specs.Prelude.{◌≤◌, take}
use Rattle.sign_core.specs.declared.key.AnyPublic.{AnyPublic}
use Rattle.sign_core.specs.declared.key.KeyFault.{KeyFault}
use Rattle.sign_core.specs.Key.{KeyHasFault, SpellsKey}
use Rattle.command.specs.declared.trace.Role.{Role}
use Rattle.std.specs.IoError.{error_kind}
use Rattle.std.specs.declared.io.Error.{Error}
use Rattle.std.specs.declared.io.ErrorKind.{ErrorKind}
use Rattle.std.specs.declared.io.ErrorKind.TheVariants.{OutOfMemory}
use Rattle.typecodes.specs.Message.{IsContent}
use Rattle.command.specs.declared.refusal.Refusal.{Refusal}
use Rattle.command.specs.declared.refusal.Refusal.TheVariants as refused
use Rattle.command.specs.Refusal.{refusal_of}
use Rattle.command.specs.Trace.{Happening, ReadsForever, ReadsOn, ReadsToEnd, ReadsToFailure, not_opened, opened}

-- A public key's bytes were decoded, or this is wrong with them.
abbrev pub ReadsKey : List ℕ → Result AnyPublic KeyFault → Type 0
ReadsKey bytes (Ok key) = SpellsKey key bytes
ReadsKey bytes (Err fault) = KeyHasFault bytes fault

-- If a file's content is known, a reader has exactly these bytes left.
abbrev pub ShowsContent : Option (List ℕ) → Option (List ℕ) → Type 0
ShowsContent content left = IfSome content (λ bytes. left ≡ Some bytes)

-- Reading failed with this kind of error: a read did, or the file gave 2^60 bytes and the kind isn't refused memory.
abbrev pub FailsToRead : Role → ErrorKind → List Happening → List Happening → Type 0
FailsToRead role kind old new = ReadsToFailure role kind old new ⊎ ((kind ≢ OutOfMemory) × ReadsForever role old new)

-- A buffer of `room` bytes was filled from a file; or the file ended with fewer.
abbrev pub FillsRoom : Role → ℕ → List ℕ → List Happening → List Happening → Type 0
FillsRoom role room bytes old new =
    ((length bytes ≡ room) × ReadsOn role bytes old new) ⊎ ((length bytes < room) × ReadsToEnd role bytes old new)

-- A buffer has `count` bytes of a file; or a read failed.
abbrev pub FillsOrFails : Role → Result ℕ Error → List ℕ → List Happening → List Happening → Type 0
FillsOrFails role (Ok count) buffer old new = FillsRoom role (length buffer) (take count buffer) old new
FillsOrFails role (Err error) buffer old new = ReadsToFailure role (error_kind error) old new

-- A file was read to its end, and the value fits its bytes, which are all that was known to be left of it. Or reading
-- failed.
abbrev pub ReadsAllOrFails : {A : Type 0} → Role → Option (List ℕ) → (List ℕ → A → Type 0) → Result A Error
    → List Happening → List Happening → Type 0
ReadsAllOrFails role left Fits (Ok value) old new =
    (bytes : List ℕ) × IsContent left bytes × Fits bytes value × ReadsToEnd role bytes old new
ReadsAllOrFails role left Fits (Err error) old new = FailsToRead role (error_kind error) old new

-- how many first bytes of a signature decide: one more than the largest has, of eight levels of H25/W1
unfoldable pub decisive : ℕ
decisive = 74989

-- These are all bytes of a signature, or the first ones, which decide.
abbrev pub Decides : List ℕ → List ℕ → Type 0
Decides all first = (first ≡ all) ⊎ (first ≡ take decisive all)

-- The first bytes of a content, as many as decide of a signature, or all if it has fewer.
abbrev pub BeginsContent : Option (List ℕ) → (first : List ℕ) → Type 0
BeginsContent content first = (whole : List ℕ) × IsContent content whole × (first ≡ take decisive whole)

-- The file at this path was opened and read to its end. The bytes are its content, if that is known.
abbrev pub ReadsFile : (content : List ℕ → Option (List ℕ)) → Role → (path bytes : List ℕ) → (old new : List Happening)
    → Type 0
ReadsFile content role path bytes old new =
    IsContent (content path) bytes × ReadsToEnd role bytes (old ++ opened role path ∷ []) new

-- The file at this path was opened, and its first bytes were read, as far as they decide.
abbrev pub ReadsStart : (content : List ℕ → Option (List ℕ)) → Role → (path first : List ℕ) → (old new : List Happening)
    → Type 0
ReadsStart content role path first old new =
    BeginsContent (content path) first × FillsRoom role decisive first (old ++ opened role path ∷ []) new

-- Reading a file failed, which is reported by its kind: 46 for refused memory, 53 otherwise.
abbrev pub ReportsRead : Role → Refusal → (old new : List Happening) → Type 0
ReportsRead role refusal old new = (kind : ErrorKind) × (refusal ≡ refusal_of kind) × FailsToRead role kind old new

-- At least one byte of a file was read, and memory for its bytes was refused (46).
abbrev pub ReportsMemory : Role → Refusal → (old new : List Happening) → Type 0
ReportsMemory role refusal old new =
    (refusal ≡ refused.OutOfMemory)
    × ((bytes : List ℕ) × (1 ≤ length bytes) × (ReadsOn role bytes old new ⊎ ReadsToEnd role bytes old new))

-- Reading failed, or memory for the bytes was refused.
abbrev pub CantKeep : Role → Refusal → (old new : List Happening) → Type 0
CantKeep role refusal old new = ReportsRead role refusal old new ⊎ ReportsMemory role refusal old new

-- The file at this path couldn't be opened, or not read.
abbrev pub FailsFile : Role → (path : List ℕ) → Refusal → (old new : List Happening) → Type 0
FailsFile role path refusal old new =
    ((refusal ≡ refused.FileFailed) × (new ≡ old ++ not_opened role path ∷ []))
    ⊎ ReportsRead role refusal (old ++ opened role path ∷ []) new

-- As `FailsFile`, or memory for its bytes was refused.
abbrev pub FailsToReadOrKeep : Role → (path : List ℕ) → Refusal → (old new : List Happening) → Type 0
FailsToReadOrKeep role path refusal old new =
    ((refusal ≡ refused.FileFailed) × (new ≡ old ++ not_opened role path ∷ []))
    ⊎ CantKeep role refusal (old ++ opened role path ∷ []) new

-- The known content of the file at each path is as it was.
abbrev pub KeepsContents : (old new : List ℕ → Option (List ℕ)) → Type 0
KeepsContents old new = (path : List ℕ) → new path ≡ old path

-- .. except for the file at this path
abbrev pub KeepsOtherContents : (path : List ℕ) → (old new : List ℕ → Option (List ℕ)) → Type 0
KeepsOtherContents path old new = (other : List ℕ) → other ≢ path → new other ≡ old other

-- what contracts see of a signer's files
pub record FilesSeen (K : Type 0) : Type 1 where
  -- of the file at each path, if known
  pub content : List ℕ → Option (List ℕ)
  -- opening the state file at this path may give this disk
  pub IsOpenedDisk : (path : List ℕ) → K → Type 0
  -- a state file with this disk was closed
  pub IsClosedDisk : K → Type 0

abbrev pub files_seen : {K : Type 0} → (List ℕ → Option (List ℕ)) → (is_opened : List ℕ → K → Type 0)
    → (is_closed : K → Type 0) → FilesSeen K
files_seen content is_opened is_closed =
    record { content = content; IsOpenedDisk = is_opened; IsClosedDisk = is_closed }
