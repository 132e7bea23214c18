-- `list FILE [PUBLIC]`: its words, and what it does.
use Rattle.std.specs.Prelude.{◌≡◌, ◌⊎◌, ◌++◌, ◌∷◌, [], ℕ, List, codes, Option, Some, None, Result, Ok, Err, Bool}
use Rattle.std.specs.Prelude.{true, false}
use Rattle.std.specs.Option.{option_map}
use Rattle.clap.specs.Words.{App, Text, new_app, with_rule}
use Rattle.key_audit.specs.declared.listing.Listing.{Listing}
use Rattle.state_file.specs.declared.disk.Disk as disk
use Rattle.state_file.specs.declared.file.opening.OpenFault.TheVariants.{NoKey}
use Rattle.command.specs.declared.answer.Done.{Done}
use Rattle.command.specs.declared.answer.Done.TheVariants.{Listed}
use Rattle.command.specs.declared.list.ListState.{ListState}
use Rattle.command.specs.declared.refusal.Refusal.{Refusal}
use Rattle.command.specs.declared.refusal.Refusal.TheVariants.{FileFailed, Opening}
use Rattle.command.specs.declared.trace.Role.TheVariants as role
use Rattle.command.specs.Argument.{optional_rule, required_rule}
use Rattle.command.specs.Compared.{ComparesFiles}
use Rattle.command.specs.Described.{DescribesFile}
use Rattle.command.specs.Files.{FilesSeen}
use Rattle.command.specs.KeyFile.{ListsOn}
use Rattle.command.specs.Trace.{Happening, not_opened, opened_unlocked}

abbrev pub list_app : App
list_app = with_rule (with_rule (new_app (codes "list")) (required_rule (codes "FILE")))
    (optional_rule (codes "PUBLIC"))

-- The values of the words; None if the file is missing.
abbrev pub IsListState : (file public : Option Text) → Option ListState → Type 0
IsListState file public (Some words) =
    (file ≡ Some words.file.now) × (public ≡ option_map (λ path. path.now) words.public)
IsListState file public None = file ≡ None

abbrev pub list_answer : Result Listing Refusal → Result Done Refusal
list_answer (Ok listing) = Ok (Listed listing)
list_answer (Err refusal) = Err refusal

-- the file has no key, as a state file
abbrev pub lacks_key : Result Listing Refusal → Bool
lacks_key (Err (Opening NoKey)) = true
lacks_key _ = false

-- The answer is the listing of a state file, or its refusal. A file without a key is read once more: it may be a public
-- key or a signature.
abbrev pub AnswersListed : (content : List ℕ → Option (List ℕ)) → (path : List ℕ) → Result Listing Refusal
    → Result Done Refusal → (old new : List Happening) → Type 0
AnswersListed content path listed answer old new =
    ((lacks_key listed ≡ false) × (answer ≡ list_answer listed) × (new ≡ old))
    ⊎ ((lacks_key listed ≡ true) × DescribesFile content path answer old new)

-- Either the file couldn't be opened, which is the answer. Or it was opened for reading alone and without a lock, its
-- disk was listed, the answer was found, and it was closed.
abbrev pub ListsFile : {K : Type 0} → disk.Ghosts K → FilesSeen K → (path : List ℕ) → Result Done Refusal
    → (old new : List Happening) → Type 0
ListsFile {K} d files path answer old new =
    ((answer ≡ Err FileFailed) × (new ≡ old ++ not_opened role.State path ∷ []))
    ⊎ ((before after : K) × (listed : Result Listing Refusal) × files.IsOpenedDisk path before
    × ListsOn d before after listed × files.IsClosedDisk after
    × AnswersListed files.content path listed answer (old ++ opened_unlocked path ∷ []) new)

-- A file alone is listed. A signature with a public key is compared with it.
abbrev pub ListsIn : {K : Type 0} → disk.Ghosts K → FilesSeen K → (file : List ℕ) → (public : Option (List ℕ))
    → Result Done Refusal → (old new : List Happening) → Type 0
ListsIn d files file None answer old new = ListsFile d files file answer old new
ListsIn d files file (Some public) answer old new = ComparesFiles files.content file public answer old new
