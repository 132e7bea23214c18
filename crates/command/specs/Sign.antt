-- `sign STATE NAME MESSAGE OUT [--random FILE]`: its words, and what it does.
use Rattle.std.specs.Prelude.{◌≡◌, ◌⊎◌, ◌++◌, ◌∷◌, [], ℕ, List, codes, Option, Some, None, Result, Ok, Err, ⊤}
use Rattle.clap.specs.Words.{App, Text, new_app, with_rule}
use Rattle.typecodes.specs.declared.message.Message as message
use Rattle.typecodes.specs.Name.{IsName}
use Rattle.sign_core.specs.declared.source.Source as source
use Rattle.state_file.specs.declared.disk.Disk as disk
use Rattle.state_file.specs.declared.store.Store as store
use Rattle.state_file.specs.declared.store.file_store.FileStore.{FileStore}
use Rattle.command.specs.declared.answer.Done.{Done}
use Rattle.command.specs.declared.answer.Done.TheVariants.{Signed}
use Rattle.command.specs.declared.refusal.Refusal.{Refusal}
use Rattle.command.specs.declared.refusal.Refusal.TheVariants.{BadName, FileFailed}
use Rattle.command.specs.declared.sign.Sign.{Sign}
use Rattle.command.specs.declared.trace.Role.TheVariants as role
use Rattle.command.specs.Argument.{random_rule, required_rule}
use Rattle.command.specs.FileDisk.{IsStateRefusal}
use Rattle.command.specs.Files.{FilesSeen, KeepsContents, ShowsContent}
use Rattle.command.specs.KeyFile.{SignsOn}
use Rattle.command.specs.Signing.{Delivers}
use Rattle.command.specs.Trace.{Happening, ReadsOnce, not_opened, opened, opening_state}

abbrev pub sign_app : App
sign_app = with_rule (with_rule (with_rule (with_rule (with_rule (new_app (codes "sign"))
    (required_rule (codes "STATE"))) (required_rule (codes "NAME"))) (required_rule (codes "MESSAGE")))
    (required_rule (codes "OUT"))) random_rule

-- The values of the words; None if one is missing.
abbrev pub IsSign : (state name message out random : Option Text) → Option Sign → Type 0
IsSign state name message out random (Some words) = (state ≡ Some words.state.now) × (name ≡ Some words.name.now)
    × (message ≡ Some words.message.now) × (out ≡ Some words.out.now) × (random ≡ Some words.random.now)
IsSign state name message out random None =
    (state ≡ None) ⊎ (name ≡ None) ⊎ (message ≡ None) ⊎ (out ≡ None) ⊎ (random ≡ None)

-- ---- the message, a file that is read

-- what is left of the file, if known, and what happened to files
abbrev pub MessageFile : Type 0
MessageFile = Option (List ℕ) × List Happening

-- A read of it happened, and nothing else.
abbrev pub message_file : message.Ghosts MessageFile
message_file = record {
  remaining = λ file. file.0;
  transition = λ old outcome new. ReadsOnce role.Message old.1 outcome new.1;
  request = λ _ _ _ _. ⊤;
}

-- ---- the files

-- The file of the message, or after it the file of random bytes, couldn't be opened.
abbrev pub FailsToSign : (message random : List ℕ) → (old new : List Happening) → Type 0
FailsToSign message random old new = (new ≡ old ++ not_opened role.Message message ∷ [])
    ⊎ (new ≡ old ++ opened role.Message message ∷ not_opened role.Random random ∷ [])

abbrev pub ready_to_sign : (message random : List ℕ) → List Happening
ready_to_sign message random = opened role.Message message ∷ opened role.Random random ∷ []

-- ---- the step, and its answer

-- A signature is written to its file, and its size is the answer; a refusal is the answer, and no file was opened.
abbrev pub DeliversSigned : Result Unit Refusal → (signature path : List ℕ) → (old new : List Happening)
    → Result ℕ Refusal → Type 0
DeliversSigned (Ok _) signature path old new answer = Delivers (Ok signature) path old new answer
DeliversSigned (Err refusal) signature path old new answer = (answer ≡ Err refusal) × (new ≡ old)

-- A message's file was read, and the message signed under a name on a disk. `left` is what was known to be left of it.
abbrev pub SignsFile : {K R : Type 0} {bound : _} → disk.Ghosts K → store.Ghosts (FileStore K bound) → source.Ghosts R
    → (before after : K) → (random : R) → (name : List ℕ) → (left : Option (List ℕ)) → (capacity : ℕ)
    → (signature : List ℕ) → Result Unit Refusal → (old new : List Happening) → Type 0
SignsFile {bound = bound} d g r before after random name left capacity signature signed old new =
    (rest : Option (List ℕ)) × SignsOn {bound = bound} d g r message_file before after random name (left, old)
    (rest, new) capacity signature signed

-- As `SignsFile`, and then the signature was delivered.
abbrev pub SignsAndDelivers : {K R : Type 0} {bound : _} → disk.Ghosts K → store.Ghosts (FileStore K bound)
    → source.Ghosts R → (before after : K) → (random : R) → (name : List ℕ) → (left : Option (List ℕ))
    → (out : List ℕ) → Result ℕ Refusal → (old new : List Happening) → Type 0
SignsAndDelivers {bound = bound} d g r before after random name left out answer old new =
    (signature : List ℕ) × (signed : Result Unit Refusal) × (read : List Happening)
    × SignsFile {bound = bound} d g r before after random name left 0 signature signed old read
    × DeliversSigned signed signature out read new answer

-- On the disk of an open state file: the other files were opened, the message was signed, and only then the signature's
-- file was opened. Or one couldn't be opened, and the disk is as it was.
abbrev pub SignsOpened : {K R : Type 0} {bound : _} → disk.Ghosts K → store.Ghosts (FileStore K bound)
    → source.Ghosts R → (content : List ℕ → Option (List ℕ)) → (before after : K) → (name message out random : List ℕ)
    → Result ℕ Refusal → (old new : List Happening) → Type 0
SignsOpened {K} {R} {bound} d g r content before after name message out random answer old new =
    ((answer ≡ Err FileFailed) × (after ≡ before) × FailsToSign message random old new)
    ⊎ ((source : R) × (left : Option (List ℕ)) × ShowsContent (content random) (r.upcoming source)
    × ShowsContent (content message) left
    × SignsAndDelivers {bound = bound} d g r before after source name left out answer
    (old ++ ready_to_sign message random) new)

abbrev pub sign_answer : List ℕ → Result ℕ Refusal → Result Done Refusal
sign_answer name (Ok size) = Ok (Signed name size)
sign_answer name (Err refusal) = Err refusal

-- Either the state file couldn't be opened, or was locked, which is the answer. Or it was opened, the message was
-- signed once on its disk, and it was closed.
abbrev pub SignsAt : {K R : Type 0} {bound : _} → disk.Ghosts K → store.Ghosts (FileStore K bound) → source.Ghosts R
    → FilesSeen K → (state name message out random : List ℕ) → Result Done Refusal → (old new : List Happening) → Type 0
SignsAt {K} {R} {bound} d g r files state name message out random answer old new =
    ((refusal : Refusal) × IsStateRefusal refusal × (answer ≡ Err refusal)
    × (new ≡ old ++ opening_state {A = K} state (Err refusal) ∷ []))
    ⊎ ((before after : K) × (content : List ℕ → Option (List ℕ)) × (signed : Result ℕ Refusal)
    × KeepsContents files.content content × files.IsOpenedDisk state before
    × SignsOpened {bound = bound} d g r content before after name message out random signed
    (old ++ opened role.State state ∷ []) new
    × files.IsClosedDisk after × (answer ≡ sign_answer name signed))

-- The word is no name, which is the answer (34), and no file was opened. Or it is one, and the message was signed under
-- it.
abbrev pub SignsIn : {K R : Type 0} {bound : _} → disk.Ghosts K → store.Ghosts (FileStore K bound) → source.Ghosts R
    → FilesSeen K → (state name message out random : List ℕ) → Result Done Refusal → (old new : List Happening) → Type 0
SignsIn {bound = bound} d g r files state name message out random answer old new =
    ((IsName name → ⊥) × (answer ≡ Err BadName) × (new ≡ old))
    ⊎ (IsName name × SignsAt {bound = bound} d g r files state name message out random answer old new)
