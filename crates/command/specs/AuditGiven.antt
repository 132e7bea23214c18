-- `audit-given PUBLIC FILES..`: its words, and what it does.
use Rattle.std.specs.Prelude.{◌≡◌, ◌⊎◌, ◌<◌, ◌∷◌, [], ℕ, List, codes, length, map, take, slice_get, Option, Some, None}
use Rattle.std.specs.Prelude.{Result, Ok, Err, ⊤}
use Rattle.std.specs.Option.{option_map}
use Rattle.clap.specs.Words.{App, Text, new_app, with_rule}
use Rattle.key_audit.specs.declared.given.Given.{Given}
use Rattle.key_audit.specs.declared.given.GivenFault.{GivenFault}
use Rattle.key_audit.specs.Given.{Checks}
use Rattle.sign_core.specs.declared.key.AnyPublic.{AnyPublic}
use Rattle.sign_core.specs.declared.key.KeyFault.{KeyFault}
use Rattle.command.specs.declared.answer.Done.{Done}
use Rattle.command.specs.declared.answer.Done.TheVariants.{Checked}
use Rattle.command.specs.declared.audit_given.AuditGiven.{AuditGiven}
use Rattle.command.specs.declared.audit_given.GivenFiles.{GivenFiles}
use Rattle.command.specs.declared.usage_fault.UsageFault.{UsageFault}
use Rattle.command.specs.declared.usage_fault.UsageFault.TheVariants as usage
use Rattle.command.specs.declared.refusal.Refusal.{Refusal}
use Rattle.command.specs.declared.refusal.Refusal.TheVariants as refused
use Rattle.command.specs.declared.trace.Role.TheVariants as role
use Rattle.command.specs.Argument.{required_rule, several_rule}
use Rattle.command.specs.Files.{FailsFile, FailsToReadOrKeep, ReadsFile, ReadsKey, ReadsStart, decisive}
use Rattle.command.specs.Trace.{Happening}

abbrev pub audit_given_app : App
audit_given_app = with_rule (with_rule (new_app (codes "audit-given")) (required_rule (codes "PUBLIC")))
    (several_rule (codes "FILES"))

-- ---- pairs of files

-- the paths of a message and of its signature
abbrev pub Pair : Type 0
Pair = List ℕ × List ℕ

unfoldable pub paths_of : List Pair → List Text
paths_of [] = []
paths_of (pair ∷ pairs) = pair.0 ∷ pair.1 ∷ paths_of pairs

-- None if the number of paths is odd
unfoldable pub path_pairs : List Text → Option (List Pair)
path_pairs [] = Some []
path_pairs (message ∷ []) = None
path_pairs (message ∷ signature ∷ paths) = option_map (λ pairs. (message, signature) ∷ pairs) (path_pairs paths)

abbrev pub pair_of : GivenFiles → Pair
pair_of files = (files.message.now, files.signature.now)

abbrev pub pairs_of : AuditGiven → List Pair
pairs_of words = map pair_of words.files.items

-- The values of the words; or one is missing, or the number of files is odd.
abbrev pub IsAuditGiven : (public : Option Text) → (files : Option (List Text)) → Result AuditGiven UsageFault → Type 0
IsAuditGiven public files (Ok words) = (public ≡ Some words.public.now)
    × ((paths : List Text) × (files ≡ Some paths) × (path_pairs paths ≡ Some (pairs_of words)))
IsAuditGiven public files (Err fault) = (((public ≡ None) ⊎ (files ≡ None)) × (fault ≡ usage.Command))
    ⊎ ((path : Text) × (paths : List Text) × (public ≡ Some path) × (files ≡ Some paths)
    × (path_pairs paths ≡ None) × (fault ≡ usage.Pairs))

-- ---- how they are read

-- A message was read from its file, whole, and then a signature as far as it decides.
abbrev pub ReadsPair : (content : List ℕ → Option (List ℕ)) → Pair → Given → (old new : List Happening) → Type 0
ReadsPair content pair given old new = (mid : List Happening)
    × ReadsFile content role.Message pair.0 given.message.items old mid
    × ReadsStart content role.Signature pair.1 given.signature.items mid new

unfoldable pub ReadsPairs : (content : List ℕ → Option (List ℕ)) → List Pair → List Given → (old new : List Happening)
    → Type 0
ReadsPairs content [] given old new = (given ≡ []) × (new ≡ old)
ReadsPairs content (pair ∷ pairs) given old new = (first : Given) × (later : List Given) × (mid : List Happening)
    × (given ≡ first ∷ later) × ReadsPair content pair first old mid × ReadsPairs content pairs later mid new

-- One of the two files couldn't be read into memory, which is the answer, and none after it was opened.
abbrev pub FailsPair : (content : List ℕ → Option (List ℕ)) → Pair → Refusal → (old new : List Happening) → Type 0
FailsPair content pair refusal old new =
    FailsToReadOrKeep role.Message pair.0 refusal old new
    ⊎ ((bytes : List ℕ) × (mid : List Happening) × ReadsFile content role.Message pair.0 bytes old mid
    × FailsToReadOrKeep role.Signature pair.1 refusal mid new)

-- The first k pairs were read. Then the next one couldn't be, or memory for those k was refused, which are at least
-- one.
abbrev pub FailsPairs : (content : List ℕ → Option (List ℕ)) → List Pair → Refusal → (old new : List Happening)
    → Type 0
FailsPairs content pairs refusal old new = (k : ℕ) × (given : List Given) × (mid : List Happening)
    × ReadsPairs content (take k pairs) given old mid
    × (((0 < k) × (refusal ≡ refused.OutOfMemory) × (new ≡ mid))
    ⊎ ((pair : Pair) × (slice_get pairs k ≡ Some pair) × FailsPair content pair refusal mid new))

-- ---- what it answers

abbrev pub given_answer : ℕ → Result Unit GivenFault → Result Done Refusal
given_answer count (Ok _) = Ok (Checked count)
given_answer count (Err fault) = Err (refused.Given fault)

-- The public key's bytes are no key, which is the answer; or the signatures were checked under the key.
abbrev pub AnswersGiven : Result AnyPublic KeyFault → List Given → Result Done Refusal → Type 0
AnswersGiven (Err fault) given answer = answer ≡ Err (refused.Key fault)
AnswersGiven (Ok key) given answer = (checked : Result Unit GivenFault) × Checks key given checked
    × (answer ≡ given_answer (length given) checked)

-- The messages are the same, and `first` has the first bytes of the signature, which decide.
abbrev pub BeginsGiven : (whole first : Given) → Type 0
BeginsGiven whole first = (first.message.items ≡ whole.message.items)
    × (first.signature.items ≡ take decisive whole.signature.items)

-- .. for each
abbrev pub BeginAll : (wholes firsts : List Given) → Type 0
BeginAll [] [] = ⊤
BeginAll [] (first ∷ firsts) = ⊥
BeginAll (whole ∷ wholes) [] = ⊥
BeginAll (whole ∷ wholes) (first ∷ firsts) = BeginsGiven whole first × BeginAll wholes firsts

-- The first bytes of signatures decide: the answer is the same for the whole ones, whichever bytes follow.
abbrev pub AnswersWhole : Result AnyPublic KeyFault → (firsts : List Given) → Result Done Refusal → Type 0
AnswersWhole key firsts answer = (wholes : List Given) → BeginAll wholes firsts → AnswersGiven key wholes answer

-- All pairs were read and then judged, and what was read of the signatures decides. Or one couldn't be read, which is
-- the answer.
abbrev pub JudgesPairs : (content : List ℕ → Option (List ℕ)) → Result AnyPublic KeyFault → List Pair
    → Result Done Refusal → (old new : List Happening) → Type 0
JudgesPairs content key pairs answer old new =
    ((refusal : Refusal) × (answer ≡ Err refusal) × FailsPairs content pairs refusal old new)
    ⊎ ((given : List Given) × ReadsPairs content pairs given old new × AnswersGiven key given answer
    × AnswersWhole key given answer)

-- The public key's file was read, then the pairs, and then all was judged. Or the first couldn't be read, which is the
-- answer, and no other file was opened.
abbrev pub ChecksIn : (content : List ℕ → Option (List ℕ)) → (public : List ℕ) → List Pair → Result Done Refusal
    → (old new : List Happening) → Type 0
ChecksIn content public pairs answer old new =
    ((refusal : Refusal) × (answer ≡ Err refusal) × FailsFile role.Public public refusal old new)
    ⊎ ((bytes : List ℕ) × (key : Result AnyPublic KeyFault) × (mid : List Happening)
    × ReadsFile content role.Public public bytes old mid × ReadsKey bytes key
    × JudgesPairs content key pairs answer mid new)
