-- What `verify` answers for three files, and how it opens and reads them.
use Rattle.std.specs.Prelude.{[], ◌∷◌, ◌≡◌, ◌⊎◌, ◌++◌, ℕ, List, codes, Result, Ok, Err, ⊤, Option, IsErrAnd}
use Rattle.clap.specs.Words.{App, new_app, with_rule}
use Rattle.command.specs.Argument.{required_rule}
use Rattle.command.specs.declared.trace.Role.TheVariants as role
use Rattle.sign_core.specs.declared.key.AnyPublic.{AnyPublic}
use Rattle.sign_core.specs.Key.{KeyHasFault, KeyLeavesMessage, KeyVerdict, SpellsKey}
use Rattle.command.specs.declared.refusal.Refusal.{Refusal}
use Rattle.command.specs.declared.refusal.Refusal.TheVariants.{Key, Signature, OutOfMemory, FileFailed}
use Rattle.command.specs.declared.refusal.Refusal.TheVariants.{Signer, Opening, Preparing, Audit, Given, Locked}
use Rattle.command.specs.declared.refusal.Refusal.TheVariants.{Migration, Serving}
use Rattle.command.specs.declared.refusal.Refusal.TheVariants.{BadName, BadSpec}
use Rattle.std.specs.declared.io.ErrorKind.{ErrorKind}
use Rattle.command.specs.declared.trace.Role.{Role}
use Rattle.command.specs.Refusal.{refusal_of}
use Rattle.command.specs.Files.{FailsToRead, FillsRoom, decisive}
use Rattle.typecodes.specs.Message.{IsContent, Transition}
use Rattle.command.specs.Trace.{Happening, opened, not_opened, nothing_known, ReadsOnce, ReadsToEnd}
use Rattle.command.specs.Trace.{ReadsToFailure}

-- `verify PUBLIC MESSAGE SIGNATURE`
abbrev pub verify_app : App
verify_app =
    with_rule (with_rule (with_rule (new_app (codes "verify")) (required_rule (codes "PUBLIC")))
    (required_rule (codes "MESSAGE"))) (required_rule (codes "SIGNATURE"))

abbrev pub all_opened : List ℕ → List ℕ → List ℕ → List Happening
all_opened public message signature =
    opened role.Public public ∷ opened role.Message message ∷ opened role.Signature signature ∷ []

-- One of the files couldn't be opened, and none after it was.
abbrev pub FailsToOpen : List ℕ → List ℕ → List ℕ → List Happening → List Happening → Type 0
FailsToOpen public message signature old new =
    (new ≡ old ++ not_opened role.Public public ∷ [])
    ⊎ (new ≡ old ++ opened role.Public public ∷ not_opened role.Message message ∷ [])
    ⊎ (new ≡ old ++ opened role.Public public ∷ opened role.Message message ∷ not_opened role.Signature signature ∷ [])

-- The files were opened in turn, up to one that couldn't be.
abbrev pub OpensInTurn : {A E : Type 0} → List ℕ → List ℕ → List ℕ → Result A E → List Happening → List Happening
    → Type 0
OpensInTurn public message signature (Ok files) old new = new ≡ old ++ all_opened public message signature
OpensInTurn public message signature (Err error) old new = FailsToOpen public message signature old new

-- Contents alone are judged. Ok: the public bytes are a key, under which the signature is valid. Otherwise they are no
-- key, with this fault; or they are a key, under which the signature has this refusal.
abbrev pub Judgement : {A : Type 0} → List ℕ → List ℕ → List ℕ → Result A Refusal → Type 0
Judgement public message signature (Ok a) =
    (key : AnyPublic) × SpellsKey key public × KeyVerdict {A = ⊤} key message signature (Ok tt)
Judgement public message signature (Err (Key fault)) = KeyHasFault public fault
Judgement public message signature (Err (Signature refusal)) =
    (key : AnyPublic) × SpellsKey key public × KeyVerdict {A = ⊤} key message signature (Err refusal)
Judgement public message signature (Err OutOfMemory) = ⊥
Judgement public message signature (Err FileFailed) = ⊥
Judgement public message signature (Err (Signer fault)) = ⊥
Judgement public message signature (Err (Opening fault)) = ⊥
Judgement public message signature (Err (Preparing fault)) = ⊥
Judgement public message signature (Err (Audit fault)) = ⊥
Judgement public message signature (Err (Given fault)) = ⊥
Judgement public message signature (Err (Serving fault)) = ⊥
Judgement public message signature (Err (Migration fault)) = ⊥
Judgement public message signature (Err Locked) = ⊥
Judgement public message signature (Err BadName) = ⊥
Judgement public message signature (Err BadSpec) = ⊥

-- As `Judgement`, but opening or reading a file may also fail.
abbrev pub AnswersFiles : {A : Type 0} → List ℕ → List ℕ → List ℕ → Result A Refusal → Type 0
AnswersFiles public message signature (Ok a) = Judgement public message signature (Ok a)
AnswersFiles public message signature (Err (Key fault)) = Judgement {A = ⊤} public message signature (Err (Key fault))
AnswersFiles public message signature (Err (Signature refusal)) =
    Judgement {A = ⊤} public message signature (Err (Signature refusal))
AnswersFiles public message signature (Err OutOfMemory) = ⊤
AnswersFiles public message signature (Err FileFailed) = ⊤
AnswersFiles public message signature (Err (Signer fault)) = ⊥
AnswersFiles public message signature (Err (Opening fault)) = ⊥
AnswersFiles public message signature (Err (Preparing fault)) = ⊥
AnswersFiles public message signature (Err (Audit fault)) = ⊥
AnswersFiles public message signature (Err (Given fault)) = ⊥
AnswersFiles public message signature (Err (Serving fault)) = ⊥
AnswersFiles public message signature (Err (Migration fault)) = ⊥
AnswersFiles public message signature (Err Locked) = ⊥
AnswersFiles public message signature (Err BadName) = ⊥
AnswersFiles public message signature (Err BadSpec) = ⊥

-- The answer is right for some contents that fit what is known of the three files; so for their contents, if all are
-- known.
abbrev pub AnswersOf : {A : Type 0} → Option (List ℕ) → Option (List ℕ) → Option (List ℕ) → Result A Refusal → Type 0
AnswersOf public message signature answer =
    (p : List ℕ) × (m : List ℕ) × (s : List ℕ) × IsContent public p × IsContent message m × IsContent signature s
    × AnswersFiles p m s answer

-- What verification does with a message: what the key of the public bytes does, or nothing if they are no key.
abbrev pub AnswerLeaves : {M A : Type 0} → Transition M → (M → Option (List ℕ)) → List ℕ → List ℕ → M → M
    → Result A Refusal
    → Type 0
AnswerLeaves step remaining public text old new (Ok a) =
    (key : AnyPublic) × SpellsKey key public × KeyLeavesMessage {A = ⊤} step remaining key text old new (Ok tt)
AnswerLeaves step remaining public text old new (Err (Key fault)) = new ≡ old
AnswerLeaves step remaining public text old new (Err (Signature refusal)) =
    (key : AnyPublic) × SpellsKey key public × KeyLeavesMessage {A = ⊤} step remaining key text old new (Err refusal)
AnswerLeaves step remaining public text old new (Err OutOfMemory) = ⊥
AnswerLeaves step remaining public text old new (Err FileFailed) = ⊥
AnswerLeaves step remaining public text old new (Err (Signer fault)) = ⊥
AnswerLeaves step remaining public text old new (Err (Opening fault)) = ⊥
AnswerLeaves step remaining public text old new (Err (Preparing fault)) = ⊥
AnswerLeaves step remaining public text old new (Err (Audit fault)) = ⊥
AnswerLeaves step remaining public text old new (Err (Given fault)) = ⊥
AnswerLeaves step remaining public text old new (Err (Serving fault)) = ⊥
AnswerLeaves step remaining public text old new (Err (Migration fault)) = ⊥
AnswerLeaves step remaining public text old new (Err Locked) = ⊥
AnswerLeaves step remaining public text old new (Err BadName) = ⊥
AnswerLeaves step remaining public text old new (Err BadSpec) = ⊥

-- The answer is this failure: 46 for refused memory, 53 otherwise.
abbrev pub IsRefusalOf : {A : Type 0} → ErrorKind → Result A Refusal → Type 0
IsRefusalOf kind answer = IsErrAnd answer (λ refusal. refusal ≡ refusal_of kind)

-- The answer judges the bytes that the reads gave: of the key's file, of the signature's, and now of the message's, as
-- far as verification reads it.
abbrev pub JudgesReads : {A : Type 0} → Role → List ℕ → List ℕ → Result A Refusal → List Happening → List Happening
    → Type 0
JudgesReads message p s answer old new =
    (m : List ℕ) × Judgement p m s answer × AnswerLeaves (ReadsOnce message) nothing_known p m old new answer

-- The files were read in turn: the key's to its end, the signature's as far as it decides, and then the message's. The
-- first failure of key or signature is the answer, and nothing was read after it. Otherwise the answer judges the bytes
-- that the reads gave.
abbrev pub ReadsInTurn : {A : Type 0} → Role → Role → Role → Result A Refusal → List Happening → List Happening
    → Type 0
ReadsInTurn public signature message answer old new =
    ((kind : ErrorKind) × IsRefusalOf kind answer × FailsToRead public kind old new)
    ⊎ ((p : List ℕ) × (first : List Happening) × ReadsToEnd public p old first
    × ((kind : ErrorKind) × IsRefusalOf kind answer × ReadsToFailure signature kind first new))
    ⊎ ((p : List ℕ) × (s : List ℕ) × (first : List Happening) × (second : List Happening)
    × ReadsToEnd public p old first × FillsRoom signature decisive s first second
    × JudgesReads message p s answer second new)

-- The files were opened in turn, up to one that couldn't be, which is the answer (53). If all could be, they were read
-- in turn.
abbrev pub Visits : {A : Type 0} → List ℕ → List ℕ → List ℕ → Result A Refusal → List Happening → List Happening
    → Type 0
Visits public message signature answer old new =
    (IsErrAnd answer (λ refusal. refusal ≡ FileFailed) × FailsToOpen public message signature old new)
    ⊎ ReadsInTurn role.Public role.Signature role.Message answer (old ++ all_opened public message signature) new

-- `verify` answers rightly for what is known of the files, which it opens and reads in turn.
abbrev pub VerifiesIn : {A : Type 0} → (List ℕ → Option (List ℕ)) → List ℕ → List ℕ → List ℕ → Result A Refusal
    → List Happening → List Happening → Type 0
VerifiesIn content public message signature answer old new =
    AnswersOf (content public) (content message) (content signature) answer
    × Visits public message signature answer old new
