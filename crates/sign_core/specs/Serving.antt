-- What serving requests over an input does: the answers, the replies that are written, and how it ends.
use Rattle.std.specs.Prelude.{◌≡◌, ◌⊎◌, ℕ, ◌<◌, ◌≤◌, ◌^◌, Bool, true, false, List, [], ◌∷◌, ◌++◌, length, map, Option}
use Rattle.std.specs.Prelude.{Some, None, Result, Ok, Err, IsSome, OnOk}
use Rattle.std.specs.List.{concat}
use Rattle.std.specs.Io.KnownBytes.{Appends}
use Rattle.byteorder.specs.Endian.{big_bytes}
use Rattle.typecodes.specs.declared.message.Message as message
use Rattle.typecodes.specs.Name.{IsName}
use Rattle.state_file.specs.Laws.{bottom_of}
use Rattle.state_file.specs.declared.record.Bound.{Bound}
use Rattle.state_file.specs.declared.record.Record.{Record}
use Rattle.state_file.specs.declared.store.Store as store
use Rattle.sign_core.specs.declared.fault.ServeFault.{ServeFault}
use Rattle.sign_core.specs.declared.fault.ServeFault.TheVariants.{FrameCut, MessageRead, WriteFailed}
use Rattle.sign_core.specs.declared.fault.SignFault.{SignFault}
use Rattle.sign_core.specs.declared.fault.SignFault.TheVariants.{Damaged}
use Rattle.sign_core.specs.declared.serving.Reply.{Reply}
use Rattle.sign_core.specs.declared.serving.Reply.TheVariants.{BadName, Refused, Signed}
use Rattle.sign_core.specs.declared.source.Source as source
use Rattle.sign_core.specs.Fault.{sign_fault_number}
use Rattle.sign_core.specs.Frames.{CutsField, Ending, IsCut, IsFrame, IsWholeMessage, ReadsInput, Request, broken}
use Rattle.sign_core.specs.Frames.{ended, given_message, going, head}
use Rattle.sign_core.specs.Caches.{Cached, HasAll, HasBegun}
use Rattle.sign_core.specs.Records.{binding_at}
use Rattle.sign_core.specs.Signer.{AnswersRequest, IsSigner, KeepsForRepeat, View, is_before_repeat, is_fault}
use Rattle.sign_core.specs.Signing.{KeepsCaches, KeepsCapacity, LeavesCaches, MakesCaches, UnderKey}

-- ---- replies

-- the bytes of a reply: its number, the size of its body, and the body
abbrev pub reply_frame : (number : ℕ) → (body : List ℕ) → List ℕ
reply_frame number body = (number ∷ []) ++ big_bytes 4 (length body) ++ body

-- the body of a refusal: the slot that 28 names
abbrev pub body_of : SignFault → List ℕ
body_of (Damaged slot) = big_bytes 4 slot
body_of _ = []

-- the bytes of a reply, for Ok with this signature
abbrev pub reply_bytes : Reply → (signature : List ℕ) → List ℕ
reply_bytes Signed signature = reply_frame 0 signature
reply_bytes (Refused fault) signature = reply_frame (sign_fault_number fault) (body_of fault)
reply_bytes BadName signature = reply_frame 34 []

pub record Exchange : Type 0 where
  pub request : Request
  pub reply : Reply
  pub signature : List ℕ

abbrev pub reply_of : Exchange → List ℕ
reply_of exchange = reply_bytes exchange.reply exchange.signature

-- ---- answers

-- A request is answered by a step of the world, as by a call of sign. Its message gave this, if it was read: all of its
-- text, or None where it can't be read.
pub record SignsGiven {S R : Type 0} (g : store.Ghosts S) (r : source.Ghosts R) (old new : View S R) (name : List ℕ)
    (given : Option (List ℕ)) (capacity : ℕ) (answer : Result (List ℕ) SignFault) : Type 0 where
  pub answers : AnswersRequest g r old new name capacity answer
  pub message : answers.outcome.is_read ≡ true → answers.chance.given ≡ given
  pub repeat : IsSome (binding_at old.records name) → KeepsForRepeat old new (is_fault is_before_repeat answer)

-- The reply is the signer's answer, with an output of this capacity; or the name's bytes are no name, and the signer
-- isn't asked.
abbrev pub AnswersBy : {S R : Type 0} → store.Ghosts S → source.Ghosts R → Reply → (signature : List ℕ) → Request
    → (old new : View S R) → (capacity : ℕ) → Type 0
AnswersBy g r Signed signature request old new capacity =
    IsName request.name × SignsGiven g r old new request.name (given_message request) capacity (Ok signature)
AnswersBy g r (Refused fault) signature request old new capacity =
    IsName request.name × SignsGiven g r old new request.name (given_message request) capacity (Err fault)
AnswersBy g r BadName signature request old new capacity = (IsName request.name → ⊥) × (new ≡ old)

-- The caches after a call of sign, by what its contract says of them: which the request made, which a refused memory
-- left, those of new trees, and the other levels'.
pub record SettlesCaches (before after : List Record) (found : Option (ℕ × Bound)) (old new : Cached) (room : ℕ)
    (answer : Result (Unit {0}) SignFault) : Type 0 where
  pub made : UnderKey before (λ key. MakesCaches key before found new room answer)
  pub refused : UnderKey before (λ key. LeavesCaches key before after found old new answer)
  pub signed : OnOk answer (UnderKey before (λ key. found ≡ None → HasAll key after (bottom_of key.secret) new))
  pub begun : UnderKey before (λ key. HasBegun key after (length before) new)
  pub kept : UnderKey before (λ key. KeepsCaches key after old new answer)

-- So they are after a reply; if the signer wasn't asked, they are as they were.
abbrev pub SettlesReply : {S R : Type 0} → Reply → (name : List ℕ) → (old new : View S R) → (room : ℕ) → Type 0
SettlesReply Signed name old new room =
    SettlesCaches old.records new.records (binding_at old.records name) old.cached new.cached room (Ok tt)
SettlesReply (Refused fault) name old new room =
    SettlesCaches old.records new.records (binding_at old.records name) old.cached new.cached room (Err fault)
SettlesReply BadName name old new room = new.cached ≡ old.cached

-- The output keeps its capacity, which grows no further than the signature takes. The caches are settled. The signer
-- keeps its invariant.
abbrev pub AnswersExchange : {S R : Type 0} → store.Ghosts S → source.Ghosts R → Exchange → (old new : View S R)
    → (capacity after : ℕ) → Type 0
AnswersExchange g r exchange old new capacity after =
    KeepsCapacity old.records capacity after
    × AnswersBy g r exchange.reply exchange.signature exchange.request old new capacity
    × SettlesReply exchange.reply exchange.request.name old new after
    × IsSigner g new

abbrev pub AnswersInTurn : {S R : Type 0} → store.Ghosts S → source.Ghosts R → List Exchange → (old new : View S R)
    → (capacity after : ℕ) → Type 0
AnswersInTurn g r [] old new capacity after = (new ≡ old) × (after ≡ capacity)
AnswersInTurn {S} {R} g r (first ∷ later) old new capacity after = (next : View S R) × (room : ℕ)
    × AnswersExchange g r first old next capacity room × AnswersInTurn g r later next new room after

-- ---- an exchange of frames

-- These bytes are the frames of whole requests, one after the other.
abbrev pub AreFrames : List Exchange → List ℕ → Type 0
AreFrames [] bytes = bytes ≡ []
AreFrames (first ∷ later) bytes = (own : List ℕ) × (rest : List ℕ) × (bytes ≡ own ++ rest)
    × IsFrame first.request own × IsWholeMessage first.request × AreFrames later rest

-- The reply to the next bytes of an input, and the fault that ends the serving, if any. The bytes are a whole frame; or
-- they are cut in a message (27); or in a head, at the input's end (35) or by a read that fails (27).
abbrev pub Turn : (bytes : List ℕ) → Ending → List Exchange → (reply : List ℕ) → Option ServeFault → Type 0
Turn bytes ending exchanges reply None = (exchange : Exchange) × (exchanges ≡ exchange ∷ []) × (ending ≡ going)
    × IsFrame exchange.request bytes × IsWholeMessage exchange.request × (reply ≡ reply_of exchange)
Turn bytes ending exchanges reply (Some FrameCut) = (exchanges ≡ []) × (ending ≡ ended) × (1 ≤ length bytes)
    × CutsField head bytes × (reply ≡ reply_frame 35 [])
Turn bytes ending exchanges reply (Some MessageRead) =
    ((exchanges ≡ []) × (ending ≡ broken) × CutsField head bytes × (reply ≡ reply_frame 27 []))
    ⊎ ((exchange : Exchange) × (exchanges ≡ exchange ∷ []) × IsFrame exchange.request bytes
    × IsCut ending exchange.request × (reply ≡ reply_of exchange))
Turn bytes ending exchanges reply (Some WriteFailed) = ⊥

-- How a turn ends, and what was written: the reply, or a part of it where writing fails (36); or nothing, at the end of
-- the input.
abbrev pub TurnEnds : (bytes : List ℕ) → Ending → List Exchange → (written : List ℕ) → Result Bool ServeFault → Type 0
TurnEnds bytes ending exchanges written (Ok true) = Turn bytes ending exchanges written None
TurnEnds bytes ending exchanges written (Ok false) =
    (exchanges ≡ []) × (ending ≡ ended) × (bytes ≡ []) × (written ≡ [])
TurnEnds bytes ending exchanges written (Err FrameCut) = Turn bytes ending exchanges written (Some FrameCut)
TurnEnds bytes ending exchanges written (Err MessageRead) = Turn bytes ending exchanges written (Some MessageRead)
TurnEnds bytes ending exchanges written (Err WriteFailed) =
    (lost : List ℕ) × (fault : Option ServeFault) × Turn bytes ending exchanges (written ++ lost) fault

-- How serving ends after `count` whole frames: at the input's end, or after 2^32 replies; or by a turn that fails.
abbrev pub Closes : (count : ℕ) → (bytes : List ℕ) → Ending → List Exchange → (written : List ℕ)
    → Result ℕ ServeFault → Type 0
Closes count bytes ending exchanges written (Ok n) =
    (n ≡ count) × (exchanges ≡ []) × (bytes ≡ []) × (written ≡ [])
    × (((ending ≡ ended) × (count < 2 ^ 32)) ⊎ ((ending ≡ going) × (count ≡ 2 ^ 32)))
Closes count bytes ending exchanges written (Err fault) =
    (count < 2 ^ 32) × TurnEnds bytes ending exchanges written (Err fault)

-- An input is whole frames and the bytes of the last turn; these requests are in it; and the output is their replies,
-- one after the other.
pub record Session (input : List ℕ) (ending : Ending) (exchanges : List Exchange) (output : List ℕ)
    (result : Result ℕ ServeFault) : Type 0 where
  pub whole : List Exchange
  pub frames : List ℕ
  pub are_frames : AreFrames whole frames
  pub last : List Exchange
  pub rest : List ℕ
  pub written : List ℕ
  pub closes : Closes (length whole) rest ending last written result
  pub exchanges_are : exchanges ≡ whole ++ last
  pub input_is : input ≡ frames ++ rest
  pub output_is : output ≡ concat (map reply_of whole) ++ written

-- The input gave the bytes of an exchange, the output took its replies, and its requests were answered in turn.
pub record Serves {S R I : Type 0} (g : store.Ghosts S) (r : source.Ghosts R) (m : message.Ghosts I)
    (old new : View S R) (before after : I) (contents left : Option (List ℕ)) (result : Result ℕ ServeFault)
    : Type 0 where
  pub input : List ℕ
  pub ending : Ending
  pub exchanges : List Exchange
  pub output : List ℕ
  pub session : Session input ending exchanges output result
  pub reads : ReadsInput m input ending before after
  pub capacity : ℕ
  pub answers : AnswersInTurn g r exchanges old new 0 capacity
  pub writes : Appends contents left output
