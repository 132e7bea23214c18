-- What private functions alone cite of `Serving.antt`'s subject.
use Rattle.std.specs.Prelude.{◌≡◌, ℕ, Bool, true, false, List, ◌++◌, Option, Result, Ok, Err, IsSome}
use Rattle.std.specs.Io.KnownBytes.{Appends}
use Rattle.typecodes.specs.declared.message.Message as message
use Rattle.typecodes.specs.Message.{CantBeRead, ReadWhole}
use Rattle.typecodes.specs.Name.{IsName}
use Rattle.state_file.specs.declared.store.Store as store
use Rattle.sign_core.specs.declared.fault.ServeFault.{ServeFault}
use Rattle.sign_core.specs.declared.fault.ServeFault.TheVariants.{WriteFailed}
use Rattle.sign_core.specs.declared.fault.SignFault.{SignFault}
use Rattle.sign_core.specs.declared.fault.SignFault.TheVariants as refused
use Rattle.sign_core.specs.declared.serving.Reply.{Reply}
use Rattle.sign_core.specs.declared.serving.Reply.TheVariants.{BadName, Refused, Signed}
use Rattle.sign_core.specs.declared.source.Source as source
use Rattle.sign_core.specs.Frames.{Ending, ReadsInput}
use Rattle.sign_core.specs.Records.{binding_at}
use Rattle.sign_core.specs.Signer.{KeepsForRepeat, Signs, View, is_before_repeat}
use Rattle.sign_core.specs.Serving.{AnswersInTurn, Exchange, TurnEnds}

-- A turn: the next bytes of the input, their answer and what was written.
pub record Turns {S R I : Type 0} (g : store.Ghosts S) (r : source.Ghosts R) (m : message.Ghosts I)
    (old new : View S R) (before after : I) (contents left : Option (List ℕ)) (capacity room : ℕ)
    (result : Result Bool ServeFault) : Type 0 where
  pub bytes : List ℕ
  pub ending : Ending
  pub exchanges : List Exchange
  pub written : List ℕ
  pub ends : TurnEnds bytes ending exchanges written result
  pub reads : ReadsInput m bytes ending before after
  pub answers : AnswersInTurn g r exchanges old new capacity room
  pub writes : Appends contents left written

-- All of the bytes were written, or a part of them.
abbrev pub WritesReply : (bytes : List ℕ) → (old new : Option (List ℕ)) → Result (Unit {0}) ServeFault → Type 0
WritesReply bytes old new (Ok _) = Appends old new bytes
WritesReply bytes old new (Err WriteFailed) =
    (part : List ℕ) × (lost : List ℕ) × (bytes ≡ part ++ lost) × Appends old new part
WritesReply bytes old new (Err _) = ⊥

abbrev pub is_message_read : SignFault → Bool
is_message_read refused.MessageRead = true
is_message_read _ = false

-- If the bytes are a name, the reply is the signer's answer for the message.
abbrev pub Asks : {S R M : Type 0} → store.Ghosts S → source.Ghosts R → message.Ghosts M → (name : List ℕ)
    → (old new : View S R) → (before after : M) → (capacity : ℕ) → (signature : List ℕ) → Reply → Type 0
Asks g r m name old new before after capacity signature Signed = IsName name
    × Signs g r m old new name before after capacity (Ok signature)
    × (IsSome (binding_at old.records name) → KeepsForRepeat old new false)
Asks g r m name old new before after capacity signature (Refused fault) = IsName name
    × Signs g r m old new name before after capacity (Err fault)
    × (IsSome (binding_at old.records name) → KeepsForRepeat old new (is_before_repeat fault))
Asks g r m name old new before after capacity signature BadName =
    (IsName name → ⊥) × (new ≡ old) × (after ≡ before)

abbrev pub is_unread : Reply → Bool
is_unread (Refused fault) = is_message_read fault
is_unread _ = false

-- The rest of a message is read, unless it couldn't be before: whether all of it came.
abbrev pub Finishes : {M : Type 0} → message.Ghosts M → (unread : Bool) → (old new : M) → (is_whole : Bool) → Type 0
Finishes m true old new is_whole = (is_whole ≡ false) × (new ≡ old)
Finishes m false old new true = (text : List ℕ) × ReadWhole m.transition m.remaining text old new
Finishes m false old new false = CantBeRead m.transition old new
