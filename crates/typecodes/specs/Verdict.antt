-- What verification answers, and what becomes of the message, in the words that the schemes share.
use Rattle.std.specs.Prelude.{◌≡◌, ◌≢◌, ◌⊎◌, List, ℕ, Option, Result, Ok, Err, IsOk}
use Rattle.typecodes.specs.Layout.{Layout, Spells}
use Rattle.typecodes.specs.Message.{CantBeRead, IsContent, ReadWhole, Transition}
use Rattle.typecodes.specs.declared.refusal.Refusal.{Refusal}
use Rattle.typecodes.specs.declared.refusal.Refusal.TheVariants.{Unreadable, TypeMismatch, LevelMismatch}
use Rattle.typecodes.specs.declared.refusal.Refusal.TheVariants.{RootMismatch, MessageRead}

-- What a verification leaves of the message of a signature of one tree. Where the root was compared, the message was
-- read whole and gave this text. At 14 it can't be read. Where a refusal came before reading, it is untouched.
abbrev pub LeavesMessage : {M A : Type 0} → Transition M → (M → Option (List ℕ)) → List ℕ → M → M → Result A Refusal
    → Type 0
LeavesMessage transition remaining text old new (Ok _) = ReadWhole transition remaining text old new
LeavesMessage transition remaining text old new (Err (Unreadable fault)) = new ≡ old
LeavesMessage transition remaining text old new (Err (TypeMismatch level)) = new ≡ old
LeavesMessage transition remaining text old new (Err LevelMismatch) = ⊥
LeavesMessage transition remaining text old new (Err MessageRead) = CantBeRead transition old new
LeavesMessage transition remaining text old new (Err (RootMismatch level)) = ReadWhole transition remaining text old new

-- The answer of a verification that takes a reader. For some text the verdict is this answer, and the reader is left as
-- the answer says. A reader's known content is this text.
abbrev pub Verifies : {M A : Type 0} → (M → Option (List ℕ)) → (List ℕ → Result A Refusal → Type 0)
    → (List ℕ → M → M → Result A Refusal → Type 0) → M → M → Result A Refusal → Type 0
Verifies remaining verdict leaves old new result =
    (text : List ℕ) × IsContent (remaining old) text × verdict text result × leaves text old new result

-- What a scheme's verification answers for a key, a message and the bytes of a signature.
abbrev pub Verdicts : Type 0 → Type 1
Verdicts K = K → List ℕ → List ℕ → Result (Unit {0}) Refusal → Type 0

-- The laws of verdicts, for keys whose signatures have this layout.
--
-- - A valid signature is refused only where the message can't be read (`accepted`).
-- - No bytes have two other refusals (`one_refusal`).
-- - Where the message may be refused, the only other refusal is the root's, which comes later (`read_in_turn`).
pub record VerdictLaws {K S : Type 0} (verdict : Verdicts K) (layout : K → Layout S)
    (is_valid : K → List ℕ → S → Type 0) (is_of_root : K → Refusal → Type 0) : Type 0 where
  pub accepted : (key : K) (message bytes : List ℕ) (result : Result (Unit {0}) Refusal)
      → verdict key message bytes result → result ≢ Err MessageRead
      → (s : S) → Spells (layout key) s bytes → is_valid key message s → IsOk result
  pub one_refusal : (key : K) (message bytes : List ℕ) (first second : Refusal)
      → verdict key message bytes (Err first) → verdict key message bytes (Err second)
      → first ≢ MessageRead → second ≢ MessageRead → first ≡ second
  pub read_in_turn : (key : K) (message bytes : List ℕ) (first : Refusal)
      → verdict key message bytes (Err MessageRead) → verdict key message bytes (Err first)
      → (first ≡ MessageRead) ⊎ is_of_root key first
