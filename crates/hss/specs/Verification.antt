-- Which signatures are valid (RFC 8554 6.3), what verification answers, and which refusal comes first.
use Rattle.std.specs.Prelude.{◌≡◌, ◌≢◌, ◌↔◌, ◌⊎◌, ℕ, ◌+◌, ◌<◌, List, Option, length, Result, Ok, Err}
use Rattle.typecodes.specs.declared.refusal.Refusal.{Refusal}
use Rattle.typecodes.specs.declared.refusal.Refusal.TheVariants.{Unreadable, TypeMismatch, LevelMismatch}
use Rattle.typecodes.specs.declared.refusal.Refusal.TheVariants.{RootMismatch, MessageRead}
use Rattle.typecodes.specs.Layout.{Spells, HasFault}
use Rattle.typecodes.specs.Message.{CantBeRead, ReadWhole, Transition}
use Rattle.lms.specs.declared.key.LmsPublic.{LmsPublic}
use Rattle.lms.specs.Verification.{IsValid as IsLmsValid, digest_of as lms_digest_of, prefix_of as lms_prefix_of}
use Rattle.hss.specs.declared.key.HssPublic.{HssPublic}
use Rattle.hss.specs.Signature.{Signature, key_at, level_count, message_at, signature, signature_at}

-- The signature of level i is valid for what the level signs, under the level's key.
abbrev pub IsValidAt : LmsPublic → List ℕ → Signature → ℕ → Type 0
IsValidAt top message s i = IsLmsValid (key_at top s i) (message_at message s i) (signature_at s i)

-- The signature has as many levels as the key, and is valid at each.
pub record IsValid (key : HssPublic) (message : List ℕ) (s : Signature) : Type 0 where
  pub count : level_count s ≡ key.levels
  pub levels : (i : ℕ) → i < key.levels → IsValidAt key.top message s i

-- The bytes spell a signature with the key's number of levels. It has a level i, and all levels above it are valid.
pub record Reaches (key : HssPublic) (message bytes : List ℕ) (s : Signature) (i : ℕ) : Type 0 where
  pub spelled : Spells signature s bytes
  pub count : level_count s ≡ key.levels
  pub inside : i < key.levels
  pub above : (j : ℕ) → j < i → IsValidAt key.top message s j

-- If the bytes spell a signature, this is the message's digest under its bottom level.
abbrev pub IsDigest : HssPublic → List ℕ → List ℕ → List ℕ → Type 0
IsDigest key message bytes digest = (s : Signature) → Spells signature s bytes
    → digest ≡ lms_digest_of (key_at key.top s (length s.signed)) message s.bottom

-- The bytes spell a signature with the key's number of levels, and this is what is hashed before its message.
abbrev pub HasPrefix : HssPublic → List ℕ → List ℕ → Type 0
HasPrefix key bytes prefix = (s : Signature) × Spells signature s bytes × (level_count s ≡ key.levels)
    × (prefix ≡ lms_prefix_of (key_at key.top s (length s.signed)) s.bottom)

-- Level i has its key's types.
abbrev pub HasKeyTypes : LmsPublic → Signature → ℕ → Type 0
HasKeyTypes top s i = (signature_at s i).pair ≡ (key_at top s i).pair

-- What verification answers of a signature's bytes.
--
-- - Ok: they spell a valid signature.
-- - `Unreadable`: they spell none, and have this fault.
-- - `LevelMismatch`: they spell one of another number of levels than the key's.
-- - `TypeMismatch`: level i is the first that isn't valid, and its types aren't its key's.
-- - `MessageRead`: all levels above the bottom are valid, the bottom has its key's types, and the message can't be
--   read.
-- - `RootMismatch`: level i is the first that isn't valid, though its types are its key's.
-- Requirement: RFC 8554 9, types
abbrev pub Verdict : {A : Type 0} → HssPublic → List ℕ → List ℕ → Result A Refusal → Type 0
Verdict key message bytes (Ok _) = (s : Signature) × Spells signature s bytes × IsValid key message s
Verdict key message bytes (Err (Unreadable fault)) = HasFault signature bytes 0 fault
Verdict key message bytes (Err LevelMismatch) =
    (s : Signature) × Spells signature s bytes × (level_count s ≢ key.levels)
Verdict key message bytes (Err (TypeMismatch i)) =
    (s : Signature) × Reaches key message bytes s i × (HasKeyTypes key.top s i → ⊥)
Verdict key message bytes (Err MessageRead) =
    (s : Signature) × Reaches key message bytes s (length s.signed) × HasKeyTypes key.top s (length s.signed)
Verdict key message bytes (Err (RootMismatch i)) =
    (s : Signature) × Reaches key message bytes s i × HasKeyTypes key.top s i × (IsValidAt key.top message s i → ⊥)

-- What verification leaves of the message. Where the bottom level's root was compared, it was read whole and gave this
-- text. At 14 it can't be read. Where a refusal came before reading, it is untouched.
abbrev pub LeavesMessage : {M A : Type 0} → Transition M → (M → Option (List ℕ)) → HssPublic → List ℕ → M → M
    → Result A Refusal → Type 0
LeavesMessage transition remaining key text old new (Ok _) = ReadWhole transition remaining text old new
LeavesMessage transition remaining key text old new (Err (Unreadable fault)) = new ≡ old
LeavesMessage transition remaining key text old new (Err LevelMismatch) = new ≡ old
LeavesMessage transition remaining key text old new (Err (TypeMismatch i)) = new ≡ old
LeavesMessage transition remaining key text old new (Err MessageRead) = CantBeRead transition old new
LeavesMessage transition remaining key text old new (Err (RootMismatch i)) =
    ((i + 1 ≡ key.levels) × ReadWhole transition remaining text old new) ⊎ ((i + 1 ≢ key.levels) × (new ≡ old))

-- The bytes spell a signature that is valid for the message.
abbrev pub IsSignature : HssPublic → List ℕ → List ℕ → Type 0
IsSignature key message bytes = (s : Signature) × Spells signature s bytes × IsValid key message s

-- The root to which a signature's bytes lead is the key's exactly where they spell a valid signature. Where they lead
-- to none, they spell no valid one.
abbrev pub GivesRoot : HssPublic → List ℕ → List ℕ → Result (List ℕ) Refusal → Type 0
GivesRoot key message bytes (Ok root) = (root ≡ key.top.root) ↔ IsSignature key message bytes
GivesRoot key message bytes (Err refusal) = IsSignature key message bytes → ⊥
