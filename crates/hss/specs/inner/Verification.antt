-- The steps of verification: the levels above the bottom, and the bottom.
use Rattle.std.specs.Prelude.{◌≡◌, ◌↔◌, ℕ, ◌<◌, List, length, Result, Ok, Err}
use Rattle.typecodes.specs.declared.refusal.Refusal.{Refusal}
use Rattle.typecodes.specs.declared.refusal.Refusal.TheVariants.{Unreadable, TypeMismatch, LevelMismatch, RootMismatch}
use Rattle.typecodes.specs.declared.refusal.Refusal.TheVariants.{MessageRead}
use Rattle.typecodes.specs.Layout.{Spells}
use Rattle.lms.specs.declared.key.LmsPublic.{LmsPublic}
use Rattle.lms.specs.Signature.{Signature as LmsSignature}
use Rattle.hss.specs.declared.key.HssPublic.{HssPublic}
use Rattle.hss.specs.Signature.{Signature, key_at, level_count, signature}
use Rattle.hss.specs.Verification.{HasKeyTypes, IsValidAt}

-- all levels above level i are valid, whatever the message
abbrev pub AreValidAbove : LmsPublic → Signature → ℕ → Type 0
AreValidAbove top s i = (message : List ℕ) (j : ℕ) → j < i → IsValidAt top message s j

-- above the bottom: all levels are valid and this is the bottom's key, or one level is the first that isn't valid
abbrev pub AboveVerdict : LmsPublic → Signature → Result LmsPublic Refusal → Type 0
AboveVerdict top s (Ok key) = (key ≡ key_at top s (length s.signed)) × AreValidAbove top s (length s.signed)
AboveVerdict top s (Err (Unreadable fault)) = ⊥
AboveVerdict top s (Err LevelMismatch) = ⊥
AboveVerdict top s (Err MessageRead) = ⊥
AboveVerdict top s (Err (TypeMismatch i)) =
    (i < length s.signed) × AreValidAbove top s i × (HasKeyTypes top s i → ⊥)
AboveVerdict top s (Err (RootMismatch i)) =
    (i < length s.signed) × AreValidAbove top s i × HasKeyTypes top s i
    × ((message : List ℕ) → IsValidAt top message s i → ⊥)

-- The bottom level of the signature that the bytes spell: its signature, its key and its number. The signature has the
-- key's number of levels, and all levels above the bottom are valid.
pub record IsBottom (key : HssPublic) (bytes : List ℕ) (bottom : LmsSignature) (bottom_key : LmsPublic) (i : ℕ)
    : Type 0 where
  pub whole : Signature
  pub spelled : Spells signature whole bytes
  pub count : level_count whole ≡ key.levels
  pub above : AboveVerdict key.top whole (Ok bottom_key)
  pub last : i ≡ length whole.signed
  pub signature_is : bottom ≡ whole.bottom

-- all levels are valid
abbrev pub AreValid : LmsPublic → List ℕ → Signature → Type 0
AreValid top message s = (i : ℕ) → i < level_count s → IsValidAt top message s i

-- The top level's root, computed from the bottom up: it is the top key's exactly where all levels are valid. Where
-- there is none, one isn't.
abbrev pub GivesTopRoot : LmsPublic → List ℕ → Signature → Result (List ℕ) Refusal → Type 0
GivesTopRoot top message s (Ok root) = (root ≡ top.root) ↔ AreValid top message s
GivesTopRoot top message s (Err refusal) = AreValid top message s → ⊥
