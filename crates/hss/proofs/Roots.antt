-- What the roots to which levels lead tell of the levels.
use Rattle.std.proofs.Common.{◌≡◌, ◌∙◌, sym, ap, ℕ, ◌+◌, ◌<◌, ◌≤◌, inl, inr, List, length, Result, Ok, Err, subst, arith}
use Rattle.std.proofs.lemmas.Bool.{cases_lt}
use Rattle.std.specs.Prelude.{◌↔◌}
use Rattle.typecodes.specs.declared.refusal.Refusal.{Refusal}
use Rattle.typecodes.specs.Layout.{Spells}
use Rattle.typecodes.proofs.Spelling.{one_value}
use Rattle.lms.specs.declared.key.LmsPublic.{LmsPublic}
use Rattle.lms.specs.Verification.{IsValid as IsLmsValid, LevelGivesRoot}
use Rattle.lms.specs.Writing.{public_bytes}
use Rattle.hss.specs.Signature.{Signature, key_at, level_count, message_at, signature, signature_at}
use Rattle.hss.specs.declared.key.HssPublic.{HssPublic}
use Rattle.hss.specs.Verification.{GivesRoot, IsValid, IsValidAt, IsSignature}
use Rattle.hss.specs.inner.Verification.{AreValid, GivesTopRoot}
use Rattle.hss.proofs.Verifying.{message_at-above}

-- a level's root is its key's exactly where the level is valid
pub root_at : (top : LmsPublic) (message signed root : List ℕ) (s : Signature) (i : ℕ) → signed ≡ message_at message s i
    → LevelGivesRoot (key_at top s i) signed (signature_at s i) i (Ok root) → (root ≡ (key_at top s i).root) ↔ IsValidAt top message s i
root_at top message signed root s i same gives =
    subst (λ m. (root ≡ (key_at top s i).root) ↔ IsLmsValid (key_at top s i) m (signature_at s i)) same gives

-- where a level has none, not all levels are valid
pub no_root_at : (top : LmsPublic) (message signed : List ℕ) (s : Signature) (i : ℕ) (refusal : Refusal) → i < level_count s → signed ≡ message_at message s i
    → LevelGivesRoot (key_at top s i) signed (signature_at s i) i (Err refusal) → AreValid top message s → ⊥
no_root_at top message signed s i refusal inside same gives valid =
    gives.1 (subst (λ m. IsLmsValid (key_at top s i) m (signature_at s i)) (sym same) (valid i inside))

-- a key with another root
with_root : LmsPublic → List ℕ → LmsPublic
with_root key root = record { pair = key.pair; identifier = key.identifier; root = root }

-- the level above level i signs level i's key, also as it was computed, where that is the same
pub signs_computed : (top key : LmsPublic) (message root bytes : List ℕ) (s : Signature) (i : ℕ) → i < length s.signed → key ≡ key_at top s (i + 1) → root ≡ key.root
    → bytes ≡ public_bytes (record { pair = key.pair; identifier = key.identifier; root = root }) → bytes ≡ message_at message s i
unfolding with_root
signs_computed top key message root bytes s i within key_is same bytes_are =
    let computed : with_root key root ≡ key =
    ap (with_root key) same in
    bytes_are ∙ ap public_bytes (computed ∙ key_is) ∙ message_at-above top message s i within

-- the levels below this one are valid, and with this one all down from it
pub one_more : (top : LmsPublic) (message : List ℕ) (s : Signature) (i : ℕ) → ((j : ℕ) → i + 1 < j → j ≤ length s.signed → IsValidAt top message s j)
    → IsValidAt top message s (i + 1) → (j : ℕ) → i < j → j ≤ length s.signed → IsValidAt top message s j
one_more top message s i below valid j past inside =
    elim (cases_lt (i + 1) j) [
      | inl further ↦ below j further inside
      | inr here ↦ let same : i + 1 ≡ j = omega arith in subst (IsValidAt top message s) same valid
    ]

-- all levels are valid where the top one is, and those below it are
pub all_valid : (top : LmsPublic) (message : List ℕ) (s : Signature) → ((j : ℕ) → 0 < j → j ≤ length s.signed → IsValidAt top message s j)
    → IsValidAt top message s 0 → AreValid top message s
all_valid top message s below valid j inside =
    elim (cases_lt 0 j) [
      | inl past ↦ below j past (omega arith)
      | inr here ↦ let same : 0 ≡ j = omega arith in subst (IsValidAt top message s) same valid
    ]

-- a valid signature that the bytes spell is the one that was decoded
pub signs_decoded : (key : HssPublic) (message bytes : List ℕ) (s : Signature) → Spells signature s bytes → IsSignature key message bytes → IsValid key message s
signs_decoded key message bytes s spelled (t, spelled_too, valid) =
    subst (IsValid key message) (one_value signature t s bytes spelled_too spelled) valid

-- the levels of a valid signature are valid
levels_of : (key : HssPublic) (message : List ℕ) (s : Signature) → level_count s ≡ key.levels → IsValid key message s → AreValid key.top message s
levels_of key message s count valid = λ i inside. valid.levels i (subst (λ n. i < n) count inside)

-- the top level's root is the root of the bytes
pub whole_root : (key : HssPublic) (message bytes : List ℕ) (s : Signature) (result : Result (List ℕ) Refusal) → Spells signature s bytes
    → level_count s ≡ key.levels → GivesTopRoot key.top message s result → GivesRoot key message bytes result
whole_root key message bytes s (Ok root) spelled count exact = (
  λ same. (s, spelled, record { count = count; levels = λ i inside. exact.0 same i (subst (λ n. i < n) (sym count) inside) }),
  λ signs. exact.1 (levels_of key message s count (signs_decoded key message bytes s spelled signs)),
)
whole_root key message bytes s (Err refusal) spelled count never =
    λ signs. never (levels_of key message s count (signs_decoded key message bytes s spelled signs))
