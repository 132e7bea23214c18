-- Whether a signature could be a key's: from what its reader says.
use Rattle.std.proofs.Common.{◌≡◌, ◌∙◌, ℕ, List, Option, Result, Ok, Err, IsErrAnd, inl, inr, refl, sym, ap, subst, true, false}
use Rattle.std.specs.Prelude.{◌↔◌, ◌≢◌, Bool}
use Rattle.std.proofs.lemmas.Bool.{false≢true}
use Rattle.typecodes.specs.Layout.{HasFault, Spells}
use Rattle.typecodes.specs.declared.fault.ReadFault.{ReadFault}
use Rattle.typecodes.specs.declared.types.LmsPair.{LmsPair}
use Rattle.typecodes.proofs.Spelling.{no_value, one_value}
use Rattle.lms.specs.declared.key.LmsPublic.{LmsPublic}
use Rattle.lms.specs.Signature.{Signature as LmsFields, signature as lms_signature}
use Rattle.hss.specs.declared.key.HssPublic.{HssPublic}
use Rattle.hss.specs.Signature.{Signature as HssFields, level_count, signature as hss_signature, signature_at}
use Rattle.xmss.specs.declared.key.XmssPublic.{XmssPublic}
use Rattle.xmss.specs.Signature.{signature as xmss_signature}
use Rattle.command.specs.declared.answer.Done.{Done}
use Rattle.command.specs.declared.refusal.Refusal.{Refusal}
use Rattle.command.specs.declared.trace.Role.TheVariants as role
use Rattle.command.specs.Compared.{ComparesFiles, ComparesWith, CouldBeHss, CouldBeLms, CouldBeXmss}
use Rattle.command.specs.Files.{FailsFile, FailsToReadOrKeep}
use Rattle.command.specs.Trace.{Happening}
use Rattle.command.proofs.PairsReading.{same_file}

-- ---- fields

pub lms_compared : (key : LmsPublic) (bytes : List ℕ) (s : LmsFields) (pair : LmsPair) (same : Bool) → Spells lms_signature s bytes → pair ≡ s.pair
    → (same ≡ true) ↔ (pair ≡ key.pair) → (same ≡ true) ↔ CouldBeLms key bytes
lms_compared key bytes s pair same spelled is equal = (
  λ yes. (s, spelled, sym is ∙ equal.0 yes),
  λ could. equal.1 (is ∙ ap (λ t. t.pair) (one_value lms_signature s could.0 bytes spelled could.1) ∙ could.2),
)

pub hss_compared : (key : HssPublic) (bytes : List ℕ) (s : HssFields) (pair : LmsPair) (same : Bool) → Spells hss_signature s bytes
    → level_count s ≡ key.levels → pair ≡ (signature_at s 0).pair → (same ≡ true) ↔ (pair ≡ key.top.pair) → (same ≡ true) ↔ CouldBeHss key bytes
hss_compared key bytes s pair same spelled count is equal = (
  λ yes. (s, spelled, count, sym is ∙ equal.0 yes),
  λ could. equal.1 (is ∙ ap (λ t. (signature_at t 0).pair) (one_value hss_signature s could.0 bytes spelled could.1) ∙ could.3),
)

-- another number of levels
pub hss_differs : (key : HssPublic) (bytes : List ℕ) (s : HssFields) (levels : ℕ) → Spells hss_signature s bytes → levels ≡ level_count s
    → levels ≢ key.levels → (false ≡ true) ↔ CouldBeHss key bytes
hss_differs key bytes s levels spelled is other = (
  λ never. absurd (false≢true never),
  λ could. absurd (other (is ∙ ap level_count (one_value hss_signature s could.0 bytes spelled could.1) ∙ could.2)),
)

pub lms_unread : (key : LmsPublic) (bytes : List ℕ) (fault : ReadFault) → HasFault lms_signature bytes 0 fault → (false ≡ true) ↔ CouldBeLms key bytes
lms_unread key bytes fault has = (
  λ never. absurd (false≢true never),
  λ could. absurd (no_value lms_signature could.0 bytes 0 fault could.1 has),
)

pub hss_unread : (key : HssPublic) (bytes : List ℕ) (fault : ReadFault) → HasFault hss_signature bytes 0 fault → (false ≡ true) ↔ CouldBeHss key bytes
hss_unread key bytes fault has = (
  λ never. absurd (false≢true never),
  λ could. absurd (no_value hss_signature could.0 bytes 0 fault could.1 has),
)

pub xmss_unread : (key : XmssPublic) (bytes : List ℕ) (fault : ReadFault) → HasFault (xmss_signature key.tree) bytes 0 fault
    → (false ≡ true) ↔ CouldBeXmss key bytes
xmss_unread key bytes fault has = (
  λ never. absurd (false≢true never),
  λ could. absurd (no_value (xmss_signature key.tree) could.0 bytes 0 fault could.1 has),
)

-- ---- files

pub signature_fails : (content : List ℕ → Option (List ℕ)) (signature public : List ℕ) (refusal : Refusal) (answer : Result Done Refusal)
    (old new : List Happening) → IsErrAnd answer (λ e. e ≡ refusal) → FailsToReadOrKeep role.Signature signature refusal old new
    → ComparesFiles content signature public answer old new
signature_fails content signature public refusal (Ok done) old new is fails = absurd is
signature_fails content signature public refusal (Err e) old new is fails =
    inl (e, refl, subst (λ r. FailsToReadOrKeep role.Signature signature r old new) (sym is) fails)

pub key_fails : (content : List ℕ → Option (List ℕ)) (first public : List ℕ) (refusal : Refusal) (answer : Result Done Refusal) (old new : List Happening)
    → IsErrAnd answer (λ e. e ≡ refusal) → FailsFile role.Public public refusal old new → ComparesWith content first public answer old new
key_fails content first public refusal (Ok done) old new is fails = absurd is
key_fails content first public refusal (Err e) old new is fails =
    inl (e, refl, subst (λ r. FailsFile role.Public public r old new) (sym is) fails)

pub same_comparison : (content other : List ℕ → Option (List ℕ)) (first public : List ℕ) (answer : Result Done Refusal) (old new : List Happening)
    → other public ≡ content public → ComparesWith other first public answer old new → ComparesWith content first public answer old new
same_comparison content other first public answer old new same (inl fails) = inl fails
same_comparison content other first public answer old new same (inr (bytes, key, file, reads, compares)) =
    inr (bytes, key, same_file content other role.Public public bytes old new same file, reads, compares)
