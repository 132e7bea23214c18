-- What verification of a message in memory says of its signature.
use Rattle.std.proofs.Common.{◌≡◌, inl, inr, ℕ, ◌+◌, ◌^◌, ◌<◌, ◌≤◌, List, [], ◌∷◌, ◌++◌, length, Some, Option, Result, Ok, Err, IsOk, refl, sym, ap, subst, ◌∙◌, arith, true≢false, length-append}
use Rattle.std.specs.Prelude.{◌≢◌}
use Rattle.std.specs.declared.io.ErrorKind.{ErrorKind}
use Rattle.typecodes.specs.declared.refusal.Refusal.{Refusal}
use Rattle.typecodes.specs.declared.refusal.Refusal.TheVariants.{MessageRead}
use Rattle.typecodes.specs.Message.{CantBeRead, Gave, ReadOutcome, Transitions}
use Rattle.lms.proofs.Verdicts.{accepted as lms_accepted}
use Rattle.hss.proofs.Verdicts.{accepted as hss_accepted}
use Rattle.xmss.proofs.Verdicts.{accepted as xmss_accepted}
use Rattle.sign_core.specs.declared.key.AnyPublic.{AnyPublic}
use Rattle.sign_core.specs.declared.key.AnyPublic.TheVariants.{Lms, Hss, Xmss}
use Rattle.sign_core.specs.Key.{KeyLeavesMessage, KeyVerdict}
use Rattle.sign_core.specs.Once.{IsValidUnder}
use Rattle.sign_core.proofs.records.ValidSignatures.{accepted}
use Rattle.key_audit.specs.declared.given.Given.{Given}
use Rattle.key_audit.specs.declared.in_memory.InMemory.{InMemory}
use Rattle.key_audit.specs.Given.{IsValidGiven}
use Rattle.key_audit.specs.inner.InMemory.{GivesNext}

-- what is left to read
abbrev pub rest_of : InMemory → Option (List ℕ)
rest_of message = Some message.rest.now

-- ---- reads of a message in memory

err-never : (kind : ErrorKind) (bytes : List ℕ) → ◌≡◌ {A = ReadOutcome} (Err kind) (Ok bytes) → ⊥
err-never kind bytes is = absurd cc

never-fails : (outcomes : List ReadOutcome) (kind : ErrorKind) (old new : InMemory) → Transitions GivesNext (outcomes ++ Err kind ∷ []) old new → ⊥
never-fails [] kind old new (next, (bytes, is, split), end) = err-never kind bytes is
never-fails (first ∷ later) kind old new (next, step, rest) = never-fails later kind next new rest

-- reads give no more than there is
gives : (outcomes : List ReadOutcome) (text : List ℕ) (old new : InMemory) → Transitions GivesNext outcomes old new → Gave outcomes text
    → length text ≤ length old.rest.now
gives [] text old new end gave = omega (arith, ap length gave)
gives (Ok read ∷ later) text old new (next, (bytes, is, split), rest) (some, (others, sum_of, gave)) =
    let fewer = gives later others next new rest gave in
    let same : read ≡ bytes = cc in
    let sum : length text ≡ length read + length others = ap length sum_of ∙ length-append read others in
    let all : length old.rest.now ≡ length bytes + length next.rest.now = ap length split ∙ length-append bytes next.rest.now in
    omega (arith, sum, all, fewer, ap length same)
gives (Err kind ∷ later) text old new steps never = absurd never

-- only a message of 2^60 bytes or more can't be read
cant : (old new : InMemory) → CantBeRead GivesNext old new → 2 ^ 60 ≤ length old.rest.now
cant old new (inl (kind, text, (outcomes, steps, gave))) = absurd (never-fails outcomes kind old new steps)
cant old new (inr (text, (outcomes, steps, gave), much)) = let fewer = gives outcomes text old new steps gave in omega (arith, much, fewer)

-- ---- what it was answered

-- A message that can't be read was so before.
left-unread : (A : Type 0) (public : AnyPublic) (text : List ℕ) (old new : InMemory) → KeyLeavesMessage {A = A} GivesNext rest_of public text old new (Err MessageRead)
    → CantBeRead GivesNext old new
left-unread A (Lms key) text old new leaves = leaves
left-unread A (Hss key) text old new leaves = leaves
left-unread A (Xmss key) text old new leaves = leaves

was-short : {A : Type 0} (public : AnyPublic) (text : List ℕ) (old new : InMemory) (x : A) → KeyLeavesMessage GivesNext rest_of public text old new (Ok x)
    → length text < 2 ^ 60
was-short (Lms key) text old new x leaves = leaves.short
was-short (Hss key) text old new x leaves = leaves.short
was-short (Xmss key) text old new x leaves = leaves.short

-- a valid signature is refused for no other reason
only-unread : (public : AnyPublic) (text bytes : List ℕ) (result : Result (Unit {0}) Refusal) → KeyVerdict public text bytes result
    → result ≢ Err MessageRead → IsValidUnder public text bytes → IsOk result
only-unread (Lms key) text bytes result verdict read (s, spelled, valid) = lms_accepted key text bytes result verdict read s spelled valid
only-unread (Hss key) text bytes result verdict read (s, spelled, valid) = hss_accepted key text bytes result verdict read s spelled valid
only-unread (Xmss key) text bytes result verdict read (s, spelled, valid) = xmss_accepted key text bytes result verdict read s spelled valid

judged : (public : AnyPublic) (text bytes : List ℕ) (old new : InMemory) (result : Result (Unit {0}) Refusal) → text ≡ old.rest.now
    → KeyVerdict public text bytes result → KeyLeavesMessage GivesNext rest_of public text old new result
    → (IsOk result → IsValidUnder public text bytes × (length text < 2 ^ 60)) × (IsValidUnder public text bytes → length text < 2 ^ 60 → IsOk result)
judged public text bytes old new (Ok x) whole verdict leaves =
    (λ _. (accepted public text bytes x verdict, was-short public text old new x leaves), λ verifies short. refl)
judged public text bytes old new (Err refusal) whole verdict leaves = (
  λ is. absurd (true≢false (sym is)),
  λ verifies short. only-unread public text bytes (Err refusal) verdict
      (λ unread.
      let much : 2 ^ 60 ≤ length old.rest.now =
      cant old new (left-unread (Unit {0}) public text old new (subst (KeyLeavesMessage GivesNext rest_of public text old new) unread leaves)) in
      not_both (2 ^ 60) (length text) (length old.rest.now) (ap length whole) short much)
      verifies,
) where
  not_both : (most a b : ℕ) → a ≡ b → a < most → most ≤ b → ⊥
  not_both most a b same within_limit much = omega (arith, same, within_limit, much)

-- The answer says whether a given signature is valid.
pub judges : (public : AnyPublic) (given : Given) (text bytes : List ℕ) (old new : InMemory) (result : Result (Unit {0}) Refusal)
    → text ≡ old.rest.now → old.rest.now ≡ given.message.items → bytes ≡ given.signature.items
    → KeyVerdict public text bytes result → KeyLeavesMessage GivesNext rest_of public text old new result
    → (IsOk result → IsValidGiven public given) × (IsValidGiven public given → IsOk result)
judges public given text bytes old new result whole is_message is_signature verdict leaves =
    let (ok, back) = judged public text bytes old new result whole verdict leaves in
    let same : text ≡ given.message.items = whole ∙ is_message in (
      λ is. let (verifies, short) = ok is in record {
        verifies = subst (λ t. IsValidUnder public t given.signature.items) same (subst (IsValidUnder public text) is_signature verifies);
        short = subst (λ (t : List ℕ). length t < 2 ^ 60) same short;
      },
      λ valid. back
          (subst (IsValidUnder public text) (sym is_signature) (subst (λ t. IsValidUnder public t given.signature.items) (sym same) valid.verifies))
          (subst (λ (t : List ℕ). length t < 2 ^ 60) (sym same) valid.short),
    )
