-- An answer is 0 exactly where the signature is valid.
use Rattle.std.proofs.Common.{◌≡◌, ◌∙◌, refl, ap, subst, arith, ℕ, ◌<◌, ◌≤◌, inl, inr, true, false, List, ◌++◌, length, Result, Ok, Err}
use Rattle.std.specs.Prelude.{◌≢◌, ◌↔◌, IsOk}
use Rattle.sha2.specs.Sha256.{sha256}
use Rattle.typecodes.specs.declared.fault.Cause.{Cause}
use Rattle.typecodes.specs.declared.fault.Cause.TheVariants.{Truncated, UnknownType, LevelCount, LeafOutOfRange, Trailing}
use Rattle.typecodes.specs.declared.refusal.Refusal.{Refusal}
use Rattle.typecodes.specs.declared.refusal.Refusal.TheVariants.{Unreadable, TypeMismatch, LevelMismatch, RootMismatch, MessageRead}
use Rattle.typecodes.specs.Fault.{cause_number}
use Rattle.typecodes.specs.Refusal.{refusal_number}
use Rattle.typecodes.proofs.Spelling.{one_value}
use Rattle.lms.specs.Signature.{signature as lms_signature}
use Rattle.lms.proofs.Verdicts as lms
use Rattle.lms.specs.Verification.{prefix_of as lms_prefix_of}
use Rattle.hss.specs.Signature.{key_at, signature as hss_signature}
use Rattle.hss.proofs.Verdicts as hss
use Rattle.xmss.specs.Signature.{signature as xmss_signature}
use Rattle.xmss.specs.Verification.{prefix_of as xmss_prefix_of}
use Rattle.xmss.proofs.Verdicts as xmss
use Rattle.boot_verify.specs.declared.key.Key.{Key}
use Rattle.boot_verify.specs.declared.key.Key.TheVariants.{Lms, Hss, Xmss}
use Rattle.boot_verify.specs.Key.{KeyHasPrefix, KeyIsDigest, KeyVerdict, IsSignature, SpellsKey}
use Rattle.boot_verify.specs.Answer.{Answers, IsDigest, IsEarly, IsSigned, RefusesKey, packed, refusal_detail, verdict_answer}
use Rattle.boot_verify.proofs.Keys.{no_fault, not_none, one_key}

-- no cause and no refusal has the number 0
cause_above : (cause : Cause) → 0 < cause_number cause
cause_above Truncated = omega arith
cause_above UnknownType = omega arith
cause_above LevelCount = omega arith
cause_above LeafOutOfRange = omega arith
cause_above Trailing = omega arith

refusal_above : (refusal : Refusal) → 0 < refusal_number refusal
refusal_above (Unreadable fault) = cause_above fault.cause
refusal_above (TypeMismatch level) = omega arith
refusal_above LevelMismatch = omega arith
refusal_above (RootMismatch level) = omega arith
refusal_above MessageRead = omega arith

pub never_zero : (number detail answer : ℕ) → 0 < number → answer ≡ packed number detail → answer ≡ 0 → ⊥
never_zero number detail answer above is zero = omega (arith, above, is, zero)

key_never_zero : (public : List ℕ) (answer : ℕ) → RefusesKey public answer → answer ≡ 0 → ⊥
key_never_zero public answer (inl (_, _, _, is)) zero = never_zero 6 _ answer (omega arith) is zero
key_never_zero public answer (inr (fault, _, is)) zero = never_zero (cause_number fault.cause) fault.place answer (cause_above fault.cause) is zero

pub refused_spells_none : (public : List ℕ) (answer : ℕ) (key : Key) → RefusesKey public answer → SpellsKey key public → ⊥
refused_spells_none public answer key (inl (not_lms, not_hss, not_xmss, _)) spelled = not_none key public spelled not_lms not_hss not_xmss
refused_spells_none public answer key (inr (fault, faulty, _)) spelled = no_fault key public fault spelled faulty

-- an accepting verdict means a valid signature
accepts : (key : Key) (message bytes : List ℕ) (x : Unit {0}) → KeyVerdict key message bytes (Ok x) → IsSignature key message bytes
accepts (Lms key) message bytes x verdict = verdict
accepts (Hss key) message bytes x verdict = verdict
accepts (Xmss key) message bytes x verdict = verdict

accepted : (key : Key) (message bytes : List ℕ) (verdict : Result (Unit {0}) Refusal) → KeyVerdict key message bytes verdict → verdict ≢ Err MessageRead
    → IsSignature key message bytes → IsOk verdict
accepted (Lms key) message bytes verdict is read (s, spelled, valid) = lms.accepted key message bytes verdict is read s spelled valid
accepted (Hss key) message bytes verdict is read (s, spelled, valid) = hss.accepted key message bytes verdict is read s spelled valid
accepted (Xmss key) message bytes verdict is read (s, spelled, valid) = xmss.accepted key message bytes verdict is read s spelled valid

-- 0 is answered for valid signatures alone
signed : (public message bytes : List ℕ) (answer : ℕ) → Answers public message bytes answer → answer ≡ 0 → IsSigned public message bytes
signed public message bytes answer (inl refused) zero = absurd (key_never_zero public answer refused zero)
signed public message bytes answer (inr (key, Ok x, spelled, verdict, read, is)) zero = (key, spelled, accepts key message bytes x verdict)
signed public message bytes answer (inr (key, Err refusal, spelled, verdict, read, is)) zero =
    absurd (never_zero (refusal_number refusal) (refusal_detail refusal) answer (refusal_above refusal) is zero)

zero_of_ok : (verdict : Result (Unit {0}) Refusal) → IsOk verdict → verdict_answer verdict ≡ 0
zero_of_ok (Ok x) ok = refl
zero_of_ok (Err refusal) ok = let never : false ≡ true = ok in absurd (cc)

-- a valid signature is answered by 0
answered : (public message bytes : List ℕ) (answer : ℕ) → Answers public message bytes answer → IsSigned public message bytes → answer ≡ 0
answered public message bytes answer (inl refused) (key, spelled, signs) = absurd (refused_spells_none public answer key refused spelled)
answered public message bytes answer (inr (other, verdict, spelled, is, read, answer_is)) (key, spelled_too, signs) =
    let same = one_key key other public spelled_too spelled in
    answer_is ∙ zero_of_ok verdict (accepted other message bytes verdict is read (subst (λ key. IsSignature key message bytes) same signs))

pub valid_exactly : (public message bytes : List ℕ) (answer : ℕ) → Answers public message bytes answer → (answer ≡ 0) ↔ IsSigned public message bytes
valid_exactly public message bytes answer answers = (signed public message bytes answer answers, answered public message bytes answer answers)

-- ---- the bytes before the message

-- a refusal of the key needs no message
cause_early : (cause : Cause) → cause_number cause ≤ 6
cause_early Truncated = omega arith
cause_early UnknownType = omega arith
cause_early LevelCount = omega arith
cause_early LeafOutOfRange = omega arith
cause_early Trailing = omega arith

pub early_key : (public : List ℕ) (answer : ℕ) → RefusesKey public answer → IsEarly answer
early_key public answer (inl (_, _, _, is)) = (6, _, is, inl (omega arith, omega arith))
early_key public answer (inr (fault, _, is)) = (cause_number fault.cause, fault.place, is, inl (cause_above fault.cause, cause_early fault.cause))

-- nor does a refusal that compared no type and no root, and read no message
pub early_refusal : (refusal : Refusal) (answer : ℕ) → refusal ≢ MessageRead → ((level : ℕ) → refusal ≢ TypeMismatch level)
    → ((level : ℕ) → refusal ≢ RootMismatch level) → answer ≡ verdict_answer (Err refusal) → IsEarly answer
early_refusal (Unreadable fault) answer read types roots is = (cause_number fault.cause, fault.place, is, inl (cause_above fault.cause, cause_early fault.cause))
early_refusal (TypeMismatch level) answer read types roots is = absurd (types level refl)
early_refusal LevelMismatch answer read types roots is = (11, 0, is, inr refl)
early_refusal (RootMismatch level) answer read types roots is = absurd (roots level refl)
early_refusal MessageRead answer read types roots is = absurd (read refl)

-- SHA-256 of the prefix and the message is the message's digest
pub digest_after : (key : Key) (bytes prefix message : List ℕ) → KeyHasPrefix key bytes prefix → KeyIsDigest key message bytes (sha256 (prefix ++ message))
digest_after (Lms key) bytes prefix message (s, spelled, is) = λ t spelled_too.
    ap (λ prefix. sha256 (prefix ++ message)) (is ∙ ap (lms_prefix_of key) (one_value lms_signature s t bytes spelled spelled_too))
digest_after (Hss key) bytes prefix message (s, spelled, count, is) = λ t spelled_too.
    ap (λ prefix. sha256 (prefix ++ message))
    (is ∙ ap (λ s. lms_prefix_of (key_at key.top s (length s.signed)) s.bottom) (one_value hss_signature s t bytes spelled spelled_too))
digest_after (Xmss key) bytes prefix message (s, spelled, is) = λ t spelled_too.
    ap (λ prefix. sha256 (prefix ++ message)) (is ∙ ap (xmss_prefix_of key) (one_value (xmss_signature key.tree) s t bytes spelled spelled_too))

-- the same, for any key that the bytes spell
pub digest_of_bytes : (key : Key) (public bytes prefix message : List ℕ) → SpellsKey key public → KeyHasPrefix key bytes prefix
    → IsDigest public message bytes (sha256 (prefix ++ message))
digest_of_bytes key public bytes prefix message spelled has = λ other spelled_too.
    subst (λ key. KeyIsDigest key message bytes (sha256 (prefix ++ message))) (one_key key other public spelled spelled_too)
    (digest_after key bytes prefix message has)
