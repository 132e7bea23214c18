-- What the bytes before a message tell.
use Rattle.std.proofs.Common.{◌≡◌, ◌∙◌, sym, ap, subst, arith, ℕ, inl, inr, List, ◌++◌, length, take}
use Rattle.sha2.specs.Sha256.{sha256}
use Rattle.typecodes.proofs.Spelling.{one_value}
use Rattle.lms.specs.Signature.{signature as lms_signature}
use Rattle.lms.specs.Verification.{prefix_of as lms_prefix_of}
use Rattle.hss.specs.Signature.{key_at, signature as hss_signature}
use Rattle.xmss.specs.Signature.{signature as xmss_signature}
use Rattle.xmss.specs.Verification.{prefix_of as xmss_prefix_of}
use Rattle.boot_verify.specs.declared.key.Key.{Key}
use Rattle.boot_verify.specs.declared.key.Key.TheVariants.{Lms, Hss, Xmss}
use Rattle.boot_verify.specs.Key.{KeyHasPrefix, prefix_length}
use Rattle.boot_verify.specs.Answer.{GivesPrefix, IsDigest, IsEarly, IsPrefix, packed}
use Rattle.boot_verify.proofs.Keys.{one_key}
use Rattle.boot_verify.proofs.Answers.{digest_of_bytes, never_zero}

same_prefix : (key : Key) (bytes p q : List ℕ) → KeyHasPrefix key bytes p → KeyHasPrefix key bytes q → p ≡ q
same_prefix (Lms key) bytes p q (s, spelled, is) (t, spelled_too, is_too) =
    is ∙ ap (lms_prefix_of key) (one_value lms_signature s t bytes spelled spelled_too) ∙ sym is_too
same_prefix (Hss key) bytes p q (s, spelled, count, is) (t, spelled_too, count_too, is_too) =
    is ∙ ap (λ s. lms_prefix_of (key_at key.top s (length s.signed)) s.bottom) (one_value hss_signature s t bytes spelled spelled_too) ∙ sym is_too
same_prefix (Xmss key) bytes p q (s, spelled, is) (t, spelled_too, is_too) =
    is ∙ ap (xmss_prefix_of key) (one_value (xmss_signature key.tree) s t bytes spelled spelled_too) ∙ sym is_too

-- a key and a signature have one prefix
pub one_prefix : (public bytes : List ℕ) (n m : ℕ) (p q : List ℕ) → IsPrefix public bytes n p → IsPrefix public bytes m q → (n ≡ m) × (p ≡ q)
one_prefix public bytes n m p q (key, spelled, count, has) (other, spelled_too, count_too, has_too) =
    let same = one_key other key public spelled_too spelled in (
      count ∙ sym (subst (λ k. m ≡ prefix_length k) same count_too),
      same_prefix key bytes p q has (subst (λ k. KeyHasPrefix k bytes q) same has_too),
    )

-- an equal one is theirs, too
pub equal_prefix : (public bytes : List ℕ) (n m : ℕ) (p q : List ℕ) → m ≡ n → q ≡ p → IsPrefix public bytes n p → IsPrefix public bytes m q
equal_prefix public bytes n m p q length_is q_is (key, spelled, count, has) =
    (key, spelled, length_is ∙ count, subst (KeyHasPrefix key bytes) (sym q_is) has)

-- SHA-256 of it and the message is the message's digest
pub digest_of_prefix : (public bytes prefix message digest : List ℕ) (n : ℕ) → IsPrefix public bytes n prefix → digest ≡ sha256 (prefix ++ message)
    → IsDigest public message bytes digest
digest_of_prefix public bytes prefix message digest n (key, spelled, count, has) same =
    subst (IsDigest public message bytes) (sym same) (digest_of_bytes key public bytes prefix message spelled has)

pub given : (public bytes room : List ℕ) (n answer : ℕ) → IsPrefix public bytes n (take n room) → answer ≡ packed 9 n → GivesPrefix public bytes room answer
given public bytes room n answer is answer_is =
    inl (n, answer_is, is, λ message. let (key, spelled, count, has) = is in digest_of_bytes key public bytes (take n room) message spelled has)

pub early_never_zero : (answer : ℕ) → IsEarly answer → answer ≡ 0 → ⊥
early_never_zero answer (number, detail, is, inl (above, most)) zero = never_zero number detail answer above is zero
early_never_zero answer (number, detail, is, inr eleven) zero = never_zero number detail answer (omega (arith, eleven)) is zero
