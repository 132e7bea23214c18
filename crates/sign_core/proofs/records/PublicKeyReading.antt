-- A decoded key is the one that its bytes spell.
use Rattle.std.proofs.Common.{◌≡◌, ◌∙◌, sym, ap, arith, ℕ, inl, inr, List, length, Result, Ok, Err, IfErr, IfOk}
use Rattle.typecodes.proofs.Spelling.{no_value, one_value}
use Rattle.lms.specs.Key.{public_key as lms_public_key}
use Rattle.hss.specs.Key.{public_key as hss_public_key}
use Rattle.xmss.specs.Key.{public_key as xmss_public_key}
use Rattle.sign_core.specs.declared.key.AnyPublic.{AnyPublic}
use Rattle.sign_core.specs.declared.key.AnyPublic.TheVariants.{Lms, Hss, Xmss}
use Rattle.sign_core.specs.declared.key.KeyFault.{KeyFault}
use Rattle.sign_core.specs.declared.key.KeyFault.TheVariants.{Length, Unreadable}
use Rattle.sign_core.specs.Key.{KeyHasFault, SpellsKey}
use Rattle.lms.proofs.Sizes.{size-public_key as size-lms_key}
use Rattle.sign_core.proofs.records.PublicKeySizes.{size-hss_key, size-xmss_key}

-- two schemes have two lengths
apart : {A : Type 0} (m n k : ℕ) → k ≡ m → k ≡ n → (m ≡ n → ⊥) → A
apart m n k is_m is_n differs = absurd (differs (sym is_m ∙ is_n))

pub one_key : (key other : AnyPublic) (bytes : List ℕ) → SpellsKey key bytes → SpellsKey other bytes → key ≡ other
one_key (Lms a) (Lms b) bytes first second = ap Lms (one_value lms_public_key a b bytes first second)
one_key (Lms a) (Hss b) bytes first second = apart 56 60 (length bytes) (size-lms_key a bytes first) (size-hss_key b bytes second) (λ e. omega (arith, e))
one_key (Lms a) (Xmss b) bytes first second = apart 56 68 (length bytes) (size-lms_key a bytes first) (size-xmss_key b bytes second) (λ e. omega (arith, e))
one_key (Hss a) (Lms b) bytes first second = apart 60 56 (length bytes) (size-hss_key a bytes first) (size-lms_key b bytes second) (λ e. omega (arith, e))
one_key (Hss a) (Hss b) bytes first second = ap Hss (one_value hss_public_key a b bytes first second)
one_key (Hss a) (Xmss b) bytes first second = apart 60 68 (length bytes) (size-hss_key a bytes first) (size-xmss_key b bytes second) (λ e. omega (arith, e))
one_key (Xmss a) (Lms b) bytes first second = apart 68 56 (length bytes) (size-xmss_key a bytes first) (size-lms_key b bytes second) (λ e. omega (arith, e))
one_key (Xmss a) (Hss b) bytes first second = apart 68 60 (length bytes) (size-xmss_key a bytes first) (size-hss_key b bytes second) (λ e. omega (arith, e))
one_key (Xmss a) (Xmss b) bytes first second = ap Xmss (one_value xmss_public_key a b bytes first second)

pub no_key : (key : AnyPublic) (bytes : List ℕ) (fault : KeyFault) → SpellsKey key bytes → KeyHasFault bytes fault → ⊥
no_key (Lms key) bytes (Length n) spelled (is, not_lms, _, _) = not_lms (is ∙ size-lms_key key bytes spelled)
no_key (Hss key) bytes (Length n) spelled (is, _, not_hss, _) = not_hss (is ∙ size-hss_key key bytes spelled)
no_key (Xmss key) bytes (Length n) spelled (is, _, _, not_xmss) = not_xmss (is ∙ size-xmss_key key bytes spelled)
no_key (Lms key) bytes (Unreadable fault) spelled (inl (len, faulty)) = no_value lms_public_key key bytes 0 fault spelled faulty
no_key (Lms key) bytes (Unreadable fault) spelled (inr (inl (len, faulty))) = apart 56 60 (length bytes) (size-lms_key key bytes spelled) len (λ e. omega (arith, e))
no_key (Lms key) bytes (Unreadable fault) spelled (inr (inr (len, faulty))) = apart 56 68 (length bytes) (size-lms_key key bytes spelled) len (λ e. omega (arith, e))
no_key (Hss key) bytes (Unreadable fault) spelled (inl (len, faulty)) = apart 60 56 (length bytes) (size-hss_key key bytes spelled) len (λ e. omega (arith, e))
no_key (Hss key) bytes (Unreadable fault) spelled (inr (inl (len, faulty))) = no_value hss_public_key key bytes 0 fault spelled faulty
no_key (Hss key) bytes (Unreadable fault) spelled (inr (inr (len, faulty))) = apart 60 68 (length bytes) (size-hss_key key bytes spelled) len (λ e. omega (arith, e))
no_key (Xmss key) bytes (Unreadable fault) spelled (inl (len, faulty)) = apart 68 56 (length bytes) (size-xmss_key key bytes spelled) len (λ e. omega (arith, e))
no_key (Xmss key) bytes (Unreadable fault) spelled (inr (inl (len, faulty))) = apart 68 60 (length bytes) (size-xmss_key key bytes spelled) len (λ e. omega (arith, e))
no_key (Xmss key) bytes (Unreadable fault) spelled (inr (inr (len, faulty))) = no_value xmss_public_key key bytes 0 fault spelled faulty

-- a right answer is the key of these bytes
pub spelled_read : (bytes : List ℕ) (answer : Result AnyPublic KeyFault) → IfOk answer (λ key. SpellsKey key bytes) → IfErr answer (KeyHasFault bytes)
    → (key : AnyPublic) → SpellsKey key bytes → answer ≡ Ok key
spelled_read bytes (Ok read) ok err key spelled = ap Ok (one_key read key bytes ok spelled)
spelled_read bytes (Err fault) ok err key spelled = absurd (no_key key bytes fault spelled err)
