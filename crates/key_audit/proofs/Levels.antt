-- A signature's uses, level by level.
use Rattle.std.proofs.Common.{◌≡◌, ◌∙◌, ℕ, ◌+◌, ◌≤◌, List, [], ◌∷◌, ◌++◌, length, refl, sym, ap, subst, arith}
use Rattle.std.specs.Prelude.{map}
use Rattle.std.specs.List.{range_with_len}
use Rattle.std.proofs.lemmas.List.FromFn.{length-map-range_with_len, map-range_with_len_more}
use Rattle.lms.specs.declared.key.LmsPublic.{LmsPublic}
use Rattle.lms.specs.Signature.{Signature as LmsSignature, signature as lms_signature}
use Rattle.typecodes.specs.declared.fault.ReadFault.{ReadFault}
use Rattle.typecodes.specs.Layout.{HasFault, Spells}
use Rattle.typecodes.proofs.Spelling.{no_value}
use Rattle.hss.specs.declared.key.HssPublic.{HssPublic}
use Rattle.xmss.specs.declared.key.XmssPublic.{XmssPublic}
use Rattle.xmss.specs.Signature.{Signature as XmssSignature, signature as xmss_signature}
use Rattle.sign_core.specs.declared.key.AnyPublic.{AnyPublic}
use Rattle.sign_core.specs.declared.key.AnyPublic.TheVariants.{Lms, Hss, Xmss}
use Rattle.sign_core.specs.Once.{IsValidUnder}
use Rattle.hss.specs.Signature.{Signature, key_at, level_count, message_at, signature as hss_signature, signature_at}
use Rattle.sign_core.specs.Uses.{LeafUse as Use, lms_use, xmss_use}
use Rattle.key_audit.specs.declared.uses.LeafUse.{LeafUse}
use Rattle.key_audit.specs.inner.Uses.{AreUsesOf, hss_use_at, kept_use}

-- The uses of the levels above `level`, and its key.
pub record AreAbove (top : LmsPublic) (message : List ℕ) (s : Signature) (level : ℕ) (uses : List LeafUse) (key : LmsPublic) : Type 0 where
  pub items : uses ≡ map (hss_use_at top message s) (range_with_len 0 level)
  pub key_is : key ≡ key_at top s level
  pub within : level ≤ length s.signed

pub level_use : (top : LmsPublic) (message : List ℕ) (s : Signature) (level : ℕ) (key : LmsPublic) (bytes : List ℕ) (own : LmsSignature)
    → key ≡ key_at top s level → bytes ≡ message_at message s level → own ≡ signature_at s level
    → kept_use (lms_use key bytes own) ≡ hss_use_at top message s level
level_use top message s level key bytes own p q r =
    ap (λ k. kept_use (lms_use k bytes own)) p ∙ ap (λ b. kept_use (lms_use (key_at top s level) b own)) q
    ∙ ap (λ t. kept_use (lms_use (key_at top s level) (message_at message s level) t)) r

pub level_added : (top : LmsPublic) (message : List ℕ) (s : Signature) (level : ℕ) (uses : List LeafUse) (key : LmsPublic) (bytes : List ℕ) (own : LmsSignature)
    → AreAbove top message s level uses key → bytes ≡ message_at message s level → own ≡ signature_at s level
    → uses ++ kept_use (lms_use key bytes own) ∷ [] ≡ map (hss_use_at top message s) (range_with_len 0 (level + 1))
level_added top message s level uses key bytes own above q r =
    ap (λ u. uses ++ u ∷ []) (level_use top message s level key bytes own above.key_is q r)
    ∙ ap (λ l. l ++ hss_use_at top message s level ∷ []) above.items
    ∙ sym (map-range_with_len_more (hss_use_at top message s) 0 level level (omega arith))

pub level_count_of : (top : LmsPublic) (message : List ℕ) (s : Signature) (level : ℕ) (uses : List LeafUse) (key : LmsPublic)
    → AreAbove top message s level uses key → length uses ≡ level
level_count_of top message s level uses key above = ap length above.items ∙ length-map-range_with_len (hss_use_at top message s) 0 level

-- ---- a key of each scheme

pub unread_lms : (public : AnyPublic) (key : LmsPublic) (message bytes : List ℕ) (fault : ReadFault) → public ≡ Lms key → IsValidUnder public message bytes
    → HasFault lms_signature bytes 0 fault → ⊥
unread_lms public key message bytes fault is verifies faulty =
    let (s, spelled, valid) = subst (λ p. IsValidUnder p message bytes) is verifies in no_value lms_signature s bytes 0 fault spelled faulty

pub unread_hss : (public : AnyPublic) (key : HssPublic) (message bytes : List ℕ) (fault : ReadFault) → public ≡ Hss key → IsValidUnder public message bytes
    → HasFault hss_signature bytes 0 fault → ⊥
unread_hss public key message bytes fault is verifies faulty =
    let (s, spelled, valid) = subst (λ p. IsValidUnder p message bytes) is verifies in no_value hss_signature s bytes 0 fault spelled faulty

pub unread_xmss : (public : AnyPublic) (key : XmssPublic) (message bytes : List ℕ) (fault : ReadFault) → public ≡ Xmss key → IsValidUnder public message bytes
    → HasFault (xmss_signature key.tree) bytes 0 fault → ⊥
unread_xmss public key message bytes fault is verifies faulty =
    let (s, spelled, valid) = subst (λ p. IsValidUnder p message bytes) is verifies in no_value (xmss_signature key.tree) s bytes 0 fault spelled faulty

pub lms_made : (public : AnyPublic) (key : LmsPublic) (message bytes : List ℕ) (s : LmsSignature) (kept : List LeafUse) → public ≡ Lms key
    → Spells lms_signature s bytes → kept ≡ kept_use (lms_use key message s) ∷ [] → AreUsesOf public message bytes kept
lms_made public key message bytes s kept is spelled made =
    subst (λ p. AreUsesOf p message bytes kept) (sym is) (lms_use key message s ∷ [], (s, spelled, refl), made)

mapped : {A B C : Type 0} (f : A → B) (g : B → C) (xs : List A) → map (λ x. g (f x)) xs ≡ map g (map f xs)
mapped f g [] = refl
mapped f g (x ∷ xs) = ap (λ l. g (f x) ∷ l) (mapped f g xs)

pub hss_made : (public : AnyPublic) (key : HssPublic) (message bytes : List ℕ) (s : Signature) (kept : List LeafUse) → public ≡ Hss key
    → Spells hss_signature s bytes → kept ≡ map (hss_use_at key.top message s) (range_with_len 0 (level_count s)) → AreUsesOf public message bytes kept
hss_made public key message bytes s kept is spelled made =
    let at : ℕ → Use = λ i. lms_use (key_at key.top s i) (message_at message s i) (signature_at s i) in
    subst (λ p. AreUsesOf p message bytes kept) (sym is)
    (map at (range_with_len 0 (length s.signed + 1)), (s, spelled, refl), made ∙ mapped at kept_use (range_with_len 0 (length s.signed + 1)))

pub xmss_made : (public : AnyPublic) (key : XmssPublic) (message bytes : List ℕ) (s : XmssSignature) (kept : List LeafUse) → public ≡ Xmss key
    → Spells (xmss_signature key.tree) s bytes → kept ≡ kept_use (xmss_use key message s) ∷ [] → AreUsesOf public message bytes kept
xmss_made public key message bytes s kept is spelled made =
    subst (λ p. AreUsesOf p message bytes kept) (sym is) (xmss_use key message s ∷ [], (s, spelled, refl), made)
