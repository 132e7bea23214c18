-- Which leaves a signature uses, and when it is valid: read off its bytes, its message and the public key alone.
use Rattle.std.specs.Prelude.{◌≡◌, ℕ, ◌+◌, List, [], ◌∷◌, ◌++◌, length, map}
use Rattle.std.specs.List.{range_with_len}
use Rattle.typecodes.specs.Layout.{Spells}
use Rattle.lms.specs.declared.key.LmsPublic.{LmsPublic}
use Rattle.lms.specs.Signature.{Signature as LmsSignature, signature as lms_signature}
use Rattle.lms.specs.Verification.{IsValid as IsLmsValid, digest_of as lms_digest_of}
use Rattle.xmss.specs.declared.key.XmssPublic.{XmssPublic}
use Rattle.xmss.specs.Signature.{Signature as XmssSignature, signature as xmss_signature}
use Rattle.xmss.specs.Verification.{IsValid as IsXmssValid, digest_of as xmss_digest_of}
use Rattle.xmss.specs.Writing.{public_bytes as xmss_public_bytes}
use Rattle.hss.specs.Signature.{Signature as HssSignature, signature as hss_signature}
use Rattle.hss.specs.Signature.{key_at, message_at, signature_at as hss_signature_at}
use Rattle.hss.specs.Verification.{IsValid as IsHssValid}
use Rattle.sign_core.specs.declared.key.AnyPublic.{AnyPublic}
use Rattle.sign_core.specs.declared.key.AnyPublic.TheVariants.{Lms, Hss, Xmss}

-- ---- uses

-- A leaf of a tree signs this digest. A tree is named by its I, an XMSS tree by the public key.
pub record LeafUse : Type 0 where
  pub identifier : List ℕ
  pub leaf : ℕ
  pub digest : List ℕ

abbrev pub lms_use : LmsPublic → (message : List ℕ) → LmsSignature → LeafUse
lms_use key message s = record { identifier = key.identifier; leaf = s.q; digest = lms_digest_of key message s }

abbrev pub xmss_use : XmssPublic → (message : List ℕ) → XmssSignature → LeafUse
xmss_use key message s =
    record { identifier = xmss_public_bytes key; leaf = s.index; digest = xmss_digest_of key message s }

-- The signature of these bytes makes these uses: one at each level, from the top down.
abbrev pub MakesUses : AnyPublic → (message bytes : List ℕ) → List LeafUse → Type 0
MakesUses (Lms key) message bytes uses =
    (s : LmsSignature) × Spells lms_signature s bytes × (uses ≡ lms_use key message s ∷ [])
MakesUses (Hss key) message bytes uses =
    (s : HssSignature) × Spells hss_signature s bytes
    × (uses ≡ map (λ i. lms_use (key_at key.top s i) (message_at message s i) (hss_signature_at s i))
    (range_with_len 0 (length s.signed + 1)))
MakesUses (Xmss key) message bytes uses =
    (s : XmssSignature) × Spells (xmss_signature key.tree) s bytes × (uses ≡ xmss_use key message s ∷ [])

-- Two uses are of the same leaf of the same tree.
pub record IsOneLeaf (u v : LeafUse) : Type 0 where
  pub identifier : u.identifier ≡ v.identifier
  pub leaf : u.leaf ≡ v.leaf

-- the use of the bottom level is the last one
abbrev pub IsLast : LeafUse → List LeafUse → Type 0
IsLast u uses = (above : List LeafUse) × (uses ≡ above ++ u ∷ [])

-- ---- validity

-- The bytes spell a signature that is valid for the message under the key: what verification accepts (`KeyVerdict` of
-- an Ok).
abbrev pub IsValidUnder : AnyPublic → (message bytes : List ℕ) → Type 0
IsValidUnder (Lms key) message bytes = (s : LmsSignature) × Spells lms_signature s bytes × IsLmsValid key message s
IsValidUnder (Hss key) message bytes = (s : HssSignature) × Spells hss_signature s bytes × IsHssValid key message s
IsValidUnder (Xmss key) message bytes =
    (s : XmssSignature) × Spells (xmss_signature key.tree) s bytes × IsXmssValid key message s
