-- Leaf uses as they are kept, with a leaf as bytes.
use Rattle.std.specs.Prelude.{◌≡◌, ℕ, List, ◌++◌, map}
use Rattle.lmots.specs.Hashes.{u32str}
use Rattle.sign_core.specs.declared.key.AnyPublic.{AnyPublic}
use Rattle.sign_core.specs.Uses.{LeafUse as Use, MakesUses}
use Rattle.hss.specs.Signature.{Signature as HssSignature, key_at, message_at, signature_at}
use Rattle.lms.specs.declared.key.LmsPublic.{LmsPublic}
use Rattle.sign_core.specs.Uses.{lms_use}
use Rattle.key_audit.specs.declared.uses.LeafUse.{LeafUse}

-- the bytes that name a leaf: its number in 4 bytes, then its tree's identifier
abbrev pub leaf_bytes : Use → List ℕ
leaf_bytes used = u32str used.leaf ++ used.identifier

abbrev pub kept_use : Use → LeafUse
kept_use used = record { leaf = leaf_bytes used; digest = used.digest }

-- These are a signature's uses.
abbrev pub AreUsesOf : AnyPublic → (message bytes : List ℕ) → List LeafUse → Type 0
AreUsesOf public message bytes kept =
    (uses : List Use) × MakesUses public message bytes uses × (kept ≡ map kept_use uses)

-- the use at a level of an HSS signature, as it is kept
abbrev pub hss_use_at : LmsPublic → (message : List ℕ) → HssSignature → (level : ℕ) → LeafUse
hss_use_at top message s level =
    kept_use (lms_use (key_at top s level) (message_at message s level) (signature_at s level))
