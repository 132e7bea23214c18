-- The keys and signatures that trees' secrets make, and their bytes (RFC 8554 6.1 and 6.2).
use Rattle.std.specs.Prelude.{◌≡◌, ℕ, ◌+◌, ◌<◌, ◌^◌, List, [], ◌∷◌, ◌++◌, length, map, drop, slice_index_or}
use Rattle.std.specs.List.{flat_map, zip}
use Rattle.typecodes.specs.declared.types.LmsPair.{LmsPair}
use Rattle.typecodes.specs.Types.{height_of}
use Rattle.lmots.specs.Key.{message_digest_of}
use Rattle.lmots.specs.Hashes.{u32str}
use Rattle.lms.specs.declared.key.LmsPublic.{LmsPublic}
use Rattle.lms.specs.Signature.{Signature as LmsSignature}
use Rattle.lms.specs.Secret.{leaf_path, public_of as lms_public_of}
use Rattle.lms.specs.SigningTree.{path_of_tree}
use Rattle.lms.specs.Writing.{public_bytes as lms_public_bytes, signature_bytes as lms_signature_bytes}
use Rattle.lms.specs.Writing.{textbook as lms_textbook}
use Rattle.hss.specs.declared.key.HssPublic.{HssPublic}
use Rattle.hss.specs.declared.secret.Level.{Level}
use Rattle.hss.specs.SignedKey.{SignedKey}
use Rattle.hss.specs.Signature.{Signature, message_at}
use Rattle.hss.specs.Secret.{Signing, key_of, signature_of_level}

-- ---- the bytes

-- u32str(L) || the top tree's public key
abbrev pub public_bytes : HssPublic → List ℕ
public_bytes key = u32str key.levels ++ lms_public_bytes key.top

-- a level's signature || the next level's public key
abbrev pub signed_key_bytes : SignedKey → List ℕ
signed_key_bytes signed = lms_signature_bytes signed.signature ++ lms_public_bytes signed.key

-- u32str(L - 1) || the signed keys || the bottom level's signature
abbrev pub signature_bytes : Signature → List ℕ
signature_bytes s = u32str (length s.signed) ++ flat_map signed_key_bytes s.signed ++ lms_signature_bytes s.bottom

-- ---- the textbook signature of levels: the ones above the bottom, from the top down, and the bottom one

abbrev pub all_levels : {L : Type 0} → List L → L → List L
all_levels above bottom = above ++ bottom ∷ []

abbrev pub level_at : {L : Type 0} → List L → L → ℕ → L
level_at above bottom i = slice_index_or (all_levels above bottom) i bottom

-- The signature of levels: above the bottom, each level's signature and after it the next level's key.
abbrev pub signature_of_levels : {L : Type 0} → (L → LmsSignature) → (L → LmsPublic) → List L → L → Signature
signature_of_levels signature key above bottom =
    let nexts = drop 1 (above ++ bottom ∷ []) in record {
      signed = map (λ pair. record { signature = signature pair.0; key = key pair.1 }) (zip above nexts);
      bottom = signature bottom;
    }

abbrev pub public_of : List Signing → Signing → HssPublic
public_of above bottom = record {
  levels = length above + 1;
  top = lms_public_of (level_at above bottom 0).secret;
}

-- The textbook signature: the textbook signatures of the levels' trees, and after each the next tree's key.
abbrev pub textbook : List Signing → Signing → Signature
textbook above bottom = signature_of_levels
    (λ level. lms_textbook level.secret level.leaf level.randomizer level.digest) (λ level. lms_public_of level.secret)
    above bottom

-- the values have their sizes, and the leaf is in the tree
pub record IsSized (level : Signing) : Type 0 where
  pub identifier : length level.secret.identifier ≡ 16
  pub randomizer : length level.randomizer ≡ 32
  pub inside : level.leaf < 2 ^ height_of level.secret.pair.tree

-- the same for each level
abbrev pub AreSized : List Signing → Signing → Type 0
AreSized above bottom = (i : ℕ) → i < length above + 1 → IsSized (level_at above bottom i)

-- each level's leaf is in its tree, and its digest is the digest of what it signs
pub record AreSigning (above : List Signing) (bottom : Signing) (message : List ℕ) : Type 0 where
  pub leaves : (i : ℕ) → i < length above + 1 → let level = level_at above bottom i in
      level.leaf < 2 ^ height_of level.secret.pair.tree
  pub digests : (i : ℕ) → i < length above + 1 → let level = level_at above bottom i in
      level.digest ≡ message_digest_of level.secret.identifier level.leaf level.randomizer
      (message_at message (textbook above bottom) i)

-- ---- the signature of levels with given roots and paths

abbrev pub made_signed_key : Level → LmsPublic → SignedKey
made_signed_key level next = record { signature = signature_of_level level; key = next }

-- the signature of levels, and their public key
abbrev pub made_signature : List Level → Level → Signature
made_signature above bottom = signature_of_levels signature_of_level key_of above bottom

abbrev pub made_public : List Level → Level → HssPublic
made_public above bottom = record { levels = length above + 1; top = key_of (level_at above bottom 0) }

abbrev pub pairs_of : List Level → Level → List LmsPair
pairs_of above bottom = map (λ level. level.tree.secret.pair) (all_levels above bottom)

-- each level has its secret's root and its leaf's path
pub record FromSecrets (above : List Level) (bottom : Level) : Type 0 where
  pub roots : (i : ℕ) → i < length above + 1 → let level = level_at above bottom i in
      level.tree.root ≡ (lms_public_of level.tree.secret).root
  pub paths : (i : ℕ) → i < length above + 1 → let level = level_at above bottom i in
      path_of_tree level.tree ≡ leaf_path level.tree.secret level.tree.leaf

-- each level's digest is the digest of what it signs, and the bottom signs the message
abbrev pub AreDigests : List Level → Level → List ℕ → Type 0
AreDigests above bottom message =
    (i : ℕ) → i < length above + 1 → let level = level_at above bottom i in
    level.digest ≡ message_digest_of level.tree.secret.identifier level.tree.leaf level.randomizer
    (message_at message (made_signature above bottom) i)
