-- The bytes of textbook signatures spell them.
use Rattle.std.proofs.Common.{◌≡◌, ◌∙◌, refl, sym, ap, ℕ, zero, suc, ◌+◌, ◌<◌, ◌≤◌, List, [], ◌∷◌, ◌++◌, length, take, get_or, subst, subst₂, arith, add-one, append-nil}
use Rattle.std.specs.List.{flat_map}
use Rattle.std.proofs.lemmas.List.{get_or_at, take_all, take_more}
use Rattle.std.proofs.lemmas.List.Concat.{flat_map-append}
use Rattle.std.proofs.lemmas.List.FromFn.{get_or-map-range_with_len, length-map-range_with_len}
use Rattle.sha2.proofs.Facts256.{length-sha256}
use Rattle.typecodes.specs.Types.{height_of}
use Rattle.typecodes.specs.Layout.{Spells}
use Rattle.merkle.specs.Tree.{node}
use Rattle.lms.specs.declared.key.LmsPublic.{LmsPublic}
use Rattle.typecodes.specs.declared.secret.LmsSecret.{LmsSecret}
use Rattle.lms.specs.Signature.{Signature as LmsSignature, signature as lms_signature}
use Rattle.lms.specs.Key.{public_key as lms_public_key}
use Rattle.lms.specs.Secret.{joins_of, leaves_of, leaf_path, public_of as lms_public_of}
use Rattle.lms.specs.Writing.{public_bytes as lms_public_bytes, signature_bytes as lms_signature_bytes, textbook as lms_textbook}
use Rattle.lms.proofs.SigningBytes.{public_spelled, signed_spelled}
use Rattle.hss.specs.Key.{public_key}
use Rattle.hss.specs.SignedKey.{SignedKey, signed_keys}
use Rattle.hss.specs.Signature.{signature}
use Rattle.hss.specs.Secret.{Signing}
use Rattle.hss.specs.Writing.{IsSized, level_at, public_bytes, public_of, signature_bytes, signed_key_bytes, textbook}
use Rattle.hss.proofs.Bytes.{key-spelled, keys-more, keys-none, signed_key-spelled, whole-spelled}
use Rattle.hss.proofs.Making.{signed-at, signed-count}

-- a node is a hash
node-size : (secret : LmsSecret) (k j : ℕ) → length (node (leaves_of secret) (joins_of secret) k j) ≡ 32
unfolding node
node-size secret zero j = length-sha256 _
node-size secret (suc k) j = length-sha256 _

-- so are the nodes of a path
path-size : (secret : LmsSecret) (q i : ℕ) → i < height_of secret.pair.tree → length (get_or (leaf_path secret q) i []) ≡ 32
path-size secret q i within =
    ap length (get_or-map-range_with_len _ 0 (height_of secret.pair.tree) i i [] within (omega arith)) ∙ node-size secret i _

-- a tree's key and its signatures are spelled by their bytes
tree-spelled : (secret : LmsSecret) → length secret.identifier ≡ 16 → Spells lms_public_key (lms_public_of secret) (lms_public_bytes (lms_public_of secret))
tree-spelled secret size = public_spelled (lms_public_of secret) size (node-size secret (height_of secret.pair.tree) 0)

level-spelled : (level : Signing) → IsSized level
    → Spells lms_signature (lms_textbook level.secret level.leaf level.randomizer level.digest) (lms_signature_bytes (lms_textbook level.secret level.leaf level.randomizer level.digest))
level-spelled level sized =
    let h = height_of level.secret.pair.tree in
    signed_spelled level.secret level.leaf level.randomizer level.digest (leaf_path level.secret level.leaf) sized.inside sized.randomizer (length-map-range_with_len _ 0 h) (path-size level.secret level.leaf)

-- so is the levels' key
pub public-spelled : (above : List Signing) (bottom : Signing) → length above ≤ 7 → IsSized (level_at above bottom 0) → Spells public_key (public_of above bottom) (public_bytes (public_of above bottom))
public-spelled above bottom within_limit sized =
    key-spelled (public_of above bottom) (omega arith) (omega arith) (tree-spelled (level_at above bottom 0).secret sized.identifier)

-- the signed keys of the levels, up to level k
keys-spelled : (above : List Signing) (bottom : Signing) (k : ℕ) → k ≤ length above → ((i : ℕ) → i < length above + 1 → IsSized (level_at above bottom i))
    → Spells (signed_keys k) (take k (textbook above bottom).signed) (flat_map signed_key_bytes (take k (textbook above bottom).signed))
keys-spelled above bottom zero within sized = keys-none
keys-spelled above bottom (suc k) within sized =
    let signature_of : Signing → LmsSignature = λ level. lms_textbook level.secret level.leaf level.randomizer level.digest in
    let key_of : Signing → LmsPublic = λ level. lms_public_of level.secret in
    let signed = (textbook above bottom).signed in
    let level = level_at above bottom k in
    let next = level_at above bottom (k + 1) in
    let one : SignedKey = record { signature = signature_of level; key = key_of next } in
    let here : get_or signed k one ≡ one = signed-at signature_of key_of above bottom k one (omega arith) in
    let more : take (k + 1) signed ≡ take k signed ++ one ∷ [] = take_more signed k one (omega (arith, signed-count signature_of key_of above bottom)) ∙ ap (λ x. take k signed ++ x ∷ []) here in
    let bytes : flat_map signed_key_bytes (take (k + 1) signed) ≡ flat_map signed_key_bytes (take k signed) ++ signed_key_bytes one =
    ap (flat_map signed_key_bytes) more ∙ flat_map-append signed_key_bytes (take k signed) (one ∷ []) ∙ ap (λ b. flat_map signed_key_bytes (take k signed) ++ b) (append-nil (signed_key_bytes one)) in
    let last = signed_key-spelled one (lms_signature_bytes one.signature) (lms_public_bytes one.key) (level-spelled level (sized k (omega arith))) (tree-spelled next.secret (sized (k + 1) (omega arith)).identifier) in
    let all = keys-more k (take k signed) one (flat_map signed_key_bytes (take k signed)) (signed_key_bytes one) (keys-spelled above bottom k (omega arith) sized) last in
    subst (λ n. Spells (signed_keys n) (take n signed) (flat_map signed_key_bytes (take n signed))) (add-one k)
    (subst₂ (Spells (signed_keys (k + 1))) (sym more) (sym bytes) all)

-- A textbook signature of at most 8 levels is spelled by its bytes.
pub textbook-spelled : (above : List Signing) (bottom : Signing) → length above ≤ 7 → ((i : ℕ) → i < length above + 1 → IsSized (level_at above bottom i))
    → Spells signature (textbook above bottom) (signature_bytes (textbook above bottom))
textbook-spelled above bottom within_limit sized =
    let signature_of : Signing → LmsSignature = λ level. lms_textbook level.secret level.leaf level.randomizer level.digest in
    let key_of : Signing → LmsPublic = λ level. lms_public_of level.secret in
    let s = textbook above bottom in
    let n = length above in
    let count : length s.signed ≡ n = signed-count signature_of key_of above bottom in
    let all : take n s.signed ≡ s.signed = take_all n s.signed (omega arith) in
    let keys = subst₂ (λ n signed. Spells (signed_keys n) signed (flat_map signed_key_bytes signed)) (sym count) all (keys-spelled above bottom n (omega arith) sized) in
    let last : level_at above bottom n ≡ bottom = get_or_at above bottom [] bottom n refl in
    whole-spelled s (flat_map signed_key_bytes s.signed) (lms_signature_bytes s.bottom) (omega (arith, count)) keys (level-spelled bottom (subst IsSized last (sized n (omega arith))))
