-- The signature of levels, level by level.
use Rattle.std.proofs.Common.{add_comm, ◌≡◌, ◌∙◌, refl, sym, ap, ap₂, ℕ, ◌+◌, ◌<◌, List, [], ◌∷◌, ◌++◌, length, map, drop, get_or, subst, arith, length-append, length-drop}
use Rattle.std.specs.List.{zip}
use Rattle.std.proofs.lemmas.List.{get_or-drop, get_or-map, get_or_append_left, get_or_at, length-map, map-append, same_lists}
use Rattle.std.proofs.lemmas.Simd.{map-map}
use Rattle.std.proofs.lemmas.Slice.Zip.{firsts-zip, get_or-zip, length-zip, seconds-zip}
use Rattle.lms.specs.declared.key.LmsPublic.{LmsPublic}
use Rattle.lms.specs.Signature.{Signature as LmsSignature}
use Rattle.lms.specs.Secret.{leaf_path, public_of as lms_public_of}
use Rattle.lms.specs.SigningTree.{path_of_tree}
use Rattle.lms.specs.Writing.{made_signature as lms_made_signature, textbook as lms_textbook}
use Rattle.lms.specs.Verification.{IsValid as IsLmsValid}
use Rattle.lms.proofs.Signing.{signed_valid}
use Rattle.hss.specs.SignedKey.{SignedKey}
use Rattle.hss.specs.Signature.{Signature, key_at, keys_of, message_at, signature_at, signatures_of}
use Rattle.hss.specs.Verification.{IsValid}
use Rattle.hss.specs.Secret.{Signing, key_of, signature_of_level, signing_of}
use Rattle.hss.specs.Writing.{AreDigests, FromSecrets, AreSigning, level_at, all_levels, made_public, public_of, made_signature, signature_of_levels, textbook}
use Rattle.hss.specs.declared.secret.Level.{Level}

module _ {L : Type 0} (signature : L → LmsSignature) (key : L → LmsPublic) (above : List L) (bottom : L) where
  -- each level above the bottom has a next one
  nexts-count : length (drop 1 (all_levels above bottom)) ≡ length above
  nexts-count = omega (arith, length-drop 1 (all_levels above bottom), length-append above (bottom ∷ []))

  -- as many keys are signed
  pub signed-count : length (signature_of_levels signature key above bottom).signed ≡ length above
  signed-count =
      length-map (zip above (drop 1 (all_levels above bottom))) _
      ∙ omega (arith, length-zip above (drop 1 (all_levels above bottom)), nexts-count)

  -- the signatures are the levels'
  signatures : signatures_of (signature_of_levels signature key above bottom) ≡ map signature (all_levels above bottom)
  signatures =
      let nexts = drop 1 (all_levels above bottom) in
      let made : L × L → SignedKey = λ pair. record { signature = signature pair.0; key = key pair.1 } in
      let first : L × L → L = λ pair. pair.0 in
      let front : map (λ signed. signed.signature) (map made (zip above nexts)) ≡ map signature above =
      map-map (λ signed. signed.signature) made (zip above nexts) ∙ sym (map-map signature first (zip above nexts)) ∙ ap (map signature) (firsts-zip above nexts nexts-count) in
      ap (λ xs. xs ++ signature bottom ∷ []) front ∙ sym (map-append signature above (bottom ∷ []))

  -- and the keys are theirs
  keys : keys_of (key (level_at above bottom 0)) (signature_of_levels signature key above bottom) ≡ map key (all_levels above bottom)
  keys =
      let nexts = drop 1 (all_levels above bottom) in
      let made : L × L → SignedKey = λ pair. record { signature = signature pair.0; key = key pair.1 } in
      let second : L × L → L = λ pair. pair.1 in
      let next_keys : map (λ signed. signed.key) (map made (zip above nexts)) ≡ map key nexts =
      map-map (λ signed. signed.key) made (zip above nexts) ∙ sym (map-map key second (zip above nexts)) ∙ ap (map key) (seconds-zip above nexts nexts-count) in
      ap (λ xs. key (level_at above bottom 0) ∷ xs) next_keys
      ∙ (elim above as (λ above. key (level_at above bottom 0) ∷ map key (drop 1 (all_levels above bottom)) ≡ map key (all_levels above bottom)) [ [] ↦ refl | x ∷ xs ↦ refl ])

  -- where each level's signature is valid under its key for what it signs, the signature is valid
  pub signature_of_levels-valid : (message : List ℕ) → ((i : ℕ) → i < length above + 1 → IsLmsValid (key (level_at above bottom i)) (message_at message (signature_of_levels signature key above bottom) i) (signature (level_at above bottom i)))
      → IsValid (record { levels = length above + 1; top = key (level_at above bottom 0) }) message (signature_of_levels signature key above bottom)
  signature_of_levels-valid message valid =
      let s = signature_of_levels signature key above bottom in
      let top = key (level_at above bottom 0) in
      let count : length (all_levels above bottom) ≡ length above + 1 = omega (arith, length-append above (bottom ∷ [])) in
      record {
        count = ap (λ n. n + 1) signed-count;
        levels = λ i inside.
            let within : i < length (all_levels above bottom) = omega arith in
            let key_is : key (level_at above bottom i) ≡ key_at top s i = sym (ap (λ ks. get_or ks i top) keys ∙ get_or-map key (all_levels above bottom) i bottom top within) in
            let signature_is : signature (level_at above bottom i) ≡ signature_at s i =
            sym (ap (λ ss. get_or ss i (signature bottom)) signatures ∙ get_or-map signature (all_levels above bottom) i bottom (signature bottom) within) in
            subst (λ k. IsLmsValid k (message_at message s i) (signature_at s i)) key_is (subst (IsLmsValid (key (level_at above bottom i)) (message_at message s i)) signature_is (valid i inside));
      }

-- The textbook signature of levels that sign the message is valid under their key.
pub textbook_valid : (above : List Signing) (bottom : Signing) (message : List ℕ) → AreSigning above bottom message → IsValid (public_of above bottom) message (textbook above bottom)
textbook_valid above bottom message signs =
    signature_of_levels-valid (λ level. lms_textbook level.secret level.leaf level.randomizer level.digest) (λ level. lms_public_of level.secret) above bottom message
    (λ i inside.
    let level = level_at above bottom i in
    signed_valid level.secret level.leaf level.randomizer (message_at message (textbook above bottom) i) level.digest (leaf_path level.secret level.leaf) (signs.leaves i inside) (signs.digests i inside) refl)

-- the textbook signature of what a level signs with, and the key
abbrev signature_of : Signing → LmsSignature
signature_of level = lms_textbook level.secret level.leaf level.randomizer level.digest

abbrev public_at : Signing → LmsPublic
public_at level = lms_public_of level.secret

-- ---- levels with their roots and paths

-- a level's key is its secret's, if its root is
key-from_secret : (level : Level) → level.tree.root ≡ (lms_public_of level.tree.secret).root → lms_public_of level.tree.secret ≡ key_of level
key-from_secret level root =
    let with : List ℕ → LmsPublic = λ root. record { pair = level.tree.secret.pair; identifier = level.tree.secret.identifier; root = root } in
    ap with (sym root)

-- A signature of levels with their secrets' roots and paths, and with the digests of what they sign, is valid.
pub made_valid : (above : List Level) (bottom : Level) (message : List ℕ) → FromSecrets above bottom → AreDigests above bottom message → IsValid (made_public above bottom) message (made_signature above bottom)
made_valid above bottom message theirs digests =
    signature_of_levels-valid signature_of_level key_of above bottom message
    (λ i inside.
    let level = level_at above bottom i in
    let signed = message_at message (made_signature above bottom) i in
    subst (λ k. IsLmsValid k signed (signature_of_level level)) (key-from_secret level (theirs.roots i inside))
    (signed_valid level.tree.secret level.tree.leaf level.randomizer signed level.digest (path_of_tree level.tree) level.tree.is_leaf (digests i inside) (theirs.paths i inside)))

zip-map : {A B : Type 0} (f : A → B) (xs ys : List A) → zip (map f xs) (map f ys) ≡ map (λ pair. (f pair.0, f pair.1)) (zip xs ys)
zip-map f [] ys = refl
zip-map f (x ∷ xs) [] = refl
zip-map f (x ∷ xs) (y ∷ ys) = ap (λ rest. (f x, f y) ∷ rest) (zip-map f xs ys)

-- the signed key of a level above the bottom
pub signed-at : {L : Type 0} (signature : L → LmsSignature) (key : L → LmsPublic) (above : List L) (bottom : L) (i : ℕ) (other : SignedKey) → i < length above
    → get_or (signature_of_levels signature key above bottom).signed i other ≡ record { signature = signature (level_at above bottom i); key = key (level_at above bottom (i + 1)) }
signed-at {L = L} signature key above bottom i other within =
    let nexts = drop 1 (all_levels above bottom) in
    let made : L × L → SignedKey = λ pair. record { signature = signature pair.0; key = key pair.1 } in
    let count = nexts-count signature key above bottom in
    let inside : i < length (zip above nexts) = omega (arith, length-zip above nexts, count) in
    let next : get_or nexts i bottom ≡ level_at above bottom (i + 1) = get_or-drop 1 (all_levels above bottom) i bottom ∙ ap (λ k. get_or (all_levels above bottom) k bottom) (add_comm 1 i) in
    get_or-map made (zip above nexts) i (bottom, bottom) other inside
    ∙ ap made (get_or-zip above nexts i (bottom, bottom) within (omega (arith, count)))
    ∙ ap₂ (λ first second. made (first, second)) (sym (get_or_append_left above (bottom ∷ []) bottom i within)) next

-- a level's signature is the textbook's, if its path is
signature-from_secret : (level : Level) → path_of_tree level.tree ≡ leaf_path level.tree.secret level.tree.leaf → signature_of_level level ≡ signature_of (signing_of level)
signature-from_secret level path = ap (lms_made_signature level.tree.secret level.tree.leaf level.randomizer level.digest) path

-- what level i signs with
level_at-signing : (above : List Level) (bottom : Level) (i : ℕ) → i < length above + 1 → level_at (map signing_of above) (signing_of bottom) i ≡ signing_of (level_at above bottom i)
level_at-signing above bottom i inside =
    let within : i < length (all_levels above bottom) = omega (arith, length-append above (bottom ∷ [])) in
    ap (λ levels. get_or levels i (signing_of bottom)) (sym (map-append signing_of above (bottom ∷ [])))
    ∙ get_or-map signing_of (all_levels above bottom) i bottom (signing_of bottom) within

-- A signature of levels with their secrets' roots and paths is the textbook signature.
pub made_textbook : (above : List Level) (bottom : Level) → FromSecrets above bottom → made_signature above bottom ≡ textbook (map signing_of above) (signing_of bottom)
made_textbook above bottom theirs =
    let n = length above in
    let signings = map signing_of above in
    let made = made_signature above bottom in
    let standard = textbook signings (signing_of bottom) in
    let count : length signings ≡ n = length-map above signing_of in
    let pair : LmsSignature → LmsPublic → SignedKey = λ s k. record { signature = s; key = k } in
    let whole : List SignedKey → LmsSignature → Signature = λ signed bottom. record { signed = signed; bottom = bottom } in
    let lengths : length made.signed ≡ length standard.signed =
    signed-count signature_of_level key_of above bottom ∙ sym count ∙ sym (signed-count signature_of public_at signings (signing_of bottom)) in
    let each : (k : ℕ) (d : SignedKey) → k < length made.signed → get_or made.signed k d ≡ get_or standard.signed k d =
    λ k d inside.
    let within : k < n = omega (arith, signed-count signature_of_level key_of above bottom) in
    let there : k < length signings = omega (arith, count) in
    let level = level_at above bottom k in
    let next = level_at above bottom (k + 1) in
    signed-at signature_of_level key_of above bottom k d within
    ∙ ap₂ pair
    (signature-from_secret level (theirs.paths k (omega arith)) ∙ ap signature_of (sym (level_at-signing above bottom k (omega arith))))
    (sym (key-from_secret next (theirs.roots (k + 1) (omega arith))) ∙ ap public_at (sym (level_at-signing above bottom (k + 1) (omega arith))))
    ∙ sym (signed-at signature_of public_at signings (signing_of bottom) k d there) in
    let last : level_at above bottom n ≡ bottom = get_or_at above bottom [] bottom n refl in
    let bottom_is : signature_of_level bottom ≡ signature_of (signing_of bottom) =
    signature-from_secret bottom (subst (λ level. path_of_tree level.tree ≡ leaf_path level.tree.secret level.tree.leaf) last (theirs.paths n (omega arith))) in
    ap₂ whole (same_lists made.signed standard.signed lengths each) bottom_is
