-- The bytes of keys and signatures spell them.
use Rattle.std.proofs.Common.{◌≡◌, ◌∙◌, refl, sym, ap, ap₂, ℕ, zero, suc, ◌+◌, ◌-◌, ◌*◌, ◌<◌, ◌≤◌, cond, nat_le, List, [], ◌∷◌, ◌++◌, length, map, take, get_or, subst, subst₂, arith, add-one, append-nil, append_assoc, le-leb, length-append}
use Rattle.std.specs.Prelude.{◌&&◌, sum_by}
use Rattle.std.specs.List.{flat_map}
use Rattle.std.proofs.lemmas.List.{drop_all, get_or_append_left, get_or_default, length-map, map-append, take_more}
use Rattle.std.proofs.lemmas.List.Concat.{flat_map-append}
use Rattle.std.proofs.lemmas.List.Sums.{sum_by-cons, sum_by-take-le, sum_by_push}
use Rattle.std.proofs.lemmas.Slice.{take-put_mid}
use borrow.Rule.Slice.PartMut.{Post-is, post_of, put_mid}
use Rattle.typecodes.specs.declared.fault.Cause.TheVariants.{LevelCount}
use Rattle.typecodes.specs.declared.types.LmsPair.{LmsPair}
use Rattle.typecodes.specs.Types.{lms_signature_len_of}
use Rattle.typecodes.specs.Layout.{Layout, Spells, done, refuse, ◌>>=◌}
use Rattle.typecodes.specs.Fields.{number}
use Rattle.typecodes.proofs.Spelling.{from_turn, in_turn}
use Rattle.lmots.specs.Hashes.{u32str}
use Rattle.lms.specs.declared.key.LmsPublic.{LmsPublic}
use Rattle.lms.specs.Signature.{Signature as LmsSignature, signature as lms_signature}
use Rattle.lms.specs.Key.{public_key as lms_public_key}
use Rattle.lms.specs.Writing.{public_bytes as lms_public_bytes, signature_bytes as lms_signature_bytes}
use Rattle.typecodes.proofs.FieldBytes.{last_field, number_spelled}
use Rattle.hss.specs.declared.key.HssPublic.{HssPublic}
use Rattle.hss.specs.declared.secret.Level.{Level}
use Rattle.hss.specs.Key.{level_number, public_key}
use Rattle.hss.specs.SignedKey.{SignedKey, signed_key, signed_keys}
use Rattle.hss.specs.Signature.{Signature, signature, signature_size}
use Rattle.hss.specs.Secret.{key_of, signature_of_level}
use Rattle.hss.specs.Writing.{level_at, all_levels, pairs_of, public_bytes, signature_bytes, made_signature}
use Rattle.hss.specs.Writing.{made_signed_key, signed_key_bytes}
use Rattle.hss.specs.inner.Writing.{part_size}
use Rattle.hss.proofs.Making.{signed-at, signed-count}

-- a number of levels within its bounds is spelled by 4 bytes
level_number-spelled : (low high n : ℕ) → low ≤ n → n ≤ high → high ≤ 8 → Spells (level_number low high) n (u32str n)
unfolding level_number
level_number-spelled low high n above below small =
    let tested : ℕ → Layout ℕ = λ n. cond (nat_le low n && nat_le n high) (done n) (refuse 4 LevelCount) in
    let ended : Spells (tested n) n [] = rw (le-leb low n above, le-leb n high below) (refl, refl) in
    last_field number tested n n (u32str n) (number_spelled n (omega arith)) ended

-- a public key of 1 to 8 levels, if its top tree's is
pub key-spelled : (key : HssPublic) → 1 ≤ key.levels → key.levels ≤ 8 → Spells lms_public_key key.top (lms_public_bytes key.top) → Spells public_key key (public_bytes key)
unfolding public_key
key-spelled key some most top =
    let after_count : ℕ → Layout HssPublic = λ levels. lms_public_key >>= λ top. done (record { levels = levels; top = top }) in
    from_turn (level_number 1 8) after_count key.levels key (u32str key.levels) (lms_public_bytes key.top) (level_number-spelled 1 8 key.levels some most (omega arith))
    (last_field lms_public_key (λ top. done (record { levels = key.levels; top = top })) key.top key (lms_public_bytes key.top) top (refl, refl))

-- a signed key, by its parts
pub signed_key-spelled : (signed : SignedKey) (a b : List ℕ) → Spells lms_signature signed.signature a → Spells lms_public_key signed.key b → Spells signed_key signed (a ++ b)
unfolding signed_key
signed_key-spelled signed a b signature_spelled key_spelled =
    let after_signature : LmsSignature → Layout SignedKey = λ s. lms_public_key >>= λ key. done (record { signature = s; key = key }) in
    from_turn lms_signature after_signature signed.signature signed a b signature_spelled
    (last_field lms_public_key (λ key. done (record { signature = signed.signature; key = key })) signed.key signed b key_spelled (refl, refl))

pub keys-none : Spells (signed_keys 0) [] []
unfolding signed_keys
keys-none = (refl, refl)

keys-push : (n : ℕ) (keys : List SignedKey) (last : SignedKey) (a b : List ℕ) → Spells (signed_keys n) keys a → Spells signed_key last b → Spells (signed_keys (suc n)) (keys ++ last ∷ []) (a ++ b)
unfolding signed_keys
keys-push zero keys last a b spelled last_spelled =
    let next : SignedKey → Layout (List SignedKey) = λ first. done [] >>= λ rest. done (first ∷ rest) in
    let one : Spells (signed_keys 1) (last ∷ []) b = last_field signed_key next last (last ∷ []) b last_spelled (refl, refl) in
    subst (λ keys. Spells (signed_keys 1) (keys ++ last ∷ []) (a ++ b)) spelled.0
    (subst (λ a. Spells (signed_keys 1) (last ∷ []) (a ++ b)) (sym spelled.1) one)
keys-push (suc n) keys last a b spelled last_spelled =
    let next : (k : ℕ) → SignedKey → Layout (List SignedKey) = λ k first. signed_keys k >>= λ rest. done (first ∷ rest) in
    let (first, c, d, a_is, first_spelled, rest_follows) = in_turn signed_key (next n) keys a spelled in
    let (rest, e, f, d_is, rest_spelled, ended) = in_turn (signed_keys n) (λ rest. done (first ∷ rest)) keys d rest_follows in
    let more = keys-push n rest last e b rest_spelled last_spelled in
    let all : Spells (signed_keys (suc (suc n))) (first ∷ (rest ++ last ∷ [])) (c ++ (e ++ b)) =
    from_turn signed_key (next (suc n)) first (first ∷ (rest ++ last ∷ [])) c (e ++ b) first_spelled
    (last_field (signed_keys (suc n)) (λ rest. done (first ∷ rest)) (rest ++ last ∷ []) (first ∷ (rest ++ last ∷ [])) (e ++ b) more (refl, refl)) in
    let whole : a ≡ c ++ e = a_is ∙ ap (λ d. c ++ d) (d_is ∙ ap (λ f. e ++ f) ended.1 ∙ append-nil e) in
    let bytes : c ++ (e ++ b) ≡ a ++ b = sym (append_assoc c e b) ∙ ap (λ a. a ++ b) (sym whole) in
    subst₂ (Spells (signed_keys (suc (suc n)))) (ap (λ keys. keys ++ last ∷ []) ended.0) bytes all

pub keys-more : (n : ℕ) (keys : List SignedKey) (last : SignedKey) (a b : List ℕ) → Spells (signed_keys n) keys a → Spells signed_key last b → Spells (signed_keys (n + 1)) (keys ++ last ∷ []) (a ++ b)
keys-more n keys last a b spelled last_spelled = subst (λ m. Spells (signed_keys m) (keys ++ last ∷ []) (a ++ b)) (sym (add-one n)) (keys-push n keys last a b spelled last_spelled)

-- signed keys and a bottom signature, after the number of keys
pub whole-spelled : (s : Signature) (a b : List ℕ) → length s.signed ≤ 7 → Spells (signed_keys (length s.signed)) s.signed a → Spells lms_signature s.bottom b
    → Spells signature s (u32str (length s.signed) ++ a ++ b)
unfolding signature
whole-spelled s a b within_limit keys bottom =
    let n = length s.signed in
    let after_keys : List SignedKey → Layout Signature = λ signed. lms_signature >>= λ bottom. done (record { signed = signed; bottom = bottom }) in
    subst (Spells signature s) (sym (append_assoc (u32str n) a b))
    (from_turn (level_number 0 7) (λ above. signed_keys above >>= after_keys) n s (u32str n) (a ++ b) (level_number-spelled 0 7 n (omega arith) within_limit (omega arith))
    (from_turn (signed_keys n) after_keys s.signed s a b keys
    (last_field lms_signature (λ bottom. done (record { signed = s.signed; bottom = bottom })) s.bottom s b bottom (refl, refl))))

-- ---- how long the parts are

-- one more part after those before it, and within all
pub part-more : (above : List Level) (i : ℕ) (level : Level) → i < length above → level ≡ get_or above i level
    → (sum_by part_size (take (i + 1) above) ≡ sum_by part_size (take i above) + part_size level) × (sum_by part_size (take (i + 1) above) ≤ sum_by part_size above)
part-more above i level within is =
    let sum : sum_by part_size (take (i + 1) above) ≡ sum_by part_size (take i above) + part_size (get_or above i level) =
    ap (sum_by part_size) (take_more above i level within) ∙ sum_by_push part_size (take i above) (get_or above i level) in
    (sum ∙ ap (λ l. sum_by part_size (take i above) + part_size l) (sym is), sum_by-take-le part_size above (i + 1))

-- the parts and the bottom's signature are as long as the levels' types say
pub size-parts : (above : List Level) (bottom : Level) → signature_size (pairs_of above bottom) ≡ 4 + sum_by part_size above + lms_signature_len_of bottom.tree.secret.pair
size-parts above bottom =
    let pair : Level → LmsPair = λ level. level.tree.secret.pair in
    let levels = all_levels above bottom in
    let count : length (map pair levels) ≡ length above + 1 = omega (arith, length-map levels pair, length-append above (bottom ∷ [])) in
    let sum : sum_by lms_signature_len_of (map pair levels) ≡ sum_by lms_signature_len_of (map pair above) + lms_signature_len_of bottom.tree.secret.pair =
    ap (sum_by lms_signature_len_of) (map-append pair above (bottom ∷ [])) ∙ sum_by_push lms_signature_len_of (map pair above) (bottom.tree.secret.pair) in
    omega (arith, count, sum, parts above)
  where
    parts : (above : List Level) → sum_by part_size above ≡ sum_by lms_signature_len_of (map (λ level. level.tree.secret.pair) above) + 56 * length above
    parts [] = refl
    parts (level ∷ above) =
        omega (arith, parts above, sum_by-cons part_size level above, sum_by-cons lms_signature_len_of level.tree.secret.pair (map (λ level. level.tree.secret.pair) above))

-- ---- one more part is written

-- the next signed key has the level's signature and the key below
signed-next : (above : List Level) (bottom level : Level) (next : LmsPublic) (i : ℕ) → i < length above → level ≡ get_or above i level → next ≡ key_of (level_at above bottom (i + 1))
    → get_or (made_signature above bottom).signed i (made_signed_key level next) ≡ made_signed_key level next
signed-next above bottom level next i within is next_is =
    let here : level_at above bottom i ≡ level = get_or_append_left above (bottom ∷ []) bottom i within ∙ get_or_default above i bottom level within ∙ sym is in
    signed-at signature_of_level key_of above bottom i (made_signed_key level next) within ∙ ap₂ (λ l k. made_signed_key l k) here (sym next_is)

module _ (above : List Level) (bottom level : Level) (next : LmsPublic) (i : ℕ) (within : i < length above) (is : level ≡ get_or above i level) (next_is : next ≡ key_of (level_at above bottom (i + 1))) where
  -- one more signed key
  signed-more : take (i + 1) (made_signature above bottom).signed ≡ take i (made_signature above bottom).signed ++ made_signed_key level next ∷ []
  signed-more =
      let signed = (made_signature above bottom).signed in
      take_more signed i (made_signed_key level next) (omega (arith, signed-count signature_of_level key_of above bottom))
      ∙ ap (λ one. take i signed ++ one ∷ []) (signed-next above bottom level next i within is next_is)

  bytes-more : flat_map signed_key_bytes (take (i + 1) (made_signature above bottom).signed) ≡ flat_map signed_key_bytes (take i (made_signature above bottom).signed) ++ signed_key_bytes (made_signed_key level next)
  bytes-more =
      let front = take i (made_signature above bottom).signed in
      let one = made_signed_key level next in
      ap (flat_map signed_key_bytes) signed-more ∙ flat_map-append signed_key_bytes front (one ∷ []) ∙ ap (λ b. flat_map signed_key_bytes front ++ b) (append-nil (signed_key_bytes one))

  -- its bytes follow the earlier ones
  pub written-more : (head old part : List ℕ) (offset end : ℕ) → take offset old ≡ head ++ flat_map signed_key_bytes (take i (made_signature above bottom).signed)
      → part ≡ signed_key_bytes (made_signed_key level next) → offset ≤ length old → end ≡ offset + length part
      → take end (put_mid offset (end - offset) old part) ≡ head ++ flat_map signed_key_bytes (take (i + 1) (made_signature above bottom).signed)
  written-more head old part offset end before part_is inside ends =
      take-put_mid offset (end - offset) old part end ends inside ∙ ap₂ (λ a b. a ++ b) before part_is
      ∙ append_assoc head (flat_map signed_key_bytes (take i (made_signature above bottom).signed)) (signed_key_bytes (made_signed_key level next))
      ∙ ap (λ b. head ++ b) (sym bytes-more)

  -- and all so far spell themselves
  pub spelled-more : Spells (signed_keys i) (take i (made_signature above bottom).signed) (flat_map signed_key_bytes (take i (made_signature above bottom).signed))
      → Spells signed_key (made_signed_key level next) (signed_key_bytes (made_signed_key level next))
      → Spells (signed_keys (i + 1)) (take (i + 1) (made_signature above bottom).signed) (flat_map signed_key_bytes (take (i + 1) (made_signature above bottom).signed))
  spelled-more before one =
      let front = take i (made_signature above bottom).signed in
      let pushed = keys-more i front (made_signed_key level next) (flat_map signed_key_bytes front) (signed_key_bytes (made_signed_key level next)) before one in
      subst₂ (Spells (signed_keys (i + 1))) (sym signed-more) (sym bytes-more) pushed

-- The number of signed keys, these, and the bottom's signature to the end are a signature's bytes.
pub whole-written : (s : Signature) (n offset : ℕ) (x bottom : List ℕ) → take offset x ≡ u32str n ++ flat_map signed_key_bytes s.signed → n ≡ length s.signed → bottom ≡ lms_signature_bytes s.bottom → offset ≤ length x
    → take offset x ++ (bottom ++ post_of offset (length x - offset) x) ≡ signature_bytes s
whole-written s n offset x bottom front count bottom_is inside =
    let ended : post_of offset (length x - offset) x ≡ [] = Post-is offset (length x) x inside ∙ drop_all (length x) x (omega arith) in
    ap₂ (λ a b. a ++ b) (front ∙ ap (λ n. u32str n ++ flat_map signed_key_bytes s.signed) count) (ap (λ rest. bottom ++ rest) ended ∙ append-nil bottom ∙ bottom_is)
