-- Where the levels of a signature stand in the bytes that spell it.
use Rattle.std.proofs.Common.{◌≡◌, ◌∙◌, refl, sym, ap, ap₂, ℕ, zero, suc, ◌+◌, ◌-◌, ◌*◌, ◌<◌, ◌≤◌, inl, inr, Bool, true, false, cond, nat_le, List, [], ◌∷◌, length, map, take, drop, get_or, Ok, subst, arith, add-zero, length-append, length-drop, add-one, length-take-le}
use Rattle.std.specs.Prelude.{◌&&◌, sum_by}
use Rattle.std.proofs.lemmas.Bool.{cases_lt, lt-leb}
use Rattle.std.proofs.lemmas.List.Sums.{sum_by-cons, sum_by_push}
use Rattle.std.proofs.lemmas.List.{drop-map, get_or_append_left, get_or_at, get_or-drop, length-map, take-append-le, take-map, take_all, take_more}
use Rattle.std.proofs.Math.Bool.{and-false}
use Rattle.std.proofs.Math.Nat.{sub-zero}
use Rattle.byteorder.specs.Endian.{big_number}
use Rattle.typecodes.specs.declared.fault.Cause.TheVariants.{LevelCount}
use Rattle.typecodes.specs.Types.{lms_signature_len_of}
use Rattle.typecodes.specs.Layout.{Layout, done, refuse, ◌>>=◌, Spells}
use Rattle.typecodes.specs.Fields.{number}
use Rattle.typecodes.specs.Cursor.{read}
use Rattle.typecodes.proofs.Read.{read-cut, read-fits, read-stands}
use Rattle.typecodes.proofs.Steps.{ends-spelled}
use Rattle.lms.specs.declared.key.LmsPublic.{LmsPublic}
use Rattle.lms.specs.Signature.{Signature as LmsSignature, signature as lms_signature}
use Rattle.lms.specs.Key.{public_key as lms_public_key}
use Rattle.typecodes.proofs.Parts.{in_turn, part_read}
use Rattle.lms.proofs.Parts.{laid_out}
use Rattle.lms.proofs.Sizes.{size-public_key}
use Rattle.hss.specs.Key.{level_number}
use Rattle.hss.specs.SignedKey.{SignedKey, signed_key, signed_keys, signed_key_size}
use Rattle.hss.specs.Signature.{Signature, key_at, keys_of, level_count, signature, signature_at, signature_size, signatures_of, start_at}
use Rattle.hss.proofs.Passing.{keys-more, keys-split, read-after}

-- ---- how long the parts are

-- a public key that is read takes 56 bytes, wherever it stands
public-end : (key : LmsPublic) (bytes : List ℕ) (place end : ℕ) → place ≤ length bytes → read lms_public_key bytes place ≡ Ok (key, end) → end ≡ place + 56
public-end key bytes place end within found =
    let (a, after, rest_is, end_is, spelled) = read-stands lms_public_key key bytes place end within found in
    omega (arith, end_is, size-public_key key a spelled)

pub ends-within : {V : Type 0} (layout : Layout V) (v : V) (bytes : List ℕ) (place end : ℕ) → place ≤ length bytes → read layout bytes place ≡ Ok (v, end) → (place ≤ end) × (end ≤ length bytes)
ends-within layout v bytes place end within found =
    let (a, after, rest_is, end_is, spelled) = read-stands layout v bytes place end within found in
    (omega (arith, end_is), omega (arith, end_is, ap length rest_is, length-drop place bytes, length-append a after))

-- a tree's signature is as long as its types say
signature-end : (s : LmsSignature) (bytes : List ℕ) (place end : ℕ) → place ≤ length bytes → read lms_signature bytes place ≡ Ok (s, end) → end ≡ place + lms_signature_len_of s.pair
signature-end s bytes place end within found =
    let part = take (end - place) (drop place bytes) in
    let size = (laid_out s part (part_read lms_signature s bytes place end within found)).size in
    let (up, inside) = ends-within lms_signature s bytes place end within found in
    let all : length part ≡ end - place = length-take-le (end - place) (drop place bytes) (omega (arith, length-drop place bytes)) in
    omega (arith, sym size ∙ all)

-- ---- signed keys, one after the other

-- the first i of them, and the others
keys-prefix : (i n : ℕ) (bytes : List ℕ) (place end : ℕ) (keys : List SignedKey) → i ≤ n → read (signed_keys n) bytes place ≡ Ok (keys, end)
    → (middle : ℕ) × (read (signed_keys i) bytes place ≡ Ok (take i keys, middle)) × (read (signed_keys (n - i)) bytes middle ≡ Ok (drop i keys, end))
unfolding signed_keys
keys-prefix zero n bytes place end keys within found = (place, refl, rw (sub-zero n) found)
keys-prefix (suc i) zero bytes place end keys within found = absurd (omega arith)
keys-prefix (suc i) (suc n) bytes place end keys within found =
    let (first, next, rest, keys_are, first_found, rest_found) = keys-split n bytes place end keys found in
    let (middle, front, back) = keys-prefix i n bytes next end rest (omega arith) rest_found in
    let left : suc n - suc i ≡ n - i = omega arith in (
      middle,
      keys-more i bytes place next middle first (take i rest) first_found front ∙ ap (λ ks. Ok (ks, middle)) (sym (ap (take (suc i)) keys_are)),
      ap (λ k. read (signed_keys k) bytes middle) left ∙ back ∙ ap (λ ks. Ok (ks, end)) (sym (ap (drop (suc i)) keys_are)),
    )

-- a signed key, by its parts
signed_key-split : (bytes : List ℕ) (place end : ℕ) (signed : SignedKey) → place ≤ length bytes → read signed_key bytes place ≡ Ok (signed, end)
    → (read lms_signature bytes place ≡ Ok (signed.signature, place + lms_signature_len_of signed.signature.pair))
    × (read lms_public_key bytes (place + lms_signature_len_of signed.signature.pair) ≡ Ok (signed.key, end)) × (end ≡ place + signed_key_size signed.signature) × (end ≤ length bytes)
unfolding signed_key
signed_key-split bytes place end signed within found =
    let (x, x_found, key_follows) = in_turn lms_signature (λ s. lms_public_key >>= λ key. done (record { signature = s; key = key })) bytes place (signed, end) found in
    let (y, y_found, same) = in_turn lms_public_key (λ key. done (record { signature = x.0; key = key })) bytes x.1 (signed, end) key_follows in
    let built : SignedKey = record { signature = x.0; key = y.0 } in
    let pair : ◌≡◌ {A = SignedKey × ℕ} (built, y.1) (signed, end) = cc in
    let signature_is : x.0 ≡ signed.signature = ap (λ p. p.0.signature) pair in
    let key_is : y.0 ≡ signed.key = ap (λ p. p.0.key) pair in
    let end_is : y.1 ≡ end = ap (λ p. p.1) pair in
    let inside = ends-within lms_signature x.0 bytes place x.1 within x_found in
    let middle : x.1 ≡ place + lms_signature_len_of signed.signature.pair = signature-end x.0 bytes place x.1 within x_found ∙ ap (λ s. place + lms_signature_len_of s.pair) signature_is in
    let last = public-end y.0 bytes x.1 y.1 inside.1 y_found in
    let final = ends-within lms_public_key y.0 bytes x.1 y.1 inside.1 y_found in (
      x_found ∙ ap₂ (λ s at. Ok (s, at)) signature_is middle,
      ap (λ at. read lms_public_key bytes at) (sym middle) ∙ y_found ∙ ap₂ (λ k at. Ok (k, at)) key_is end_is,
      omega (arith, middle, last, end_is),
      omega (arith, final.1, end_is),
    )

-- there are n signed keys, and they end after all of them
pub keys-end : (n : ℕ) (bytes : List ℕ) (place end : ℕ) (keys : List SignedKey) → place ≤ length bytes → read (signed_keys n) bytes place ≡ Ok (keys, end)
    → (length keys ≡ n) × (end ≡ place + sum_by signed_key_size (map (λ signed. signed.signature) keys)) × (end ≤ length bytes)
unfolding signed_keys
keys-end zero bytes place end keys within found =
    let pair : ◌≡◌ {A = List SignedKey × ℕ} ([], place) (keys, end) = cc in
    let keys_are = ap (λ p. p.0) pair in
    let end_is = ap (λ p. p.1) pair in (
      ap length (sym keys_are),
      omega (arith, end_is, ap (λ ks. sum_by signed_key_size (map (λ signed. signed.signature) ks)) keys_are),
      omega (arith, end_is),
    )
keys-end (suc n) bytes place end keys within found =
    let (first, middle, rest, keys_are, first_found, rest_found) = keys-split n bytes place end keys found in
    let parts = signed_key-split bytes place middle first within first_found in
    let others = keys-end n bytes middle end rest parts.3 rest_found in (
      ap length keys_are ∙ ap suc others.0,
      omega (arith, others.1, parts.2, ap (λ ks. sum_by signed_key_size (map (λ signed. signed.signature) ks)) keys_are, sum_by-cons signed_key_size first.signature (map (λ signed. signed.signature) rest)),
      others.2,
    )

-- ---- a whole signature

-- a number of levels that is read lies between the bounds, and stands at the place
level_number-read : (low high : ℕ) (bytes : List ℕ) (place : ℕ) (x : ℕ × ℕ) → read (level_number low high) bytes place ≡ Ok x
    → (x.0 ≡ big_number 4 (take 4 (drop place bytes))) × (x.0 ≤ high) × (x.1 ≡ place + 4) × (place + 4 ≤ length bytes)
unfolding level_number
level_number-read low high bytes place x found =
    let tested : ℕ → Layout ℕ = λ n. cond (nat_le low n && nat_le n high) (done n) (refuse 4 LevelCount) in
    let n = big_number 4 (take 4 (drop place bytes)) in
    elim (cases_lt (length bytes) (place + 4)) [
      | inl cut ↦ absurd (let e = sym (read-cut 4 (λ b. done (big_number 4 b) >>= tested) bytes place cut) ∙ found in cc)
      | inr fits ↦
          let number_read : read (tested n) bytes (place + 4) ≡ Ok x = sym (read-fits 4 (λ b. done (big_number 4 b) >>= tested) bytes place fits) ∙ found in
          elim (cases_lt high n) [
            | inl past ↦ absurd (
                let off : (nat_le low n && nat_le n high) ≡ false = rw (lt-leb n high past) (and-false (nat_le low n)) in
                let e : read (cond false (done n) (refuse 4 LevelCount)) bytes (place + 4) ≡ Ok x = rw (off) at number_read in
                cc)
            | inr below ↦
                let split : (b : Bool) → read (cond b (done n) (refuse 4 LevelCount)) bytes (place + 4) ≡ Ok x → (x.0 ≡ n) × (x.1 ≡ place + 4) =
                λ b. elim b as (λ b. read (cond b (done n) (refuse 4 LevelCount)) bytes (place + 4) ≡ Ok x → (x.0 ≡ n) × (x.1 ≡ place + 4)) [
                  | true ↦ λ e. let pair : ◌≡◌ {A = ℕ × ℕ} (n, place + 4) x = cc in (sym (ap (λ p. p.0) pair), sym (ap (λ p. p.1) pair))
                  | false ↦ λ e. absurd (cc)
                ] in
                let parts = split (nat_le low n && nat_le n high) number_read in
                (parts.0, omega (arith, parts.0), parts.1, fits)
          ]
    ]

-- what is read of a signature, part by part
pub record IsDecoded (s : Signature) (bytes : List ℕ) : Type 0 where
  pub number : length s.signed ≡ big_number 4 (take 4 bytes)
  pub at_most_7 : length s.signed ≤ 7
  pub at_least_4 : 4 ≤ length bytes
  pub end : ℕ
  pub keys : read (signed_keys (length s.signed)) bytes 4 ≡ Ok (s.signed, end)
  pub bottom : read lms_signature bytes end ≡ Ok (s.bottom, length bytes)

-- the parts that were read one after the other
is_read-parts : (s : Signature) (bytes : List ℕ) (n four end last : ℕ) (keys : List SignedKey) (bottom : LmsSignature) → read (level_number 0 7) bytes 0 ≡ Ok (n, four)
    → read (signed_keys n) bytes four ≡ Ok (keys, end) → read lms_signature bytes end ≡ Ok (bottom, last) → ◌≡◌ {A = Signature × ℕ} (record { signed = keys; bottom = bottom }, last) (s, length bytes) → IsDecoded s bytes
is_read-parts s bytes n four end last keys bottom n_found keys_found bottom_found same =
    let keys_are : keys ≡ s.signed = ap (λ p. p.0.signed) same in
    let bottom_is : bottom ≡ s.bottom = ap (λ p. p.0.bottom) same in
    let last_is : last ≡ length bytes = ap (λ p. p.1) same in
    let number = level_number-read 0 7 bytes 0 (n, four) n_found in
    let counted = keys-end n bytes four end keys (omega (arith, number.2, number.3)) keys_found in
    let count : n ≡ length s.signed = sym counted.0 ∙ ap length keys_are in
    record {
      number = sym count ∙ number.0;
      at_most_7 = omega (arith, count, number.1);
      at_least_4 = omega (arith, number.3);
      end = end;
      keys = ap₂ (λ k at. read (signed_keys k) bytes at) (sym count) (sym number.2) ∙ keys_found ∙ ap (λ ks. Ok (ks, end)) keys_are;
      bottom = bottom_found ∙ ap₂ (λ b at. Ok (b, at)) bottom_is last_is;
    }

pub is_read : (s : Signature) (bytes : List ℕ) → read signature bytes 0 ≡ Ok (s, length bytes) → IsDecoded s bytes
unfolding signature
is_read s bytes found =
    let after_keys : List SignedKey → Layout Signature = λ signed. lms_signature >>= λ bottom. done (record { signed = signed; bottom = bottom }) in
    let (n, n_found, keys_follow) = in_turn (level_number 0 7) (λ above. signed_keys above >>= after_keys) bytes 0 (s, length bytes) found in
    let (keys, keys_found, bottom_follows) = in_turn (signed_keys n.0) after_keys bytes n.1 (s, length bytes) keys_follow in
    let (bottom, bottom_found, same) = in_turn lms_signature (λ bottom. done (record { signed = keys.0; bottom = bottom })) bytes keys.1 (s, length bytes) bottom_follows in
    is_read-parts s bytes n.0 n.1 keys.1 bottom.1 keys.0 bottom.0 n_found keys_found bottom_found (cc)

-- level i begins where the levels above it end
pub starts : (s : Signature) (i : ℕ) → i ≤ length s.signed → 4 + sum_by signed_key_size (map (λ signed. signed.signature) (take i s.signed)) ≡ start_at s i
starts s i within =
    let above = map (λ signed. signed.signature) s.signed in
    let within_limit : i ≤ length above = omega (arith, length-map s.signed (λ signed. signed.signature)) in
    ap (λ front. 4 + sum_by signed_key_size front) (sym (take-map (λ signed. signed.signature) i s.signed) ∙ sym (take-append-le i above (s.bottom ∷ []) within_limit))

-- i signed keys stand before level i
pub above_read : (s : Signature) (bytes : List ℕ) (i : ℕ) → IsDecoded s bytes → i ≤ length s.signed → read (signed_keys i) bytes 4 ≡ Ok (take i s.signed, start_at s i)
above_read s bytes i parts within =
    let (middle, front, back) = keys-prefix i (length s.signed) bytes 4 parts.end s.signed within parts.keys in
    let ends = keys-end i bytes 4 middle (take i s.signed) parts.at_least_4 front in
    front ∙ ap (λ at. Ok (take i s.signed, at)) (ends.1 ∙ starts s i within)

-- each level begins after the signature and the key of the one above
pub start-more : (s : Signature) (i : ℕ) → i < length s.signed → start_at s (i + 1) ≡ start_at s i + signed_key_size (signature_at s i)
start-more s i within =
    let all = signatures_of s in
    let above = map (λ signed. signed.signature) s.signed in
    let size : i < length all = omega (arith, length-append above (s.bottom ∷ []), length-map s.signed (λ signed. signed.signature)) in
    let sum : sum_by signed_key_size (take (i + 1) all) ≡ sum_by signed_key_size (take i all) + signed_key_size (signature_at s i) =
    ap (sum_by signed_key_size) (take_more all i s.bottom size) ∙ sum_by_push signed_key_size (take i all) (signature_at s i) in
    omega (arith, sum)

-- above the bottom, a level's signature and the next key are its signed key's
pub signature_at-above : (s : Signature) (i : ℕ) (first : SignedKey) (rest : List SignedKey) → i < length s.signed → drop i s.signed ≡ first ∷ rest → first.signature ≡ signature_at s i
signature_at-above s i first rest within is =
    let of : SignedKey → LmsSignature = λ signed. signed.signature in
    let above = map of s.signed in
    let size : i < length above = omega (arith, length-map s.signed of) in
    sym (ap (λ xs. get_or (map of xs) 0 s.bottom) is) ∙ sym (ap (λ xs. get_or xs 0 s.bottom) (drop-map of i s.signed))
    ∙ get_or-drop i above 0 s.bottom ∙ ap (λ k. get_or above k s.bottom) (add-zero i) ∙ sym (get_or_append_left above (s.bottom ∷ []) s.bottom i size)

pub key_at-below : (top : LmsPublic) (s : Signature) (i : ℕ) (first : SignedKey) (rest : List SignedKey) → drop i s.signed ≡ first ∷ rest → first.key ≡ key_at top s (i + 1)
key_at-below top s i first rest is =
    let of : SignedKey → LmsPublic = λ signed. signed.key in
    sym (ap (λ xs. get_or (map of xs) 0 top) is) ∙ sym (ap (λ xs. get_or xs 0 top) (drop-map of i s.signed))
    ∙ get_or-drop i (map of s.signed) 0 top ∙ ap (λ k. get_or (map of s.signed) k top) (add-zero i) ∙ sym (ap (λ k. get_or (keys_of top s) k top) (add-one i))

-- what was read of one level
signed_read-parts : (s : Signature) (bytes : List ℕ) (i : ℕ) (top : LmsPublic) (middle next : ℕ) (first : SignedKey) (rest : List SignedKey) → i < length s.signed → middle ≡ start_at s i → middle ≤ length bytes
    → drop i s.signed ≡ first ∷ rest → read signed_key bytes middle ≡ Ok (first, next)
    → (read lms_signature bytes (start_at s i) ≡ Ok (signature_at s i, start_at s i + lms_signature_len_of (signature_at s i).pair))
    × (read lms_public_key bytes (start_at s i + lms_signature_len_of (signature_at s i).pair) ≡ Ok (key_at top s (i + 1), start_at s (i + 1)))
signed_read-parts s bytes i top middle next first rest within at inside keys_are first_found =
    let (signature_found, key_found, next_is, _) = signed_key-split bytes middle next first inside first_found in
    let signature_is = signature_at-above s i first rest within keys_are in
    let key_is = key_at-below top s i first rest keys_are in
    let next_at : next ≡ start_at s (i + 1) = next_is ∙ ap₂ (λ at s. at + signed_key_size s) at signature_is ∙ sym (start-more s i within) in (
      ap (λ at. read lms_signature bytes at) (sym at) ∙ signature_found ∙ ap₂ (λ at s. Ok (s, at + lms_signature_len_of s.pair)) at signature_is,
      ap₂ (λ at s. read lms_public_key bytes (at + lms_signature_len_of s.pair)) (sym at) (sym signature_is) ∙ key_found ∙ ap₂ (λ k at. Ok (k, at)) key_is next_at,
    )

-- a signature above the bottom stands where its level begins, and after it the next level's key
pub signed_read : (s : Signature) (bytes : List ℕ) (i : ℕ) (top : LmsPublic) → IsDecoded s bytes → i < length s.signed
    → (read lms_signature bytes (start_at s i) ≡ Ok (signature_at s i, start_at s i + lms_signature_len_of (signature_at s i).pair))
    × (read lms_public_key bytes (start_at s i + lms_signature_len_of (signature_at s i).pair) ≡ Ok (key_at top s (i + 1), start_at s (i + 1)))
signed_read s bytes i top parts within =
    let n = length s.signed in
    let left : n - i ≡ suc (n - (i + 1)) = omega arith in
    let (middle, front, back) = keys-prefix i n bytes 4 parts.end s.signed (omega arith) parts.keys in
    let ends = keys-end i bytes 4 middle (take i s.signed) parts.at_least_4 front in
    let (first, next, rest, keys_are, first_found, _) = keys-split (n - (i + 1)) bytes middle parts.end (drop i s.signed) (ap (λ k. read (signed_keys k) bytes middle) (sym left) ∙ back) in
    signed_read-parts s bytes i top middle next first rest within (ends.1 ∙ starts s i (omega arith)) ends.2 keys_are first_found

-- the bottom one stands after all signed keys
pub bottom_read : (s : Signature) (bytes : List ℕ) → IsDecoded s bytes
    → read lms_signature bytes (start_at s (length s.signed)) ≡ Ok (signature_at s (length s.signed), length bytes)
bottom_read s bytes parts =
    let n = length s.signed in
    let above = map (λ signed. signed.signature) s.signed in
    let ends = keys-end n bytes 4 parts.end s.signed parts.at_least_4 parts.keys in
    let at : parts.end ≡ start_at s n = ends.1 ∙ ap (λ keys. 4 + sum_by signed_key_size (map (λ signed. signed.signature) keys)) (sym (take_all n s.signed (omega arith))) ∙ starts s n (omega arith) in
    let bottom_is : s.bottom ≡ signature_at s n = sym (get_or_at above s.bottom [] s.bottom n (length-map s.signed (λ signed. signed.signature))) in
    ap (λ at. read lms_signature bytes at) (sym at) ∙ parts.bottom ∙ ap (λ b. Ok (b, length bytes)) bottom_is

-- So every level's signature stands where its level begins, and is as long as its types say.
pub level_read : (s : Signature) (bytes : List ℕ) (i : ℕ) → IsDecoded s bytes → i < level_count s
    → read lms_signature bytes (start_at s i) ≡ Ok (signature_at s i, start_at s i + lms_signature_len_of (signature_at s i).pair)
level_read s bytes i parts within =
    let n = length s.signed in
    elim (cases_lt i n) [
      | inl above ↦ (signed_read s bytes i (record { pair = s.bottom.pair; identifier = []; root = [] }) parts above).0
      | inr past ↦
          let same : i ≡ n = omega arith in
          let found = bottom_read s bytes parts in
          let ends = keys-end n bytes 4 parts.end s.signed parts.at_least_4 parts.keys in
          let at : parts.end ≡ start_at s n = ends.1 ∙ ap (λ keys. 4 + sum_by signed_key_size (map (λ signed. signed.signature) keys)) (sym (take_all n s.signed (omega arith))) ∙ starts s n (omega arith) in
          let inside : start_at s n ≤ length bytes = omega (arith, at, ends.2) in
          let end_is = signature-end (signature_at s n) bytes (start_at s n) (length bytes) inside found in
          ap (λ k. read lms_signature bytes (start_at s k)) same ∙ found ∙ ap (λ at. Ok (signature_at s n, at)) end_is
          ∙ ap (λ k. Ok (signature_at s k, start_at s k + lms_signature_len_of (signature_at s k).pair)) (sym same)
    ]

-- ---- what a view finds in its bytes

-- no level begins past the end
pub start_inside : (s : Signature) (bytes : List ℕ) (i : ℕ) → read signature bytes 0 ≡ Ok (s, length bytes) → i < level_count s → start_at s i ≤ length bytes
start_inside s bytes i found within =
    let parts = is_read s bytes found in
    (keys-end i bytes 4 (start_at s i) (take i s.signed) parts.at_least_4 (above_read s bytes i parts (omega arith))).2

-- the key of level i
pub key_found : (s : Signature) (bytes : List ℕ) (top : LmsPublic) (i : ℕ) → read signature bytes 0 ≡ Ok (s, length bytes) → 1 ≤ i → i < level_count s
    → (read lms_public_key bytes (start_at s i - 56) ≡ Ok (key_at top s i, start_at s i)) × (start_at s i - 56 ≤ length bytes)
key_found s bytes top i found above within =
    let below : i ≡ (i - 1) + 1 = omega arith in
    let key = (signed_read s bytes (i - 1) top (is_read s bytes found) (omega arith)).1 in
    let next = start-more s (i - 1) (omega arith) in
    let before : start_at s (i - 1) + lms_signature_len_of (signature_at s (i - 1)).pair ≡ start_at s i - 56 = omega (arith, next, ap (start_at s) below) in (
      ap (λ at. read lms_public_key bytes at) (sym before) ∙ key ∙ ap (λ i. Ok (key_at top s i, start_at s i)) (sym below),
      omega (arith, start_inside s bytes i found within),
    )

-- the 56 bytes before a level's signature spell its key
pub key_spelled : (s : Signature) (bytes : List ℕ) (top : LmsPublic) (i : ℕ) → read signature bytes 0 ≡ Ok (s, length bytes) → 1 ≤ i → i < level_count s
    → Spells lms_public_key (key_at top s i) (take 56 (drop (start_at s i - 56) bytes))
key_spelled s bytes top i found above within =
    let (key, inside) = key_found s bytes top i found above within in
    let place = start_at s i - 56 in
    let size = public-end (key_at top s i) bytes place (start_at s i) inside key in
    let long : start_at s i - place ≡ 56 = omega (arith, size) in
    let part = take (start_at s i - place) (drop place bytes) in
    let spelled = ends-spelled lms_public_key part (key_at top s i) (length part) (part_read lms_public_key (key_at top s i) bytes place (start_at s i) inside key) refl in
    subst (λ n. Spells lms_public_key (key_at top s i) (take n (drop place bytes))) long spelled

-- signatures with a key after each
with-keys : (signatures : List LmsSignature) → sum_by signed_key_size signatures ≡ sum_by lms_signature_len_of (map (λ s. s.pair) signatures) + 56 * length signatures
with-keys [] = refl
with-keys (s ∷ rest) = omega (arith, with-keys rest, sum_by-cons signed_key_size s rest, sum_by-cons lms_signature_len_of s.pair (map (λ s. s.pair) rest))

-- all of a signature
pub whole-size : (s : Signature) (bytes : List ℕ) → read signature bytes 0 ≡ Ok (s, length bytes) → length bytes ≡ signature_size (map (λ level. level.pair) (signatures_of s))
whole-size s bytes found =
    let parts = is_read s bytes found in
    let of : SignedKey → LmsSignature = λ signed. signed.signature in
    let above = map of s.signed in
    let all = signatures_of s in
    let n = length s.signed in
    let keys = keys-end n bytes 4 parts.end s.signed parts.at_least_4 parts.keys in
    let bottom = signature-end s.bottom bytes parts.end (length bytes) keys.2 parts.bottom in
    let sum : sum_by signed_key_size all ≡ sum_by signed_key_size above + signed_key_size s.bottom = sum_by_push signed_key_size above s.bottom in
    let count : length all ≡ n + 1 = omega (arith, length-append above (s.bottom ∷ []), length-map s.signed of) in
    let pairs : length (map (λ level. level.pair) all) ≡ n + 1 = length-map all (λ level. level.pair) ∙ count in
    omega (arith, keys.1, bottom, sum, with-keys all, count, pairs)

-- A number of levels, as many signed keys and a bottom signature, read in turn, are read as a signature.
pub whole-read : (bytes : List ℕ) (above four place end : ℕ) (keys : List SignedKey) (bottom : LmsSignature) → read (level_number 0 7) bytes 0 ≡ Ok (above, four)
    → read (signed_keys above) bytes four ≡ Ok (keys, place) → read lms_signature bytes place ≡ Ok (bottom, end) → read signature bytes 0 ≡ Ok (record { signed = keys; bottom = bottom }, end)
unfolding signature
whole-read bytes above four place end keys bottom number keys_found bottom_found =
    let after_keys : List SignedKey → Layout Signature = λ signed. lms_signature >>= λ bottom. done (record { signed = signed; bottom = bottom }) in
    read-after (level_number 0 7) (λ above. signed_keys above >>= after_keys) bytes 0 (above, four) number
    ∙ read-after (signed_keys above) after_keys bytes four (keys, place) keys_found
    ∙ read-after lms_signature (λ bottom. done (record { signed = keys; bottom = bottom })) bytes place (bottom, end) bottom_found
