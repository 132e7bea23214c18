-- The digits of bytes, by coef.
use Rattle.std.proofs.Common.{◌≡◌, ◌∙◌, refl, sym, ap, ⊎_elim, ℕ, zero, suc, ◌+◌, ◌-◌, ◌*◌, ◌/◌, ◌%◌, ◌^◌, ◌<◌, ◌≤◌, List, [], ◌∷◌, ◌++◌, length, get_or, take, append_assoc, All, arith}
use Rattle.std.specs.List.{range_with_len}
use Rattle.std.specs.Int.Digits.{number_from_digits}
use Rattle.std.proofs.Math.Nat.{mul-le-mul_left, mul-le-mul_right, mul-add-mod_self_right, pow-zero, pow-suc}
use Rattle.std.proofs.Math.ListN.{get_or-append, length-append}
use Rattle.std.proofs.lemmas.List.{get_or-append-add}
use Rattle.std.proofs.lemmas.List.Elements.{All-map, All-from_get_or}
use Rattle.std.proofs.lemmas.List.FromFn.{map-range_with_len_more, length-map-range_with_len, get_or-map-range_with_len, fill_by_all}
use Rattle.std.proofs.lemmas.Int.Digits.{number_push, number_more}
use Rattle.std.proofs.lemmas.Nat.{shr-shr, shr_split, div-mul-add, mod-mul-add, mod_below, pow_pos}
use Rattle.std.proofs.lemmas.Bool.{cases_lt}
use Rattle.typecodes.specs.Types.{IsWidth}
use Rattle.typecodes.specs.Coefficient.{coef_of}
use Rattle.winternitz.specs.Digest.{checksum_of, digit_count, digits_of, first_digits, message_count}
use Rattle.byteorder.specs.Endian.{big_bytes}
use Rattle.winternitz.proofs.Widths.{by_width, whole_digits, place_inside}

pub digits_below : (w n : ℕ) (bytes : List ℕ) → All (λ d. d < 2 ^ w) (first_digits w n bytes)
digits_below w n bytes =
    let below : (i : ℕ) → coef_of bytes i w < 2 ^ w = λ i. mod_below _ (2 ^ w) (pow_pos w) in
    All-map (λ d. d < 2 ^ w) (λ i. coef_of bytes i w) (range_with_len 0 n)
    (All-from_get_or (λ i. coef_of bytes i w < 2 ^ w) (range_with_len 0 n) 0 (λ i h. below (get_or (range_with_len 0 n) i 0)))

-- the first digits and one more, after other numbers
pub pushed_more : (w i d : ℕ) (bytes old before after : List ℕ) → before ≡ old ++ first_digits w i bytes
    → d ≡ coef_of bytes i w → after ≡ before ++ (d ∷ []) → after ≡ old ++ first_digits w (i + 1) bytes
pushed_more w i d bytes old before after so digit push =
    push ∙ ap (λ l. l ++ (d ∷ [])) so ∙ append_assoc old (first_digits w i bytes) (d ∷ [])
    ∙ ap (λ c. old ++ (first_digits w i bytes ++ (c ∷ []))) digit
    ∙ ap (λ l. old ++ l) (sym (map-range_with_len_more (λ i. coef_of bytes i w) 0 i i (omega arith)))

-- digit r of byte q
coef_at : (w : ℕ) → IsWidth w → (bytes : List ℕ) (q r : ℕ) → r < 8 / w
    → coef_of bytes (q * (8 / w) + r) w ≡ get_or bytes q 0 / 2 ^ (8 - (w * r + w)) % 2 ^ w
coef_at w is bytes q r within =
    let whole = whole_digits w is in
    let some : 0 < w = by_width (λ w. 0 < w) w is (omega arith) (omega arith) (omega arith) (omega arith) in
    let spread : (q * (8 / w) + r) * w ≡ q * 8 + r * w = omega (arith, ap (λ n. q * n) whole) in
    let small : r * w < 8 = omega (arith, mul-le-mul_right w within) in
    let byte : (q * (8 / w) + r) * w / 8 ≡ q = ap (λ n. n / 8) spread ∙ div-mul-add q 8 (r * w) small in
    let place : (q * (8 / w) + r) % (8 / w) ≡ r = mod-mul-add q (8 / w) r within in
    rw (byte, place) refl

-- one digit more of what is shifted
shifted_more : (x k w : ℕ) → x / 2 ^ (k + w) * 2 ^ w + x / 2 ^ k % 2 ^ w ≡ x / 2 ^ k
shifted_more x k w = ap (λ n. n * 2 ^ w + x / 2 ^ k % 2 ^ w) (sym (shr-shr x k w)) ∙ shr_split (x / 2 ^ k) w

-- the number of the digits of q bytes and of the first r digits of the next
pub number_within : (w : ℕ) → IsWidth w → (bytes : List ℕ) (q n : ℕ) → get_or bytes q 0 < 256
    → number_from_digits (2 ^ w) (first_digits w (q * (8 / w)) bytes) ≡ n
    → (r : ℕ) → r ≤ 8 / w
    → number_from_digits (2 ^ w) (first_digits w (q * (8 / w) + r) bytes)
    ≡ n * (2 ^ w) ^ r + get_or bytes q 0 / 2 ^ (8 - w * r)
number_within w is bytes q n fits before zero room =
    let x = get_or bytes q 0 in
    let none : q * (8 / w) + 0 ≡ q * (8 / w) = omega arith in
    let all : 8 - w * 0 ≡ 8 = omega arith in
    let gone : x / 2 ^ 8 ≡ 0 = omega arith in
    ap (λ i. number_from_digits (2 ^ w) (first_digits w i bytes)) none ∙ before
    ∙ omega (arith, ap (λ p. n * p) (pow-zero (2 ^ w)), ap (λ k. x / 2 ^ k) all, gone)
number_within w is bytes q n fits before (suc r) room =
    let x = get_or bytes q 0 in
    let base = 2 ^ w in
    let at = q * (8 / w) + r in
    let k = 8 - (w * r + w) in
    let inside : w * r + w ≤ 8 = omega (arith, whole_digits w is, mul-le-mul_left w room) in
    let more : q * (8 / w) + suc r ≡ at + 1 = omega arith in
    let here : k + w ≡ 8 - w * r = omega arith in
    let next : k ≡ 8 - w * suc r = omega arith in
    let ahead = number_within w is bytes q n fits before r (omega arith) in
    ap (λ i. number_from_digits base (first_digits w i bytes)) more
    ∙ ap (number_from_digits base) (map-range_with_len_more (λ i. coef_of bytes i w) 0 at at (omega arith))
    ∙ number_push base (first_digits w at bytes) (coef_of bytes at w)
    ∙ omega (
      arith,
      ap (λ m. m * base) ahead,
      coef_at w is bytes q r room,
      shifted_more x k w,
      ap (λ j. x / 2 ^ j * base) here,
      ap (λ j. x / 2 ^ j) next,
      ap (λ p. n * p) (pow-suc base r),
    )

-- the digits of the first q bytes read as the number of these bytes
pub number_of_digits : (w : ℕ) → IsWidth w → (bytes : List ℕ) → ((i : ℕ) → get_or bytes i 0 < 256)
    → (q : ℕ) → q ≤ length bytes
    → number_from_digits (2 ^ w) (first_digits w (q * (8 / w)) bytes) ≡ number_from_digits 256 (take q bytes)
number_of_digits w is bytes fits zero room =
    let none : 0 * (8 / w) ≡ 0 = omega arith in
    ap (λ i. number_from_digits (2 ^ w) (first_digits w i bytes)) none
number_of_digits w is bytes fits (suc q) room =
    let x = get_or bytes q 0 in
    let whole : w * (8 / w) ≡ 8 = whole_digits w is in
    let base : (2 ^ w) ^ (8 / w) ≡ 256 = by_width (λ w. (2 ^ w) ^ (8 / w) ≡ 256) w is refl refl refl refl in
    let more : suc q * (8 / w) ≡ q * (8 / w) + 8 / w = omega arith in
    let next : q + 1 ≡ suc q = omega arith in
    let last : x / 2 ^ (8 - w * (8 / w)) ≡ x = ap (λ m. x / 2 ^ (8 - m)) whole ∙ omega arith in
    let n = number_from_digits 256 (take q bytes) in
    ap (λ i. number_from_digits (2 ^ w) (first_digits w i bytes)) more
    ∙ number_within w is bytes q n (fits q) (number_of_digits w is bytes fits q (omega arith)) (8 / w) (omega arith)
    ∙ omega (arith, ap (λ p. n * p) base, last, number_more 256 bytes q room)
    ∙ ap (λ i. number_from_digits 256 (take i bytes)) next

-- a digit inside of the first bytes
coef_first : (w : ℕ) → IsWidth w → (xs ys : List ℕ) (i : ℕ) → i < length xs * (8 / w)
    → coef_of xs i w ≡ coef_of (xs ++ ys) i w
coef_first w is xs ys i within =
    let room : length xs * (8 / w) * w ≤ length xs * 8 =
    omega (arith, ap (λ n. length xs * n) (whole_digits w is)) in
    let inside : i * w / 8 < length xs = place_inside w (length xs * (8 / w)) (length xs) i is room within in
    rw (get_or-append xs ys 0 (i * w / 8) inside) refl

-- a digit after them
coef_rest : (w : ℕ) → IsWidth w → (xs ys : List ℕ) (i : ℕ)
    → coef_of ys i w ≡ coef_of (xs ++ ys) (length xs * (8 / w) + i) w
coef_rest w is xs ys i =
    let byte : (length xs * (8 / w) + i) * w / 8 ≡ length xs + i * w / 8 =
    omega (arith, ap (λ n. length xs * n) (whole_digits w is)) in
    let place : (length xs * (8 / w) + i) % (8 / w) ≡ i % (8 / w) = mul-add-mod_self_right (length xs) (8 / w) i in
    rw (byte, place, get_or-append-add xs ys (i * w / 8) 0) refl

-- the digits of joined bytes: the first bytes' digits, and then the others'
pub first_digits-append : (w : ℕ) → IsWidth w → (n : ℕ) (xs ys : List ℕ)
    → first_digits w (length xs * (8 / w)) xs ++ first_digits w n ys ≡ first_digits w (length xs * (8 / w) + n) (xs ++ ys)
first_digits-append w is n xs ys =
    let m = length xs * (8 / w) in
    let first = first_digits w m xs in
    let rest = first_digits w n ys in
    let first_count : length first ≡ m = length-map-range_with_len (λ i. coef_of xs i w) 0 m in
    let rest_count : length rest ≡ n = length-map-range_with_len (λ i. coef_of ys i w) 0 n in
    let digit : ℕ → ℕ = λ i. coef_of (xs ++ ys) i w in
    let before : (i : ℕ) → i < m → get_or (first ++ rest) i 0 ≡ digit i = λ i within.
    get_or-append first rest 0 i (omega arith)
    ∙ get_or-map-range_with_len (λ i. coef_of xs i w) 0 m i i 0 within (omega arith)
    ∙ coef_first w is xs ys i within in
    let after : (i : ℕ) → m ≤ i → i < m + n → get_or (first ++ rest) i 0 ≡ digit i = λ i past within.
    let place : length first + (i - m) ≡ i = omega arith in
    let same : m + (i - m) ≡ i = omega arith in
    ap (λ j. get_or (first ++ rest) j 0) (sym place)
    ∙ get_or-append-add first rest (i - m) 0
    ∙ get_or-map-range_with_len (λ i. coef_of ys i w) 0 n (i - m) (i - m) 0 (omega arith) (omega arith)
    ∙ coef_rest w is xs ys (i - m)
    ∙ ap digit same in
    fill_by_all digit (first ++ rest) (m + n) 0 (omega (arith, length-append first rest))
    (λ i within. ⊎_elim (λ h. before i h) (λ h. after i h within) (cases_lt i m))

-- a digit is no more than a chain's last step
pub digit_most : (w : ℕ) (digest : List ℕ) (i : ℕ) → i < digit_count w → get_or (digits_of w digest) i 0 ≤ 2 ^ w - 1
digit_most w digest i within =
    let bytes = digest ++ big_bytes 2 (checksum_of w (first_digits w (message_count w) digest)) in
    let is : get_or (digits_of w digest) i 0 ≡ coef_of bytes i w =
    get_or-map-range_with_len (λ i. coef_of bytes i w) 0 (digit_count w) i i 0 within (omega arith) in
    let below : coef_of bytes i w < 2 ^ w = mod_below _ (2 ^ w) (pow_pos w) in
    omega arith
