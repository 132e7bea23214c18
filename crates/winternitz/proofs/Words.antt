-- Words and their bytes.
use Rattle.std.proofs.Common.{◌≡◌, ◌∙◌, ℕ, zero, suc, ◌<◌, ◌≤◌, ◌+◌, ◌-◌, ◌*◌, ◌/◌, ◌%◌, ◌^◌, List, [], ◌∷◌, ◌++◌, length, take, slice_index, arith, refl, sym, ap, ap₂, inl, inr}
use Rattle.std.proofs.lemmas.Nat.{from_be_bytes-to_be_bytes_4}
use Rattle.std.proofs.Math.Nat.{div-div-eq-div-mul}
use Rattle.std.proofs.lemmas.Bool.{cases_lt}
use Rattle.std.proofs.lemmas.List.{append_assoc, get_or-append-add, length-append, take_all, take_more}
use Rattle.std.specs.Int.{w32, w64, from_be_bytes, to_be_bytes}
use Rattle.sha2.specs.Sha256.{add32, digest_bytes, word_at}
use Rattle.winternitz.specs.Lanes.{lane, lane_at, step_bytes}
use Rattle.winternitz.specs.inner.Lanes.{four_bytes, joined_word}

-- hash values of the same words have the same bytes
pub digest_same : (h g : List ℕ) (n : ℕ) → ((k : ℕ) → k < n → slice_index h k ≡ slice_index g k) → digest_bytes h n ≡ digest_bytes g n
unfolding digest_bytes
digest_same h g zero same = refl
digest_same h g (suc n) same =
    ap₂ (λ x y. x ++ y) (digest_same h g n (λ k low. same k (omega arith))) (ap (to_be_bytes w32) (same n (omega arith)))

-- words that stand in a list
pub five_same : (h : List ℕ) (a b c d e : ℕ) → a ≡ slice_index h 0 → b ≡ slice_index h 1 → c ≡ slice_index h 2 → d ≡ slice_index h 3
    → e ≡ slice_index h 4 → digest_bytes (a ∷ b ∷ c ∷ d ∷ e ∷ []) 5 ≡ digest_bytes h 5
unfolding digest_bytes
five_same h a b c d e ea eb ec ed ee = rw (ea, eb, ec, ed, ee) refl

pub eight_same : (s : List ℕ) (a b c d e f g h : ℕ) → a ≡ slice_index s 0 → b ≡ slice_index s 1 → c ≡ slice_index s 2 → d ≡ slice_index s 3
    → e ≡ slice_index s 4 → f ≡ slice_index s 5 → g ≡ slice_index s 6 → h ≡ slice_index s 7
    → digest_bytes (a ∷ b ∷ c ∷ d ∷ e ∷ f ∷ g ∷ h ∷ []) 8 ≡ digest_bytes s 8
unfolding digest_bytes
eight_same s a b c d e f g h ea eb ec ed ee ef eg eh = rw (ea, eb, ec, ed, ee, ef, eg, eh) refl

pub digest_long : (h : List ℕ) (n : ℕ) → length (digest_bytes h n) ≡ 4 * n
unfolding digest_bytes
digest_long h zero = refl
digest_long h (suc n) =
    omega (arith, digest_long h n, length-append (digest_bytes h n) (to_be_bytes w32 (slice_index h n)))

-- four elements more
take_four : (v : List ℕ) (i : ℕ) → i + 4 ≤ length v
    → take (i + 4) v ≡ take i v ++ slice_index v i ∷ slice_index v (i + 1) ∷ slice_index v (i + 2) ∷ slice_index v (i + 3) ∷ []
take_four v i room =
    let one = take_more v i 0 (omega arith) in
    let two = take_more v (i + 1) 0 (omega arith) in
    let three = take_more v (i + 2) 0 (omega arith) in
    let four = take_more v (i + 3) 0 (omega arith) in
    let e2 : i + 1 + 1 ≡ i + 2 = omega arith in
    let e3 : i + 2 + 1 ≡ i + 3 = omega arith in
    let e4 : i + 3 + 1 ≡ i + 4 = omega arith in
    ap (λ n. take n v) (sym e4) ∙ four
    ∙ ap (λ xs. xs ++ slice_index v (i + 3) ∷ []) (ap (λ n. take n v) (sym e3) ∙ three
    ∙ ap (λ xs. xs ++ slice_index v (i + 2) ∷ []) (ap (λ n. take n v) (sym e2) ∙ two
    ∙ ap (λ xs. xs ++ slice_index v (i + 1) ∷ []) one))
    ∙ rw (
      append_assoc (take i v) (slice_index v i ∷ []) (slice_index v (i + 1) ∷ []),
      append_assoc (take i v) (slice_index v i ∷ slice_index v (i + 1) ∷ []) (slice_index v (i + 2) ∷ []),
      append_assoc (take i v) (slice_index v i ∷ slice_index v (i + 1) ∷ slice_index v (i + 2) ∷ []) (slice_index v (i + 3) ∷ []),
    ) refl

-- the bytes of the words that bytes are cut into are these bytes
bytes_until : (h v : List ℕ) (n i : ℕ) → length v ≡ 4 * n
    → ((k : ℕ) → k < n → to_be_bytes w32 (slice_index h k) ≡ four_bytes v (4 * k)) → i ≤ n → digest_bytes h i ≡ take (4 * i) v
unfolding digest_bytes
bytes_until h v n zero long same within = refl
bytes_until h v n (suc i) long same within =
    let more : 4 * suc i ≡ 4 * i + 4 = omega arith in
    ap₂ (λ x y. x ++ y) (bytes_until h v n i long same (omega arith)) (same i (omega arith))
    ∙ sym (take_four v (4 * i) (omega arith)) ∙ ap (λ n. take n v) (sym more)

pub bytes_of_words : (h v : List ℕ) (n : ℕ) → length v ≡ 4 * n
    → ((k : ℕ) → k < n → to_be_bytes w32 (slice_index h k) ≡ four_bytes v (4 * k)) → digest_bytes h n ≡ v
bytes_of_words h v n long same = bytes_until h v n n long same (omega arith) ∙ take_all (4 * n) v (omega arith)

-- the words of a hash value's bytes are its words
pub word_of_digest : (h rest : List ℕ) (n k : ℕ) → k < n → slice_index h k < 2 ^ 32 → word_at (digest_bytes h n ++ rest) (4 * k) ≡ slice_index h k
unfolding digest_bytes
word_of_digest h rest zero k within fits = absurd (omega arith)
word_of_digest h rest (suc n) k within fits = elim (cases_lt k n) [
  | inl low ↦ ap (λ v. word_at v (4 * k)) (append_assoc (digest_bytes h n) (to_be_bytes w32 (slice_index h n)) rest)
      ∙ word_of_digest h (to_be_bytes w32 (slice_index h n) ++ rest) n k low fits
  | inr high ↦
      let same : k ≡ n = omega arith in
      let x = slice_index h n in
      let front = digest_bytes h n in
      let behind = to_be_bytes w32 x ++ rest in
      let long = digest_long h n in
      let at : 4 * n ≡ length front + 0 = omega arith in
      let at1 : 4 * n + 1 ≡ length front + 1 = omega arith in
      let at2 : 4 * n + 2 ≡ length front + 2 = omega arith in
      let at3 : 4 * n + 3 ≡ length front + 3 = omega arith in
      let here = ap (slice_index (front ++ behind)) at ∙ get_or-append-add front behind 0 0 in
      let here1 = ap (slice_index (front ++ behind)) at1 ∙ get_or-append-add front behind 1 0 in
      let here2 = ap (slice_index (front ++ behind)) at2 ∙ get_or-append-add front behind 2 0 in
      let here3 = ap (slice_index (front ++ behind)) at3 ∙ get_or-append-add front behind 3 0 in
      rw same (ap (λ v. word_at v (4 * n)) (append_assoc front (to_be_bytes w32 x) rest)
      ∙ rw (here, here1, here2, here3) (from_be_bytes-to_be_bytes_4 x (rw (← same) fits)))
]

byte_and_rest : (n p : ℕ) → n / p ≡ n / p % 256 + n / (p * 256) * 256
byte_and_rest n p = omega (arith, div-div-eq-div-mul n p 256)

-- two words joined by shifts
pub joined_by_shifts : (x y : ℕ) → y < 2 ^ 32 → add32 (x * 2 ^ 8 % 2 ^ 32) (y / 2 ^ 24) ≡ joined_word x y
joined_by_shifts x y fits = omega (arith, byte_and_rest x 256, byte_and_rest x 65536)

-- the bytes of a chain's number and a step's
number_joined : (n c a y : ℕ) → n ≡ c * 2 ^ 8 + a → a < 2 ^ 8 → c < 2 ^ 16
    → joined_word n y ≡ from_be_bytes w32 ((c / 256 % 256) ∷ (c % 256) ∷ a ∷ (y / 16777216 % 256) ∷ [])
number_joined n c a y is a_low c_low =
    let low : n % 256 ≡ a = omega arith in
    let middle : n / 256 ≡ c = omega arith in
    let high : n / 65536 ≡ c / 256 = omega (arith, byte_and_rest n 256) in
    rw (low, middle, high) refl

-- for each of the numbers 5, .., 15
each_from_five : (P : ℕ → Type 0) → P 5 → P 6 → P 7 → P 8 → P 9 → P 10 → P 11 → P 12 → P 13 → P 14 → P 15
    → (k : ℕ) → 5 ≤ k → k < 16 → P k
each_from_five P p5 p6 p7 p8 p9 p10 p11 p12 p13 p14 p15 k low high = elim (cases_lt k 6) [
  | inl less ↦ let e : k ≡ 5 = omega arith in rw e p5
  | inr more ↦ elim (cases_lt k 7) [
    | inl less ↦ let e : k ≡ 6 = omega arith in rw e p6
    | inr more ↦ elim (cases_lt k 8) [
      | inl less ↦ let e : k ≡ 7 = omega arith in rw e p7
      | inr more ↦ elim (cases_lt k 9) [
        | inl less ↦ let e : k ≡ 8 = omega arith in rw e p8
        | inr more ↦ elim (cases_lt k 10) [
          | inl less ↦ let e : k ≡ 9 = omega arith in rw e p9
          | inr more ↦ elim (cases_lt k 11) [
            | inl less ↦ let e : k ≡ 10 = omega arith in rw e p10
            | inr more ↦ elim (cases_lt k 12) [
              | inl less ↦ let e : k ≡ 11 = omega arith in rw e p11
              | inr more ↦ elim (cases_lt k 13) [
                | inl less ↦ let e : k ≡ 12 = omega arith in rw e p12
                | inr more ↦ elim (cases_lt k 14) [
                  | inl less ↦ let e : k ≡ 13 = omega arith in rw e p13
                  | inr more ↦ elim (cases_lt k 15) [
                    | inl less ↦ let e : k ≡ 14 = omega arith in rw e p14
                    | inr more ↦ let e : k ≡ 15 = omega arith in rw e p15
                  ]
                ]
              ]
            ]
          ]
        ]
      ]
    ]
  ]
]

-- the words of a step's bytes after the beginning, with the padding
pub tail_words : (a b c d e w5 w6 w7 w8 w9 w10 w11 w12 w13 w14 w15 n x0 x1 x2 x3 x4 x5 x6 x7 chain at : ℕ)
    → w5 ≡ joined_word n x0 → w6 ≡ joined_word x0 x1 → w7 ≡ joined_word x1 x2 → w8 ≡ joined_word x2 x3 → w9 ≡ joined_word x3 x4
    → w10 ≡ joined_word x4 x5 → w11 ≡ joined_word x5 x6 → w12 ≡ joined_word x6 x7 → w13 ≡ joined_word x7 0x80000000 → w14 ≡ 0 → w15 ≡ 440
    → n ≡ chain * 2 ^ 8 + at → at < 2 ^ 8 → chain < 2 ^ 16 → (k : ℕ) → 5 ≤ k → k < 16
    → slice_index (a ∷ b ∷ c ∷ d ∷ e ∷ w5 ∷ w6 ∷ w7 ∷ w8 ∷ w9 ∷ w10 ∷ w11 ∷ w12 ∷ w13 ∷ w14 ∷ w15 ∷ []) k
    ≡ word_at (step_bytes chain at (digest_bytes (x0 ∷ x1 ∷ x2 ∷ x3 ∷ x4 ∷ x5 ∷ x6 ∷ x7 ∷ []) 8) ++ 0x80 ∷ to_be_bytes w64 440) (4 * (k - 5))
unfolding digest_bytes
tail_words a b c d e w5 w6 w7 w8 w9 w10 w11 w12 w13 w14 w15 n x0 x1 x2 x3 x4 x5 x6 x7 chain at e5 e6 e7 e8 e9 e10 e11 e12 e13 e14 e15 is at_low chain_low =
    each_from_five (λ k. slice_index (a ∷ b ∷ c ∷ d ∷ e ∷ w5 ∷ w6 ∷ w7 ∷ w8 ∷ w9 ∷ w10 ∷ w11 ∷ w12 ∷ w13 ∷ w14 ∷ w15 ∷ []) k
    ≡ word_at (step_bytes chain at (digest_bytes (x0 ∷ x1 ∷ x2 ∷ x3 ∷ x4 ∷ x5 ∷ x6 ∷ x7 ∷ []) 8) ++ 0x80 ∷ to_be_bytes w64 440) (4 * (k - 5)))
    (e5 ∙ number_joined n chain at x0 is at_low chain_low) e6 e7 e8 e9 e10 e11 e12 e13 e14 e15

-- a lane of five vectors, word by word
pub lane_of_five : (x : List (List ℕ)) (j : ℕ) → length x ≡ 5
    → lane j x ≡ lane_at x 0 j ∷ lane_at x 1 j ∷ lane_at x 2 j ∷ lane_at x 3 j ∷ lane_at x 4 j ∷ []
lane_of_five [] j long = absurd (omega arith)
lane_of_five (a ∷ []) j long = absurd (omega arith)
lane_of_five (a ∷ b ∷ []) j long = absurd (omega arith)
lane_of_five (a ∷ b ∷ c ∷ []) j long = absurd (omega arith)
lane_of_five (a ∷ b ∷ c ∷ d ∷ []) j long = absurd (omega arith)
lane_of_five (a ∷ b ∷ c ∷ d ∷ e ∷ []) j long = refl
lane_of_five (a ∷ b ∷ c ∷ d ∷ e ∷ f ∷ x) j long = absurd (omega arith)
