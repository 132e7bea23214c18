-- Words of the schedule and round constants, added side by side, and the rounds over them.
use Rattle.std.proofs.Common.{◌≡◌, ◌∙◌, ℕ, ◌<◌, ◌≤◌, ◌+◌, ◌-◌, ◌*◌, ◌%◌, List, [], length, set, slice_index, slice_set}
use Rattle.std.proofs.Common.{arith, drop, refl, sym, subst, inl, inr, ap, ap₂}
use Rattle.std.proofs.lemmas.Bool.{cases_lt}
use Rattle.std.proofs.lemmas.List.{get_or-drop, get_or-set_other, get_or-set_same, get_or-take}
use Rattle.sha2.proofs.Schedule256.{IsWindow_next, rounds_next, window_word_at, window_word_place}
use Rattle.sha2.specs.Sha256.{IsWindow, add32, round, round_constants, rounds, schedule, window_word, word_at}
use Rattle.winternitz.specs.inner.Sums.{AreSumsAt, HasSums, block_of, sum_at}

-- one more lane
pub lane_more : (f : ℕ → ℕ) (words : List ℕ) (lane word : ℕ) → lane < length words
    → ((j : ℕ) → j < lane → slice_index words j ≡ f j) → word ≡ f lane
    → (j : ℕ) → j < lane + 1 → slice_index (slice_set words lane word) j ≡ f j
lane_more f words lane word room before here j low = elim (cases_lt j lane) [
  | inl less ↦ get_or-set_other words lane j word 0 (omega arith) ∙ before j less
  | inr last ↦
      let same : j ≡ lane = omega arith in
      rw same (get_or-set_same words lane word 0 room ∙ here)
]

-- one more round's sum
pub sums_more : (b : List ℕ) (j t : ℕ) (sums : List (List ℕ)) (row : List ℕ) → t < length sums → HasSums b j sums t
    → slice_index row j ≡ sum_at b t → HasSums b j (set sums t row) (t + 1)
sums_more b j t sums row room before here i low = elim (cases_lt i t) [
  | inl less ↦ ap (λ w. slice_index w j) (get_or-set_other sums t i row [] (omega arith)) ∙ before i less
  | inr last ↦
      let same : i ≡ t = omega arith in
      rw same (ap (λ w. slice_index w j) (get_or-set_same sums t row [] room) ∙ here)
]

-- the words of the first 16 rounds
pub first_word_at : (b w : List ℕ) (t : ℕ) → t < 16 → IsWindow w (schedule b 48) 16 → slice_index w t ≡ slice_index (schedule b 48) t
first_word_at b w t low window =
    let place : (16 + t) % 16 ≡ t = omega arith in
    let at : 16 + t - 16 ≡ t = omega arith in
    rw (place, at) at (window.1 t low)

-- one more word of the schedule, and its sum
pub sums_next : (b w next : List ℕ) (j turn place x : ℕ) (sums : List (List ℕ)) (row : List ℕ) → 1 ≤ turn → turn < 4 → place < 16
    → length sums ≡ 64 → IsWindow w (schedule b 48) (16 * turn + place) → HasSums b j sums (16 * turn + place)
    → x ≡ window_word w place → next ≡ slice_set w place x
    → slice_index row j ≡ add32 x (slice_index round_constants (16 * turn + place))
    → IsWindow next (schedule b 48) (16 * turn + (place + 1)) × HasSums b j (set sums (16 * turn + place) row) (16 * turn + (place + 1))
sums_next b w next j turn place x sums row low high within long window before word moved sum =
    let t = 16 * turn + place in
    let more : t + 1 ≡ 16 * turn + (place + 1) = omega arith in
    let at : place ≡ t % 16 = omega arith in
    let value : x ≡ slice_index (schedule b 48) t =
    word ∙ window_word_place w turn place ∙ window_word_at b w t (omega arith) (omega arith) window in
    let shifted : next ≡ slice_set w (t % 16) (slice_index (schedule b 48) t) = moved ∙ ap₂ (slice_set w) at value in
    let here = subst (λ v. IsWindow v (schedule b 48) (t + 1)) (sym shifted) (IsWindow_next b w t (omega arith) (omega arith) window) in
    let sums_here = sums_more b j t sums row (omega arith) before (sum ∙ ap (λ v. add32 v (slice_index round_constants t)) value) in
    (subst (IsWindow next (schedule b 48)) more here, subst (HasSums b j (set sums t row)) more sums_here)

-- the same place, spelled another way
pub AreSumsAt_at : (b : List ℕ) (j : ℕ) (window sums : List (List ℕ)) (n k : ℕ) → n ≡ k → AreSumsAt b j window sums n → AreSumsAt b j window sums k
AreSumsAt_at b j window sums n k same held = rw (← same) held

-- the terms of T1, and of T1 + T2, in another order, with word and constant as their sum
pub temp1_by_sum : (h s1 ch k word sum : ℕ) → sum ≡ add32 word k
    → add32 (add32 (add32 h sum) ch) s1 ≡ add32 (add32 (add32 (add32 h s1) ch) k) word
temp1_by_sum h s1 ch k word sum is = omega arith

pub both_by_sum : (h s1 ch k word sum s0 maj : ℕ) → sum ≡ add32 word k
    → add32 (add32 (add32 (add32 (add32 h sum) ch) s1) maj) s0
    ≡ add32 (add32 (add32 (add32 (add32 h s1) ch) k) word) (add32 s0 maj)
both_by_sum h s1 ch k word sum s0 maj is = omega arith

-- one more round
pub round_more : (b h v next : List ℕ) (t sum : ℕ) → v ≡ rounds h (schedule b 48) t → sum ≡ sum_at b t
    → ((k word : ℕ) → sum ≡ add32 word k → next ≡ round v k word) → next ≡ rounds h (schedule b 48) (t + 1)
round_more b h v next t sum before is made =
    let word = slice_index (schedule b 48) t in
    let constant = slice_index round_constants t in
    made constant word is ∙ ap (λ w. round w constant word) before ∙ sym (rounds_next h (schedule b 48) t)

-- a byte of one of eight blocks, and a word of it
byte_of_block : (bytes : List ℕ) (j i : ℕ) → i < 64 → slice_index bytes (64 * j + i) ≡ slice_index (block_of bytes j) i
byte_of_block bytes j i low =
    let at : 64 * j + i ≡ j * 64 + i = omega arith in
    ap (slice_index bytes) at ∙ sym (get_or-take 64 (drop (j * 64) bytes) i 0 low ∙ get_or-drop (j * 64) bytes i 0)

pub word_of_block : (bytes : List ℕ) (j i : ℕ) → i + 4 ≤ 64 → word_at bytes (64 * j + i) ≡ word_at (block_of bytes j) i
word_of_block bytes j i within =
    let second : 64 * j + i + 1 ≡ 64 * j + (i + 1) = omega arith in
    let third : 64 * j + i + 2 ≡ 64 * j + (i + 2) = omega arith in
    let fourth : 64 * j + i + 3 ≡ 64 * j + (i + 3) = omega arith in
    rw (
      second,
      third,
      fourth,
      byte_of_block bytes j i (omega arith),
      byte_of_block bytes j (i + 1) (omega arith),
      byte_of_block bytes j (i + 2) (omega arith),
      byte_of_block bytes j (i + 3) (omega arith),
    ) refl

-- one more of some rounds from round t on
pub round_from : (b h v next : List ℕ) (t i sum : ℕ) → v ≡ rounds h (schedule b 48) (t + i) → sum ≡ sum_at b (t + i)
    → ((k word : ℕ) → sum ≡ add32 word k → next ≡ round v k word) → next ≡ rounds h (schedule b 48) (t + (i + 1))
round_from b h v next t i sum before is made =
    round_more b h v next (t + i) sum before is made ∙ ap (rounds h (schedule b 48)) (omega arith)
