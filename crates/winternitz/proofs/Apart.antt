-- No digest's digits are all at least another's.
use Rattle.std.proofs.Common.{◌≡◌, ◌∙◌, refl, sym, ap, ℕ, suc, ◌+◌, ◌-◌, ◌*◌, ◌^◌, ◌<◌, ◌≤◌, List, [], ◌∷◌, ◌++◌, length, get_or, arith}
use Rattle.std.specs.Int.Digits.{number_from_digits_after, number_from_digits, AllBelowBase}
use Rattle.std.proofs.Math.Nat.{mul-le-mul_right}
use Rattle.std.proofs.Math.ListN.{get_or-append}
use Rattle.std.proofs.lemmas.List.{get_or-append-add}
use Rattle.std.proofs.lemmas.List.Sums.{sum_by-cons}
use Rattle.std.proofs.lemmas.List.Elements.{All-from_get_or, recursion_from_All}
use Rattle.winternitz.specs.Digest.{lacking_of, HasWholeChecksum}
use Rattle.winternitz.proofs.Bases.{same_digits}

abbrev AreAtMost : List ℕ → List ℕ → Type 0
AreAtMost xs ys = (i : ℕ) → i < length xs → get_or xs i 0 ≤ get_or ys i 0

-- greater digits read as a greater number
number_grows : (b m n : ℕ) (xs ys : List ℕ) → m ≤ n → length xs ≡ length ys → AreAtMost xs ys
    → number_from_digits_after b m xs ≤ number_from_digits_after b n ys
number_grows b m n [] [] start count each = start
number_grows b m n [] (y ∷ ys) start count each = absurd (omega arith)
number_grows b m n (x ∷ xs) [] start count each = absurd (omega arith)
number_grows b m n (x ∷ xs) (y ∷ ys) start count each =
    let here : x ≤ y = each 0 (omega arith) in
    number_grows b (m * b + x) (n * b + y) xs ys (omega (arith, mul-le-mul_right b start)) (omega arith)
    (λ i within. each (suc i) (omega arith))

-- greater digits lack less, or are the same
lacking_falls : (w : ℕ) (xs ys : List ℕ) → length xs ≡ length ys → AllBelowBase (2 ^ w) ys → AreAtMost xs ys
    → (lacking_of w ys ≤ lacking_of w xs) × (lacking_of w xs ≤ lacking_of w ys → xs ≡ ys)
lacking_falls w [] [] count below each = (omega arith, λ h. refl)
lacking_falls w [] (y ∷ ys) count below each = absurd (omega arith)
lacking_falls w (x ∷ xs) [] count below each = absurd (omega arith)
lacking_falls w (x ∷ xs) (y ∷ ys) count below each =
    let here : x ≤ y = each 0 (omega arith) in
    let fits : y < 2 ^ w = below.0 in
    let lack : ℕ → ℕ = λ d. 2 ^ w - 1 - d in
    let left : lacking_of w (x ∷ xs) ≡ 2 ^ w - 1 - x + lacking_of w xs = sum_by-cons lack x xs in
    let right : lacking_of w (y ∷ ys) ≡ 2 ^ w - 1 - y + lacking_of w ys = sum_by-cons lack y ys in
    let rest : (lacking_of w ys ≤ lacking_of w xs) × (lacking_of w xs ≤ lacking_of w ys → xs ≡ ys) =
    lacking_falls w xs ys (omega arith) below.1 (λ i within. each (suc i) (omega arith)) in
    let falls : lacking_of w ys ≤ lacking_of w xs = rest.0 in (
      omega arith,
      λ h.
          let first : x ≡ y = omega arith in
          let others : xs ≡ ys = rest.1 (omega arith) in
          cc,
    )

-- bytes are digits in base 256
all_bytes : (bytes : List ℕ) → ((i : ℕ) → get_or bytes i 0 < 256) → AllBelowBase 256 bytes
all_bytes bytes fits =
    recursion_from_All (λ d. d < 256) bytes (All-from_get_or (λ d. d < 256) bytes 0 (λ i within. fits i))

-- where no digit falls, the digests are one
pub none_above : (w : ℕ) (digest other digits others : List ℕ) → length other ≡ length digest
    → ((i : ℕ) → get_or digest i 0 < 256) → ((i : ℕ) → get_or other i 0 < 256)
    → HasWholeChecksum w digest digits → HasWholeChecksum w other others
    → ((i : ℕ) → get_or digits i 0 ≤ get_or others i 0) → other ≡ digest
none_above w digest other digits others size fits other_fits p q each =
    let count : length p.message ≡ length q.message = p.message_digits.count ∙ sym q.message_digits.count in
    let more : length p.checksum ≡ length q.checksum = p.checksum_digits.count ∙ sym q.checksum_digits.count in
    let each_digit : (i : ℕ) → get_or (p.message ++ p.checksum) i 0 ≤ get_or (q.message ++ q.checksum) i 0 = λ i.
    omega (arith, each i, ap (λ l. get_or l i 0) p.all, ap (λ l. get_or l i 0) q.all) in
    let message : AreAtMost p.message q.message = λ i within.
    omega (
      arith,
      each_digit i,
      get_or-append p.message p.checksum 0 i within,
      get_or-append q.message q.checksum 0 i (omega arith),
    ) in
    let checksum : AreAtMost p.checksum q.checksum = λ i within.
    omega (
      arith,
      each_digit (length p.message + i),
      get_or-append-add p.message p.checksum i 0,
      ap (λ n. get_or (q.message ++ q.checksum) (n + i) 0) count,
      get_or-append-add q.message q.checksum i 0,
    ) in
    let grows : number_from_digits (2 ^ w) p.checksum ≤ number_from_digits (2 ^ w) q.checksum =
    number_grows (2 ^ w) 0 0 p.checksum q.checksum (omega arith) more checksum in
    let falls = lacking_falls w p.message q.message count q.message_digits.below message in
    let same : p.message ≡ q.message =
    falls.1 (omega (arith, grows, p.checksum_digits.number, q.checksum_digits.number)) in
    let number : number_from_digits 256 other ≡ number_from_digits 256 digest =
    sym q.message_digits.number ∙ ap (number_from_digits (2 ^ w)) (sym same) ∙ p.message_digits.number in
    same_digits 256 (length digest) (number_from_digits 256 digest) other digest
    (record { count = size; below = all_bytes other other_fits; number = number })
    (record { count = refl; below = all_bytes digest fits; number = refl })
