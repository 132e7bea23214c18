-- Numbers by their digits in a base.
use Rattle.std.proofs.Common.{◌≡◌, refl, ℕ, ◌+◌, ◌*◌, List, [], ◌∷◌, length, arith}
use Rattle.std.specs.Int.Digits.{number_from_digits_after, AllBelowBase}
use Rattle.std.proofs.lemmas.Nat.{same_from_place}
use Rattle.winternitz.specs.Digest.{AreDigitsOf}

-- lists of one length in a base that read as one number are equal, also after other digits
same_after : (b m n : ℕ) (xs ys : List ℕ) → length xs ≡ length ys → AllBelowBase b xs → AllBelowBase b ys
    → number_from_digits_after b m xs ≡ number_from_digits_after b n ys → (m ≡ n) × (xs ≡ ys)
same_after b m n [] [] count p q e = (e, refl)
same_after b m n [] (y ∷ ys) count p q e = absurd (omega arith)
same_after b m n (x ∷ xs) [] count p q e = absurd (omega arith)
same_after b m n (x ∷ xs) (y ∷ ys) count p q e =
    let rest : (m * b + x ≡ n * b + y) × (xs ≡ ys) =
    same_after b (m * b + x) (n * b + y) xs ys (omega arith) p.1 q.1 e in
    let first : (m ≡ n) × (x ≡ y) = same_from_place m x n y b p.0 q.0 rest.0 in
    let same : xs ≡ ys = rest.1 in
    let here : x ≡ y = first.1 in
    (first.0, cc)

-- a number has one list of n digits in a base
pub same_digits : (b n x : ℕ) (xs ys : List ℕ) → AreDigitsOf b n x xs → AreDigitsOf b n x ys → xs ≡ ys
same_digits b n x xs ys p q =
    let count : length xs ≡ length ys = cc in
    let number = p.number in
    (same_after b 0 0 xs ys count p.below q.below (cc)).1
