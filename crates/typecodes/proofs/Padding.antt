-- A list, padded with one value to a fixed length.
use Rattle.std.proofs.Common.{arith, ◌≡◌, ◌≤◌, ◌++◌, ◌+◌, ◌-◌, ◌∙◌, ap, sym, ℕ, List, length, replicate, take, drop}
use Rattle.std.proofs.lemmas.List.{drop-replicate, length-append, length-replicate, take-append-le}
use Rattle.std.proofs.Math.Seq.{take-length}

-- the list stands in front
pub front : {A : Type 0} → (xs ys rest : List A) → ys ≡ xs → take (length xs) (ys ++ rest) ≡ xs
front xs ys rest same =
    let many : length ys ≡ length xs = ap length same in
    take-append-le (length xs) ys rest (omega (arith, many)) ∙ ap (λ n. take n ys) (sym many) ∙ take-length ys ∙ same

-- after the list the value fills the room that is left
pub filled : {A : Type 0} → (xs ys : List A) (value : A) (most : ℕ) → ys ≡ xs → length xs ≤ most
    → (length (ys ++ drop (length xs) (replicate most value)) ≡ most)
    × (take (length xs) (ys ++ drop (length xs) (replicate most value)) ++ replicate (most - length xs) value
    ≡ ys ++ drop (length xs) (replicate most value))
filled xs ys value most same room =
    let many : length ys ≡ length xs = ap length same in
    let rest : drop (length xs) (replicate most value) ≡ replicate (most - length xs) value
    = drop-replicate (length xs) most value in
    let size : length (ys ++ drop (length xs) (replicate most value)) ≡ length ys + length (replicate (most - length xs) value)
    = length-append ys _ ∙ ap (λ d. length ys + length d) rest in
    let count : length (replicate (most - length xs) value) ≡ most - length xs = length-replicate _ _ in (
      omega (arith, size, count, many, room),
      ap (λ t. t ++ replicate (most - length xs) value) (front xs ys _ same ∙ sym same)
          ∙ ap (λ t. ys ++ t) (sym rest),
    )
