-- Values of 32 bytes, concatenated: how they are written one after the other, and cut out again.
use Rattle.std.proofs.Common.{◌≡◌, ◌∙◌, refl, ap, ap₂, ℕ, zero, suc, ◌<◌, List, [], ◌∷◌, length, get_or, arith, take_at, drop_at}
use Rattle.std.specs.List.{concat}
use Rattle.std.specs.Simd.{first_chunks}

-- values of 32 bytes that are concatenated are cut out of the bytes again
pub chunks_of_concat : (n : ℕ) (values : List (List ℕ)) → length values ≡ n → ((i : ℕ) → i < n → length (get_or values i []) ≡ 32)
    → first_chunks 32 n (concat values) ≡ values
chunks_of_concat zero [] count sizes = refl
chunks_of_concat zero (first ∷ rest) count sizes = absurd (omega arith)
chunks_of_concat (suc n) [] count sizes = absurd (omega arith)
chunks_of_concat (suc n) (first ∷ rest) count sizes =
    let size : length first ≡ 32 = sizes 0 (omega arith) in
    let others = λ (i : ℕ) (within : i < n). sizes (suc i) (omega arith) in
    ap₂ (λ x xs. x ∷ xs) (take_at first (concat rest) 32 size)
    (ap (first_chunks 32 n) (drop_at first (concat rest) 32 size) ∙ chunks_of_concat n rest (omega arith) others)
