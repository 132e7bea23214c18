-- Rows with a value in each lane, written one after the other, and L-trees over them.
use Rattle.std.proofs.Common.{◌≡◌, ◌≢◌, set, ◌∙◌, refl, sym, inl, inr, ap, ap₂, ℕ, zero, suc, ◌+◌, ◌*◌, ◌/◌, ◌%◌, ◌<◌, ◌≤◌, List, [], ◌∷◌, length, get_or, map, take, arith}
use Rattle.std.specs.List.{range_with_len}
use Rattle.std.proofs.lemmas.Bool.{cases_lt}
use Rattle.std.proofs.lemmas.List.{get_or-set_other, get_or-set_same, length-map, length-set, take-map}
use Rattle.std.proofs.lemmas.List.FromFn.{fill_by_all}
use Rattle.winternitz.specs.Lanes.{lanes}
use Rattle.wots_plus.specs.LTree.{next_height}
use Rattle.wots_plus.specs.inner.LaneKeys.{in_lane}
use Rattle.wots_plus.proofs.LTree.{next_height_all}

pub in_lane_at : (j : ℕ) (rows : List (List (List ℕ))) (k : ℕ) → get_or (in_lane j rows) k [] ≡ get_or (get_or rows k []) j []
in_lane_at j [] k = refl
in_lane_at j (row ∷ rows) zero = refl
in_lane_at j (row ∷ rows) (suc k) = in_lane_at j rows k

pub row_more : (f : ℕ → ℕ → List ℕ) (rows : List (List (List ℕ))) (row : List (List ℕ)) (i : ℕ) → i < length rows
    → ((j : ℕ) → j < lanes → (k : ℕ) → k < i → get_or (get_or rows k []) j [] ≡ f j k)
    → ((j : ℕ) → j < lanes → get_or row j [] ≡ f j i)
    → (j : ℕ) → j < lanes → (k : ℕ) → k < i + 1 → get_or (get_or (set rows i row) k []) j [] ≡ f j k
row_more f rows row i inside before is j low k within = elim (cases_lt k i) [
  | inl less ↦
      let other : k ≢ i = omega arith in
      ap (λ r. get_or r j []) (get_or-set_other rows i k row [] other) ∙ before j low k less
  | inr past ↦
      let here : k ≡ i = omega arith in
      ap (λ n. get_or (get_or (set rows i row) n []) j []) here
      ∙ ap (λ r. get_or r j []) (get_or-set_same rows i row [] inside)
      ∙ is j low ∙ ap (f j) (sym here)
]

-- a lane whose values are f of their index is the list of f
pub lane_is : (f : ℕ → List ℕ) (rows : List (List (List ℕ))) (j n : ℕ) → length rows ≡ n
    → ((k : ℕ) → k < n → get_or (get_or rows k []) j [] ≡ f k) → in_lane j rows ≡ map f (range_with_len 0 n)
lane_is f rows j n long each =
    fill_by_all f (in_lane j rows) n [] (length-map rows (λ row. get_or row j []) ∙ long)
    (λ k within. in_lane_at j rows k ∙ each k within)

-- the rows over pairs and the odd row are, in each lane, the next height
pub next_rows : (join : ℕ → List ℕ → List ℕ → List ℕ) (j : ℕ) (old new : List (List (List ℕ))) (pairs count : ℕ)
    → pairs ≡ length old / 2 → count ≡ (length old + 1) / 2 → length new ≡ length old
    → ((k : ℕ) → k < pairs → get_or (get_or new k []) j []
    ≡ join k (get_or (get_or old (2 * k) []) j []) (get_or (get_or old (2 * k + 1) []) j []))
    → (length old % 2 ≡ 1 → get_or new pairs [] ≡ get_or old (2 * pairs) [])
    → in_lane j (take count new) ≡ next_height join 0 (in_lane j old)
next_rows join j old new pairs count halves all long each odd =
    let pick : List (List ℕ) → List ℕ = λ row. get_or row j [] in
    let old_long = length-map old pick in
    let new_long = length-map new pick in
    sym (take-map pick count new)
    ∙ next_height_all join (in_lane j old) (in_lane j new) pairs count (omega arith) (omega arith) (omega arith)
    (λ k within. in_lane_at j new k ∙ each k within ∙ sym (ap₂ (join k) (in_lane_at j old (2 * k)) (in_lane_at j old (2 * k + 1))))
    (λ is. in_lane_at j new pairs ∙ ap pick (odd (omega arith)) ∙ sym (in_lane_at j old (2 * pairs)))

-- the same, where the odd row was moved last
pub next_rows_with_odd : (join : ℕ → List ℕ → List ℕ → List ℕ) (j : ℕ) (old new : List (List (List ℕ))) (pairs count : ℕ)
    → pairs ≡ length old / 2 → count ≡ (length old + 1) / 2 → length new ≡ length old → length old % 2 ≡ 1
    → ((k : ℕ) → k < pairs → get_or (get_or new k []) j []
    ≡ join k (get_or (get_or old (2 * k) []) j []) (get_or (get_or old (2 * k + 1) []) j []))
    → ((k : ℕ) → 2 * pairs ≤ k → get_or new k [] ≡ get_or old k [])
    → in_lane j (take count (set new pairs (get_or new (2 * pairs) []))) ≡ next_height join 0 (in_lane j old)
next_rows_with_odd join j old new pairs count halves all long odd each rest =
    let last = get_or new (2 * pairs) [] in
    next_rows join j old (set new pairs last) pairs count halves all (length-set new pairs last ∙ long)
    (λ k within.
    let other : k ≢ pairs = omega arith in
    ap (λ row. get_or row j []) (get_or-set_other new pairs k last [] other) ∙ each k within)
    (λ _. get_or-set_same new pairs last [] (omega arith) ∙ rest (2 * pairs) (omega arith))

-- one row is left: the first
pub one_row : (j count : ℕ) (rows : List (List (List ℕ))) → count ≡ 1 → 0 < length rows
    → in_lane j (take count rows) ≡ get_or (get_or rows 0 []) j [] ∷ []
one_row j count [] one some = absurd (omega arith)
one_row j count (row ∷ rows) one some = rw one refl
