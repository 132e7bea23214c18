-- The ends of chains, as a relation and as a list.
use Rattle.std.proofs.Common.{◌≡◌, ◌∙◌, subst, inl, inr, ℕ, ◌+◌, ◌-◌, ◌<◌, ◌≤◌, List, [], map, length, take, slice_index_or, arith}
use Rattle.std.specs.List.{range_with_len}
use Rattle.std.proofs.lemmas.Bool.{cases_lt}
use Rattle.std.proofs.lemmas.List.{get_or-take, length-take-le}
use Rattle.std.proofs.lemmas.List.FromFn.{length-map-range_with_len, get_or-map-range_with_len, fill_by_all}
use Rattle.winternitz.specs.Chain.{Steps, AreEnds, end_at, ends_of}
use Rattle.winternitz.specs.Lanes.{lanes}

-- the list of the ends is a list of ends
pub are_ends : (step : Steps) (w : ℕ) (digits : List ℕ) (values : List (List ℕ))
    → AreEnds step w digits values (ends_of step w digits values)
are_ends step w digits values = record {
  count = length-map-range_with_len (end_at step w digits values) 0 (length digits);
  each = λ i within.
      get_or-map-range_with_len (end_at step w digits values) 0 (length digits) i i [] within (omega arith);
}

-- and no other list is
pub same_ends : (step : Steps) (w : ℕ) (digits : List ℕ) (values ends : List (List ℕ))
    → AreEnds step w digits values ends → ends ≡ ends_of step w digits values
same_ends step w digits values ends are =
    fill_by_all (end_at step w digits values) ends (length digits) [] are.count are.each

-- the first n values, each its chain's
pub first_are : (value : ℕ → List ℕ) (n : ℕ) (values : List (List ℕ)) → n ≤ length values
    → ((i : ℕ) → i < n → slice_index_or values i [] ≡ value i) → take n values ≡ map value (range_with_len 0 n)
first_are value n values room each =
    fill_by_all value (take n values) n [] (length-take-le n values room) (λ i within. get_or-take n values i [] within ∙ each i within)

-- value i of the first n
pub first_at : (n i : ℕ) (values : List (List ℕ)) → i < n → slice_index_or (take n values) i [] ≡ slice_index_or values i []
first_at n i values within = get_or-take n values i [] within

-- the values of all lanes are added after the earlier ones, which stay
pub lanes_more : (value : ℕ → List ℕ) (place : ℕ) (old new : List (List ℕ))
    → ((i : ℕ) → i < place → slice_index_or old i [] ≡ value i)
    → ((i : ℕ) → i < place → slice_index_or new i [] ≡ slice_index_or old i [])
    → ((j : ℕ) → j < lanes → slice_index_or new (place + j) [] ≡ value (place + j))
    → (i : ℕ) → i < place + lanes → slice_index_or new i [] ≡ value i
lanes_more value place old new before kept made i low = elim (cases_lt i place) [
  | inl less ↦ kept i less ∙ before i less
  | inr past ↦
      let there : place + (i - place) ≡ i = omega arith in
      subst (λ i. slice_index_or new i [] ≡ value i) there (made (i - place) (omega arith))
]
