-- Chains on their ways.
use Rattle.std.proofs.Common.{◌≡◌, ◌∙◌, ℕ, ◌<◌, ◌≤◌, List, [], length, set, take, slice_index, slice_index_or, arith, ap, sym, inl, inr}
use Rattle.std.proofs.lemmas.Bool.{cases_eq}
use Rattle.std.proofs.lemmas.List.{get_or-set_other, get_or-set_same, get_or-take}
use Rattle.winternitz.specs.Chain.{Steps, walk}
use Rattle.winternitz.specs.inner.Chain.{walk_at}
use Rattle.winternitz.specs.inner.Groups.{IsOnItsWay}
use Rattle.winternitz.proofs.Walks.{walk-walk, walk_none}

-- where a chain begins it is on its way
pub way_begun : (step : Steps) (from at to : List ℕ) (values ends : List (List ℕ)) (i : ℕ)
    → slice_index at i ≡ slice_index from i → slice_index_or ends i [] ≡ slice_index_or values i []
    → slice_index from i ≤ slice_index to i → IsOnItsWay step from at to values ends i
way_begun step from at to values ends i place value order = record {
  begun = omega arith;
  within = omega arith;
  value = value ∙ walk_none step i (slice_index from i) (slice_index_or values i [])
      ∙ ap (λ b. walk step i (slice_index from i) b (slice_index_or values i [])) (sym place);
}

-- the same, for one of the first n chains
pub way_begun_of : (step : Steps) (from at to : List ℕ) (values ends : List (List ℕ)) (n i : ℕ) → i < n
    → slice_index at i ≡ slice_index (take n from) i → slice_index_or ends i [] ≡ slice_index_or values i []
    → slice_index from i ≤ slice_index to i → IsOnItsWay step from at (take n to) values ends i
way_begun_of step from at to values ends n i low place value order =
    way_begun step from at (take n to) values ends i (place ∙ get_or-take n from i 0 low) value
    (omega (arith, get_or-take n to i 0 low))

-- where the rest of its way is climbed, it is at its end
pub way_finished : (step : Steps) (from at to : List ℕ) (values ends : List (List ℕ)) (n i : ℕ) (end : List ℕ) → i < n
    → IsOnItsWay step from at (take n to) values ends i → end ≡ walk_at step at (take n to) ends i
    → end ≡ walk_at step from to values i
way_finished step from at to values ends n i end low way rest =
    let begun = way.begun in
    let within = way.within in
    rest
    ∙ ap (walk step i (slice_index at i) (slice_index (take n to) i)) way.value
    ∙ walk-walk step i (slice_index from i) (slice_index at i) (slice_index (take n to) i) (slice_index_or values i []) begun within
    ∙ ap (λ b. walk step i (slice_index from i) b (slice_index_or values i [])) (get_or-take n to i 0 low)

-- a chain further on its way, and the others where they are
pub way_further : (step : Steps) (to old_at at : List ℕ) (old_ends ends : List (List ℕ)) (chain place : ℕ) (value : List ℕ)
    → chain < length at → chain < length ends
    → slice_index old_at chain ≤ place → place ≤ slice_index to chain
    → value ≡ walk step chain (slice_index old_at chain) place (slice_index_or old_ends chain [])
    → (from : List ℕ) (values : List (List ℕ)) (i : ℕ)
    → IsOnItsWay step from old_at to values old_ends i → IsOnItsWay step from at to values ends i
    → IsOnItsWay step from (set at chain place) to values (set ends chain value) i
way_further step to old_at at old_ends ends chain place value there here up within climbed from values i before so_far = elim (cases_eq i chain) [
  | inl same ↦
      let put : slice_index (set at chain place) i ≡ place = ap (slice_index (set at chain place)) same ∙ get_or-set_same at chain place 0 there in
      let written : slice_index_or (set ends chain value) i [] ≡ value = ap (λ k. slice_index_or (set ends chain value) k []) same ∙ get_or-set_same ends chain value [] here in
      let first : slice_index old_at chain ≡ slice_index old_at i = ap (slice_index old_at) (sym same) in
      let reach : slice_index to chain ≡ slice_index to i = ap (slice_index to) (sym same) in
      let begun = before.begun in
      record {
        begun = omega arith;
        within = omega arith;
        value = written ∙ climbed
            ∙ ap (λ k. walk step k (slice_index old_at k) place (slice_index_or old_ends k [])) (sym same)
            ∙ ap (walk step i (slice_index old_at i) place) before.value
            ∙ walk-walk step i (slice_index from i) (slice_index old_at i) place (slice_index_or values i []) begun (omega arith)
            ∙ ap (λ b. walk step i (slice_index from i) b (slice_index_or values i [])) (sym put);
      }
  | inr other ↦
      let kept : slice_index (set at chain place) i ≡ slice_index at i = get_or-set_other at chain i place 0 other in
      let stayed : slice_index_or (set ends chain value) i [] ≡ slice_index_or ends i [] = get_or-set_other ends chain i value [] other in
      let begun = so_far.begun in
      let within = so_far.within in
      record {
        begun = omega arith;
        within = omega arith;
        value = stayed ∙ so_far.value
            ∙ ap (λ b. walk step i (slice_index from i) b (slice_index_or values i [])) (sym kept);
      }
]
