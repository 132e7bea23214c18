-- L-trees, one height at a time.
use Rattle.std.proofs.Common.{◌≡◌, ◌≢◌, set, ◌∙◌, refl, sym, subst, inl, inr, ap, ap₂, ℕ, zero, suc, ◌+◌, ◌-◌, ◌*◌, ◌/◌, ◌%◌, ◌<◌, ◌≤◌, List, [], ◌∷◌, length, get_or, take, arith, add-one}
use Rattle.std.proofs.lemmas.Bool.{cases_lt}
use Rattle.std.proofs.lemmas.List.{get_or-set_other, get_or-set_same, get_or-take, length-set, length-take-le}
use Rattle.std.proofs.lemmas.List.FromFn.{fill_by_all}
use Rattle.std.proofs.Math.Logic.{⊎_elim}
use Rattle.winternitz.specs.Lanes.{lanes}
use Rattle.wots_plus.specs.LTree.{LTreeJoins, IsLTreeRoot, at_height, next_height, l_tree_root}

-- half as many values, rounded up
pub length-next_height : (join : ℕ → List ℕ → List ℕ → List ℕ) (i : ℕ) (values : List (List ℕ))
    → length (next_height join i values) ≡ (length values + 1) / 2
unfolding next_height
length-next_height join i [] = refl
length-next_height join i (last ∷ []) = refl
length-next_height join i (left ∷ right ∷ rest) = omega (arith, length-next_height join (i + 1) rest)

-- the value over a pair
pub next_height_pair : (join : ℕ → List ℕ → List ℕ → List ℕ) (i : ℕ) (values : List (List ℕ)) (k : ℕ) → 2 * k + 1 < length values
    → get_or (next_height join i values) k [] ≡ join (i + k) (get_or values (2 * k) []) (get_or values (2 * k + 1) [])
unfolding next_height
next_height_pair join i [] k inside = absurd (omega arith)
next_height_pair join i (last ∷ []) k inside = absurd (omega arith)
next_height_pair join i (left ∷ right ∷ rest) zero inside = let here : i ≡ i + 0 = omega arith in ap (λ n. join n left right) here
next_height_pair join i (left ∷ right ∷ rest) (suc k) inside =
    let here : i + 1 + k ≡ i + suc k = omega arith in
    let even : 2 * suc k ≡ suc (suc (2 * k)) = omega arith in
    let odd : 2 * suc k + 1 ≡ suc (suc (2 * k + 1)) = omega arith in
    let all = left ∷ right ∷ rest in
    next_height_pair join (i + 1) rest k (omega arith)
    ∙ ap (λ n. join n (get_or rest (2 * k) []) (get_or rest (2 * k + 1) [])) here
    ∙ ap₂ (λ a b. join (i + suc k) (get_or all a []) (get_or all b [])) (sym even) (sym odd)

-- an odd last value
pub next_height_odd : (join : ℕ → List ℕ → List ℕ → List ℕ) (i : ℕ) (values : List (List ℕ)) (k : ℕ) → length values ≡ 2 * k + 1
    → get_or (next_height join i values) k [] ≡ get_or values (2 * k) []
unfolding next_height
next_height_odd join i [] k last = absurd (omega arith)
next_height_odd join i (value ∷ []) k last = let first : k ≡ 0 = omega arith in rw first refl
next_height_odd join i (left ∷ right ∷ rest) zero last = absurd (omega arith)
next_height_odd join i (left ∷ right ∷ rest) (suc k) last =
    let even : 2 * suc k ≡ suc (suc (2 * k)) = omega arith in
    next_height_odd join (i + 1) rest k (omega arith) ∙ ap (λ n. get_or (left ∷ right ∷ rest) n []) (sym even)

-- joins of pairs and the odd value are the whole next height
pub next_height_all : (join : ℕ → List ℕ → List ℕ → List ℕ) (old new : List (List ℕ)) (pairs count : ℕ)
    → pairs ≡ length old / 2 → count ≡ (length old + 1) / 2 → length new ≡ length old
    → ((k : ℕ) → k < pairs → get_or new k [] ≡ join k (get_or old (2 * k) []) (get_or old (2 * k + 1) []))
    → (length old % 2 ≡ 1 → get_or new pairs [] ≡ get_or old (2 * pairs) [])
    → take count new ≡ next_height join 0 old
next_height_all join old new pairs count halves all long each odd =
    let f : ℕ → List ℕ = λ k. get_or (next_height join 0 old) k [] in
    let below : (k : ℕ) → k < pairs → get_or new k [] ≡ f k = λ k within.
    let here : k ≡ 0 + k = omega arith in
    each k within
    ∙ ap (λ n. join n (get_or old (2 * k) []) (get_or old (2 * k + 1) [])) here
    ∙ sym (next_height_pair join 0 old k (omega arith)) in
    let last : (k : ℕ) → k < count → pairs ≤ k → get_or new k [] ≡ f k = λ k within past.
    let here : k ≡ pairs = omega arith in
    ap (λ n. get_or new n []) here
    ∙ odd (omega arith)
    ∙ ap (λ n. get_or old (2 * n) []) (sym here)
    ∙ sym (next_height_odd join 0 old k (omega arith)) in
    fill_by_all f (take count new) count [] (length-take-le count new (omega arith))
    (λ k within. get_or-take count new k [] within ∙ ⊎_elim (λ h. below k h) (λ h. last k within h) (cases_lt k pairs))
    ∙ sym (fill_by_all f (next_height join 0 old) count [] (length-next_height join 0 old ∙ sym all) (λ k within. refl))

-- the same, where the odd value was moved last
pub next_height_with_odd : (join : ℕ → List ℕ → List ℕ → List ℕ) (old new : List (List ℕ)) (pairs count : ℕ)
    → pairs ≡ length old / 2 → count ≡ (length old + 1) / 2 → length new ≡ length old → length old % 2 ≡ 1
    → ((k : ℕ) → k < pairs → get_or new k [] ≡ join k (get_or old (2 * k) []) (get_or old (2 * k + 1) []))
    → ((k : ℕ) → 2 * pairs ≤ k → get_or new k [] ≡ get_or old k [])
    → take count (set new pairs (get_or new (2 * pairs) [])) ≡ next_height join 0 old
next_height_with_odd join old new pairs count halves all long odd each rest =
    let last = get_or new (2 * pairs) [] in
    next_height_all join old (set new pairs last) pairs count halves all (length-set new pairs last ∙ long)
    (λ k within. let other : k ≢ pairs = omega arith in get_or-set_other new pairs k last [] other ∙ each k within)
    (λ _. get_or-set_same new pairs last [] (omega arith) ∙ rest (2 * pairs) (omega arith))

-- after the first pairs, as many more as there are lanes are joined
pub pairs_more : (join : ℕ → List ℕ → List ℕ → List ℕ) (old before after : List (List ℕ)) (first : ℕ)
    → ((k : ℕ) → k < first → get_or before k [] ≡ join k (get_or old (2 * k) []) (get_or old (2 * k + 1) []))
    → ((k : ℕ) → 2 * first ≤ k → get_or before k [] ≡ get_or old k [])
    → ((k : ℕ) → k < first → get_or after k [] ≡ get_or before k [])
    → ((j : ℕ) → j < lanes
    → get_or after (first + j) [] ≡ join (first + j) (get_or before (2 * (first + j)) []) (get_or before (2 * (first + j) + 1) []))
    → (k : ℕ) → k < first + lanes → get_or after k [] ≡ join k (get_or old (2 * k) []) (get_or old (2 * k + 1) [])
pairs_more join old before after first over rest kept joined k low = elim (cases_lt k first) [
  | inl less ↦ kept k less ∙ over k less
  | inr past ↦
      let there : first + (k - first) ≡ k = omega arith in
      subst (λ i. get_or after i [] ≡ join i (get_or before (2 * i) []) (get_or before (2 * i + 1) [])) there
      (joined (k - first) (omega arith))
      ∙ ap₂ (join k) (rest (2 * k) (omega arith)) (rest (2 * k + 1) (omega arith))
]

pub alone : (join : LTreeJoins) (values : List (List ℕ)) (k n : ℕ) (root : List ℕ)
    → at_height join values k ≡ root ∷ [] → at_height join values (k + n) ≡ root ∷ []
unfolding at_height next_height
alone join values k zero root is = let same : k + 0 ≡ k = omega arith in ap (at_height join values) same ∙ is
alone join values k (suc n) root is =
    let more : k + suc n ≡ suc (k + n) = omega arith in
    ap (at_height join values) more ∙ ap (next_height (join (k + n)) 0) (alone join values k n root is)

pub one_root : (join : LTreeJoins) (values : List (List ℕ)) (root other : List ℕ)
    → IsLTreeRoot join values root → IsLTreeRoot join values other → other ≡ root
one_root join values root other (k, is) (m, was) =
    let both : m + k ≡ k + m = omega arith in
    ap (λ list. get_or list 0 [])
    (sym (alone join values m k other was) ∙ ap (at_height join values) both ∙ alone join values k m root is)

pub root_is : (join : LTreeJoins) (values : List (List ℕ)) (k : ℕ) (root : List ℕ) → k ≤ length values
    → at_height join values k ≡ root ∷ [] → root ≡ l_tree_root join values
root_is join values k root low is =
    let all : k + (length values - k) ≡ length values = omega arith in
    ap (λ list. get_or list 0 []) (sym (alone join values k (length values - k) root is) ∙ ap (at_height join values) all)

pub height_more : (join : LTreeJoins) (values : List (List ℕ)) (k : ℕ) (before after : List (List ℕ))
    → before ≡ at_height join values k → after ≡ next_height (join k) 0 before → after ≡ at_height join values (k + 1)
unfolding at_height
height_more join values k before after was is =
    is ∙ ap (next_height (join k) 0) was ∙ ap (at_height join values) (sym (add-one k))

pub height_none : (join : LTreeJoins) (values : List (List ℕ)) → values ≡ at_height join values 0
unfolding at_height
height_none join values = refl

pub one_left : (count : ℕ) (values : List (List ℕ)) → count ≡ 1 → 0 < length values → take count values ≡ get_or values 0 [] ∷ []
one_left count [] one some = absurd (omega arith)
one_left count (first ∷ rest) one some = rw one refl
