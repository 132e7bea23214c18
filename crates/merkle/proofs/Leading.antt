-- The authentication path of a leaf leads from it to the root.
use Rattle.std.proofs.Common.{◌≡◌, ℕ, zero, suc, ◌+◌, ◌*◌, ◌<◌, ◌≤◌, ◌≢◌, ◌/◌, ◌%◌, ◌^◌, true, false, inl, inr, List, [], sym, refl, ap, ◌∙◌, arith, rules, add-one}
use Rattle.std.specs.Prelude.{◌==◌, if◌then◌else◌}
use Rattle.std.proofs.Math.Nat.{div-eq_of_lt}
use Rattle.std.proofs.lemmas.Bool.{cases_eq, ne_eqb}
use Rattle.std.proofs.lemmas.List.FromFn.{get_or-map-range_with_len}
use Rattle.merkle.specs.Tree.{Leaves, Joins, node, root_of, sibling, path_at}
use Rattle.merkle.specs.Ascent.{at}
use Rattle.merkle.proofs.Climb.{climbed, climbed-zero, climb_step, half_of}

pub node_more : (leaf : Leaves) (join : Joins) (k j : ℕ)
    → node leaf join (k + 1) j ≡ join k j (node leaf join k (2 * j)) (node leaf join k (2 * j + 1))
unfolding node
node_more leaf join k j = ap (λ h. node leaf join h j) (add-one k)

pub sibling-odd : (i : ℕ) → i % 2 ≡ 1 → sibling i ≡ 2 * (i / 2)
sibling-odd i odd = grind arith

pub sibling-even : (i : ℕ) → i % 2 ≢ 1 → sibling i ≡ 2 * (i / 2) + 1
sibling-even i even = grind arith

-- the node over node i and its sibling
pub node_over : (leaf : Leaves) (join : Joins) (k i : ℕ)
    → node leaf join (k + 1) (i / 2)
    ≡ (if i % 2 == 1
    then join k (i / 2) (node leaf join k (sibling i)) (node leaf join k i)
    else join k (i / 2) (node leaf join k i) (node leaf join k (sibling i)))
node_over leaf join k i =
    node_more leaf join k (i / 2)
    ∙ elim (cases_eq (i % 2) 1) [
      | inl odd ↦
          let test : (i % 2 == 1) ≡ true = search rules in
          let itself : 2 * (i / 2) + 1 ≡ i = omega arith in
          rw (test, sibling-odd, itself) refl
      | inr even ↦
          let test : (i % 2 == 1) ≡ false = ne_eqb _ _ even in
          let itself : 2 * (i / 2) ≡ i = omega arith in
          rw (test, sibling-even, itself) refl
    ]

pub path_of_at : (leaf : Leaves) (join : Joins) (h q k : ℕ) → k < h
    → at (path_at leaf join h q) k ≡ node leaf join k (sibling (q / 2 ^ k))
path_of_at leaf join h q k below =
    get_or-map-range_with_len (λ k. node leaf join k (sibling (q / 2 ^ k))) 0 h k k [] below (omega arith)

-- along the path of q the climb goes through the nodes over q
pub climbed_along : (leaf : Leaves) (join : Joins) (h q k : ℕ) → k ≤ h
    → climbed join q (leaf q) (path_at leaf join h q) k ≡ node leaf join k (q / 2 ^ k)
unfolding node
climbed_along leaf join h q zero below =
    climbed-zero join q (leaf q) (path_at leaf join h q)
    ∙ (let whole : q ≡ q / 2 ^ 0 = omega arith in ap leaf whole)
climbed_along leaf join h q (suc k) below =
    let i = q / 2 ^ k in
    let path = path_at leaf join h q in
    let above_is : node leaf join (k + 1) (i / 2)
    ≡ (if i % 2 == 1
    then join k (i / 2) (at path k) (node leaf join k i)
    else join k (i / 2) (node leaf join k i) (at path k))
    = rw path_of_at (node_over leaf join k i) in
    ap (climbed join q (leaf q) path) (sym (add-one k))
    ∙ sym (climb_step join q (leaf q) path k i (node leaf join k i) (node leaf join (k + 1) (i / 2))
    (sym (climbed_along leaf join h q k (omega arith))) refl above_is)
    ∙ ap (node leaf join (k + 1)) (half_of q k)
    ∙ ap (λ h. node leaf join h (q / 2 ^ h)) (add-one k)

-- so the path of q leads leaf q to the root
pub climbed_to_root : (leaves : Leaves) (join : Joins) (h q : ℕ) (leaf : List ℕ) (path : List (List ℕ))
    → q < 2 ^ h
    → path ≡ path_at leaves join h q
    → leaf ≡ leaves q
    → climbed join q leaf path h ≡ root_of leaves join h
climbed_to_root leaves join h q leaf path inside path_is leaf_is =
    ap (λ v. climbed join q v path h) leaf_is
    ∙ ap (λ v. climbed join q (leaves q) v h) path_is
    ∙ climbed_along leaves join h q h (omega arith)
    ∙ ap (node leaves join h) (div-eq_of_lt inside)
