-- The nodes above a leaf, height by height; every ascent is the list of them.
use Rattle.std.proofs.Common.{◌≡◌, ℕ, zero, suc, ◌+◌, ◌<◌, ◌≤◌, ◌/◌, ◌%◌, ◌^◌, List, [], length, sym, refl, ap, ◌∙◌, arith, add-one}
use Rattle.std.specs.Prelude.{◌==◌, map, if◌then◌else◌}
use Rattle.std.specs.List.{range_with_len}
use Rattle.std.proofs.Math.Nat.{div-div-eq-div-mul}
use Rattle.std.proofs.lemmas.Grind.{pow_more}
use Rattle.std.proofs.lemmas.List.FromFn.{get_or-map-range_with_len, length-map-range_with_len}
use Rattle.merkle.specs.Tree.{Joins}
use Rattle.merkle.specs.Ascent.{IsAscent, at}

-- the node of height k + 1 over a node of height k
abbrev pub parent : Joins → ℕ → List (List ℕ) → ℕ → List ℕ → List ℕ
parent join q path k node =
    if q / 2 ^ k % 2 == 1
    then join k (q / 2 ^ (k + 1)) (at path k) node
    else join k (q / 2 ^ (k + 1)) node (at path k)

-- the node at height k above a leaf
unfoldable pub climbed : Joins → ℕ → List ℕ → List (List ℕ) → ℕ → List ℕ
climbed join q leaf path zero = leaf
climbed join q leaf path (suc k) = parent join q path k (climbed join q leaf path k)

pub climbed-zero : (join : Joins) (q : ℕ) (leaf : List ℕ) (path : List (List ℕ)) → climbed join q leaf path 0 ≡ leaf
unfolding climbed
climbed-zero join q leaf path = refl

pub climbed_more : (join : Joins) (q : ℕ) (leaf : List ℕ) (path : List (List ℕ)) (k : ℕ)
    → climbed join q leaf path (k + 1) ≡ parent join q path k (climbed join q leaf path k)
unfolding climbed
climbed_more join q leaf path k = ap (climbed join q leaf path) (add-one k)

pub half_of : (q k : ℕ) → q / 2 ^ k / 2 ≡ q / 2 ^ (k + 1)
half_of q k = div-div-eq-div-mul q (2 ^ k) 2 ∙ ap (λ n. q / n) (sym (pow_more 2 k))

-- a loop's step: from the node at height k to the one above it
pub climb_step : (join : Joins) (q : ℕ) (leaf : List ℕ) (path : List (List ℕ)) (k index : ℕ) (node above : List ℕ)
    → node ≡ climbed join q leaf path k
    → index ≡ q / 2 ^ k
    → above ≡ (if index % 2 == 1 then join k (index / 2) (at path k) node else join k (index / 2) node (at path k))
    → above ≡ climbed join q leaf path (k + 1)
climb_step join q leaf path k index node above climbed_to index_over above_is =
    let halved : index / 2 ≡ q / 2 ^ (k + 1) = ap (λ i. i / 2) index_over ∙ half_of q k in
    above_is
    ∙ ap (λ i. if index % 2 == 1 then join k i (at path k) node else join k i node (at path k)) halved
    ∙ ap (λ i. if i % 2 == 1 then join k (q / 2 ^ (k + 1)) (at path k) node else join k (q / 2 ^ (k + 1)) node (at path k)) index_over
    ∙ ap (parent join q path k) climbed_to
    ∙ sym (climbed_more join q leaf path k)

-- a loop's end
pub climb_end : (join : Joins) (q : ℕ) (leaf : List ℕ) (path : List (List ℕ)) (k : ℕ) (node : List ℕ)
    → node ≡ climbed join q leaf path k
    → k ≤ length path
    → length path ≤ k
    → node ≡ climbed join q leaf path (length path)
climb_end join q leaf path k node climbed_to within past =
    let all : k ≡ length path = omega arith in
    climbed_to ∙ ap (climbed join q leaf path) all

-- node k of each ascent is the node climbed to at k
pub ascent_at : (join : Joins) (q : ℕ) (leaf : List ℕ) (path nodes : List (List ℕ)) (k : ℕ)
    → IsAscent join q leaf path nodes → k ≤ length path → at nodes k ≡ climbed join q leaf path k
ascent_at join q leaf path nodes zero ascent below = ascent.first ∙ sym (climbed-zero join q leaf path)
ascent_at join q leaf path nodes (suc k) ascent below =
    ap (at nodes) (sym (add-one k))
    ∙ ascent.next k (omega arith)
    ∙ ap (parent join q path k) (ascent_at join q leaf path nodes k ascent (omega arith))
    ∙ sym (climbed_more join q leaf path k)
    ∙ ap (climbed join q leaf path) (add-one k)

-- the nodes climbed to, listed
unfoldable pub climbed_nodes : Joins → ℕ → List ℕ → List (List ℕ) → List (List ℕ)
climbed_nodes join q leaf path = map (climbed join q leaf path) (range_with_len 0 (length path + 1))

pub climbed_nodes_count : (join : Joins) (q : ℕ) (leaf : List ℕ) (path : List (List ℕ))
    → length (climbed_nodes join q leaf path) ≡ length path + 1
unfolding climbed_nodes
climbed_nodes_count join q leaf path = length-map-range_with_len (climbed join q leaf path) 0 (length path + 1)

pub climbed_nodes_at : (join : Joins) (q : ℕ) (leaf : List ℕ) (path : List (List ℕ)) (k : ℕ)
    → k < length path + 1 → at (climbed_nodes join q leaf path) k ≡ climbed join q leaf path k
unfolding climbed_nodes
climbed_nodes_at join q leaf path k inside =
    get_or-map-range_with_len (climbed join q leaf path) 0 (length path + 1) k k [] inside (omega arith)

-- the list is an ascent
pub climbed_is_ascent : (join : Joins) (q : ℕ) (leaf : List ℕ) (path : List (List ℕ))
    → IsAscent join q leaf path (climbed_nodes join q leaf path)
climbed_is_ascent join q leaf path = record {
  count = climbed_nodes_count join q leaf path;
  first = climbed_nodes_at join q leaf path 0 (omega arith) ∙ climbed-zero join q leaf path;
  next = λ k below.
      climbed_nodes_at join q leaf path (k + 1) (omega arith)
      ∙ climbed_more join q leaf path k
      ∙ ap (parent join q path k) (sym (climbed_nodes_at join q leaf path k (omega arith)));
}
