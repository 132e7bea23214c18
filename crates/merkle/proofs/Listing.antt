-- Lists of the nodes of a part of a tree: how long they are, their last node, and their halves.
use Rattle.std.proofs.Common.{◌≡◌, ℕ, zero, suc, ◌+◌, ◌-◌, ◌*◌, ◌<◌, ◌≤◌, ◌/◌, ◌^◌, List, [], ◌∷◌, ◌++◌, length, sym}
use Rattle.std.proofs.Common.{refl, ap, ◌∙◌, arith, add-one, length-append}
use Rattle.std.specs.Prelude.{slice_index_or, slice_set}
use Rattle.std.proofs.lemmas.Grind.{pow_more}
use Rattle.std.proofs.lemmas.List.{get_or-append_right}
use Rattle.std.proofs.lemmas.Nat.{pow_pos}
use Rattle.merkle.specs.Tree.{Leaves, Joins, node}
use Rattle.merkle.specs.Nodes.{part_nodes}
use Rattle.merkle.proofs.Building.{children_inside, leaves_twice, node_children}

pub nodes_one : (leaf : Leaves) (join : Joins) (base depth j : ℕ) → depth ≡ 0
    → part_nodes leaf join base depth j ≡ node leaf join base j ∷ []
unfolding part_nodes
nodes_one leaf join base depth j low = ap (λ d. part_nodes leaf join base d j) low

-- both halves and the node over them
pub nodes_more : (leaf : Leaves) (join : Joins) (base depth j : ℕ)
    → part_nodes leaf join base (depth + 1) j
    ≡ part_nodes leaf join base depth (2 * j)
    ++ (part_nodes leaf join base depth (2 * j + 1) ++ node leaf join (base + (depth + 1)) j ∷ [])
unfolding part_nodes
nodes_more leaf join base depth j =
    ap (λ d. part_nodes leaf join base d j) (add-one depth)
    ∙ (let left = part_nodes leaf join base depth (2 * j) in
    let right = part_nodes leaf join base depth (2 * j + 1) in
    ap (λ d. left ++ (right ++ node leaf join (base + d) j ∷ [])) (sym (add-one depth)))

-- the same of a depth that isn't 0
pub nodes_halves : (leaf : Leaves) (join : Joins) (base depth j : ℕ) → 0 < depth
    → part_nodes leaf join base depth j
    ≡ part_nodes leaf join base (depth - 1) (2 * j)
    ++ (part_nodes leaf join base (depth - 1) (2 * j + 1) ++ node leaf join (base + depth) j ∷ [])
nodes_halves leaf join base depth j above =
    let e : depth - 1 + 1 ≡ depth = omega arith in
    let left = part_nodes leaf join base (depth - 1) (2 * j) in
    let right = part_nodes leaf join base (depth - 1) (2 * j + 1) in
    ap (λ d. part_nodes leaf join base d j) (sym e)
    ∙ nodes_more leaf join base (depth - 1) j
    ∙ ap (λ d. left ++ (right ++ node leaf join (base + d) j ∷ [])) e

pub nodes_count : (leaf : Leaves) (join : Joins) (base depth j : ℕ)
    → length (part_nodes leaf join base depth j) + 1 ≡ 2 ^ (depth + 1)
nodes_count leaf join base zero j = ap (λ xs. length xs + 1) (nodes_one leaf join base zero j refl)
nodes_count leaf join base (suc depth) j =
    let left = part_nodes leaf join base depth (2 * j) in
    let right = part_nodes leaf join base depth (2 * j + 1) in
    let top = node leaf join (base + (depth + 1)) j ∷ [] in
    let all : length (part_nodes leaf join base (depth + 1) j) ≡ length left + (length right + 1)
    = ap length (nodes_more leaf join base depth j) ∙ length-append left (right ++ top)
    ∙ ap (λ n. length left + n) (length-append right top) in
    ap (λ d. length (part_nodes leaf join base d j) + 1) (sym (add-one depth))
    ∙ (let p = pow_more 2 (depth + 1) in
    let l = nodes_count leaf join base depth (2 * j) in
    let r = nodes_count leaf join base depth (2 * j + 1) in
    let sum : length (part_nodes leaf join base (depth + 1) j) + 1 ≡ 2 ^ (depth + 1 + 1) = omega arith in sum)
    ∙ ap (λ d. 2 ^ (d + 1)) (add-one depth)

-- the last of them is the node over all
pub nodes_last : (leaf : Leaves) (join : Joins) (base depth j n : ℕ) (xs : List (List ℕ)) (other : List ℕ)
    → xs ≡ part_nodes leaf join base depth j → n + 2 ≡ 2 ^ (depth + 1)
    → slice_index_or xs n other ≡ node leaf join (base + depth) j
nodes_last leaf join base zero j n xs other is last =
    let first : n ≡ 0 = omega arith in
    let low : base ≡ base + 0 = omega arith in
    ap (λ k. slice_index_or xs k other) first
    ∙ ap (λ ys. slice_index_or ys 0 other) (is ∙ nodes_one leaf join base zero j refl)
    ∙ ap (λ h. node leaf join h j) low
nodes_last leaf join base (suc depth) j n xs other is last =
    let left = part_nodes leaf join base depth (2 * j) in
    let right = part_nodes leaf join base depth (2 * j + 1) in
    let top = node leaf join (base + (depth + 1)) j ∷ [] in
    let l = nodes_count leaf join base depth (2 * j) in
    let r = nodes_count leaf join base depth (2 * j + 1) in
    let p = pow_more 2 (depth + 1) in
    let e : suc depth ≡ depth + 1 = sym (add-one depth) in
    let last' : n + 2 ≡ 2 ^ (depth + 1 + 1) = last ∙ ap (λ d. 2 ^ (d + 1)) e in
    let at_end : n - length left - length right ≡ 0 = omega arith in
    ap (λ ys. slice_index_or ys n other)
    (is ∙ ap (λ d. part_nodes leaf join base d j) e ∙ nodes_more leaf join base depth j)
    ∙ get_or-append_right left (right ++ top) (length left) n other refl (omega arith)
    ∙ get_or-append_right right top (length right) (n - length left) other refl (omega arith)
    ∙ ap (λ k. slice_index_or top k other) at_end
    ∙ ap (λ d. node leaf join (base + d) j) (add-one depth)

-- a list of one, after a write to it
pub one_written : (xs : List (List ℕ)) (x : List ℕ) → length xs ≡ 1 → slice_set xs 0 x ≡ x ∷ []
one_written [] x one = absurd (omega arith)
one_written (y ∷ []) x one = refl
one_written (y ∷ (z ∷ zs)) x one = absurd (omega arith)

-- half of a list of more than one node is as long as each child's list, which isn't empty
pub half_long : (n depth : ℕ) → n + 1 ≡ 2 ^ (depth + 1) → 0 < depth → n / 2 + 1 ≡ 2 ^ depth
half_long n depth all above = let p = pow_more 2 depth in omega arith

pub half_room : (n depth : ℕ) → n + 1 ≡ 2 ^ (depth + 1) → 0 < depth → n / 2 + 1 ≡ 2 ^ (depth - 1 + 1)
half_room n depth all above =
    let e : depth - 1 + 1 ≡ depth = omega arith in half_long n depth all above ∙ ap (λ d. 2 ^ d) (sym e)

pub half_some : (n depth : ℕ) → n + 1 ≡ 2 ^ (depth + 1) → 0 < depth → 1 ≤ n / 2
half_some n depth all above =
    let room = half_room n depth all above in
    let p = pow_more 2 (depth - 1) in
    let some = pow_pos (depth - 1) in
    omega arith

-- a node has as many leaves as its children together
pub leaves_below : (base depth : ℕ) → 0 < depth
    → 2 ^ (base + depth) ≡ 2 ^ (base + (depth - 1)) + 2 ^ (base + (depth - 1))
leaves_below base depth above =
    let lower : base + depth - 1 ≡ base + (depth - 1) = omega arith in
    leaves_twice (base + depth) (omega arith) ∙ ap (λ h. 2 ^ h + 2 ^ h) lower

-- the children of a node within a tree of height 25 are within it
pub halves_inside : (base depth j : ℕ) → 0 < depth → base + depth ≤ 25 → j < 2 ^ (25 - (base + depth))
    → 2 * j + 1 < 2 ^ (25 - (base + (depth - 1)))
halves_inside base depth j above within inside =
    let lower : base + depth - 1 ≡ base + (depth - 1) = omega arith in
    rw lower at (children_inside (base + depth) j (omega arith) within inside)

-- both halves, and the node over them where one stood
pub nodes_over_halves : (leaf : Leaves) (join : Joins) (base depth j n : ℕ) (left right top : List (List ℕ)) (over : List ℕ)
    → 0 < depth
    → n + 2 ≡ 2 ^ depth
    → left ≡ part_nodes leaf join base (depth - 1) (2 * j)
    → right ≡ part_nodes leaf join base (depth - 1) (2 * j + 1)
    → length top ≡ 1
    → over ≡ join (base + (depth - 1)) j (slice_index_or left n []) (slice_index_or right n [])
    → left ++ (right ++ slice_set top 0 over) ≡ part_nodes leaf join base depth j
nodes_over_halves leaf join base depth j n left right top over above last left_is right_is one over_is =
    let d = depth - 1 in
    let lower : base + depth - 1 ≡ base + d = omega arith in
    let e : depth - 1 + 1 ≡ depth = omega arith in
    let at_last : n + 2 ≡ 2 ^ (d + 1) = last ∙ ap (λ k. 2 ^ k) (sym e) in
    let made : over ≡ node leaf join (base + depth) j
    = over_is
    ∙ ap (λ v. join (base + d) j v (slice_index_or right n []))
    (nodes_last leaf join base d (2 * j) n left [] left_is at_last)
    ∙ ap (λ v. join (base + d) j (node leaf join (base + d) (2 * j)) v)
    (nodes_last leaf join base d (2 * j + 1) n right [] right_is at_last)
    ∙ sym (node_children leaf join (base + depth) j (omega arith)
    ∙ ap (λ h. join h j (node leaf join h (2 * j)) (node leaf join h (2 * j + 1))) lower) in
    ap (λ ys. left ++ (right ++ ys)) (one_written top over one)
    ∙ ap (λ v. left ++ (right ++ v ∷ [])) made
    ∙ ap (λ xs. xs ++ (right ++ node leaf join (base + depth) j ∷ [])) left_is
    ∙ ap (λ xs. part_nodes leaf join base d (2 * j) ++ (xs ++ node leaf join (base + depth) j ∷ [])) right_is
    ∙ sym (nodes_halves leaf join base depth j above)
