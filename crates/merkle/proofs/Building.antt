-- Nodes from their children, and indices within a tree of height at most 25.
use Rattle.std.proofs.Common.{◌≡◌, ℕ, ◌+◌, ◌-◌, ◌*◌, ◌<◌, ◌≤◌, ◌/◌, ◌^◌, ap, ◌∙◌, sym, arith}
use Rattle.std.proofs.Math.Nat.{pow-le-pow_right, div-lt_iff_lt-mul, div-le_self}
use Rattle.std.proofs.lemmas.Nat.{pow-add, pow_pos}
use Rattle.std.proofs.lemmas.Grind.{pow_more}
use Rattle.merkle.specs.Tree.{Leaves, Joins, node, sibling}
use Rattle.merkle.proofs.Leading.{node_more}

pub node_leaf : (leaf : Leaves) (join : Joins) (h j : ℕ) → h ≡ 0 → node leaf join h j ≡ leaf j
unfolding node
node_leaf leaf join h j low = ap (λ h. node leaf join h j) low

pub node_children : (leaf : Leaves) (join : Joins) (h j : ℕ) → 0 < h
    → node leaf join h j ≡ join (h - 1) j (node leaf join (h - 1) (2 * j)) (node leaf join (h - 1) (2 * j + 1))
node_children leaf join h j above =
    let e : h ≡ h - 1 + 1 = omega arith in
    ap (λ h. node leaf join h j) e ∙ node_more leaf join (h - 1) j

-- a tree has twice the leaves of one a height lower
pub leaves_twice : (h : ℕ) → 0 < h → 2 ^ h ≡ 2 ^ (h - 1) + 2 ^ (h - 1)
leaves_twice h above =
    let e : h ≡ h - 1 + 1 = omega arith in
    ap (λ h. 2 ^ h) e ∙ (let p = pow_more 2 (h - 1) in omega arith)

-- the children of a node within a tree of height 25 are within it
pub children_inside : (h j : ℕ) → 0 < h → h ≤ 25 → j < 2 ^ (25 - h) → 2 * j + 1 < 2 ^ (25 - (h - 1))
children_inside h j above within inside =
    let e : 25 - (h - 1) ≡ 25 - h + 1 = omega arith in
    rw e (let p = pow_more 2 (25 - h) in omega arith)

-- a leaf of a tree of height h is within a tree of height 25
pub leaf_inside : (h q : ℕ) → h ≤ 25 → q < 2 ^ h → q < 2 ^ 25
leaf_inside h q within inside =
    let wider : 2 ^ h ≤ 2 ^ 25 = pow-le-pow_right (omega arith) within in omega arith

-- below an even bound the sibling is below it, too
pub sibling_below : (i n : ℕ) → i < 2 * n → sibling i < 2 * n
sibling_below i n below = grind arith

-- the siblings of the nodes over a leaf are within the tree
pub sibling_inside : (h q k i : ℕ) → h ≤ 25 → q < 2 ^ h → k < h → i ≡ q / 2 ^ k → sibling i < 2 ^ (25 - k)
sibling_inside h q k i within inside below index_over =
    let twice : 2 ^ (25 - k) ≡ 2 * 2 ^ (24 - k)
    = (let e : 25 - k ≡ 24 - k + 1 = omega arith in rw e (let p = pow_more 2 (24 - k) in omega arith)) in
    let all : 2 ^ (25 - k) * 2 ^ k ≡ 2 ^ 25
    = sym (pow-add 2 (25 - k) k) ∙ (let e : 25 - k + k ≡ 25 = omega arith in ap (λ n. 2 ^ n) e) in
    let fits : q < 2 ^ (25 - k) * 2 ^ k = omega (arith, leaf_inside h q within inside) in
    let over : q / 2 ^ k < 2 ^ (25 - k) = (div-lt_iff_lt-mul (pow_pos k)).1 fits in
    rw (index_over, twice) (sibling_below (q / 2 ^ k) (2 ^ (24 - k)) (rw (← twice) over))

-- the nodes over a leaf have indices that are no larger than its own
pub over_inside : (h q k i : ℕ) → h ≤ 25 → q < 2 ^ h → i ≡ q / 2 ^ k → i < 2 ^ 25
over_inside h q k i within inside index_over =
    omega (arith, leaf_inside h q within inside, div-le_self q (2 ^ k))

-- the leaves under the first k nodes of a path
pub path_leaves_more : (k : ℕ) → 2 ^ k - 1 + 2 ^ k ≡ 2 ^ (k + 1) - 1
path_leaves_more k = let p = pow_more 2 k in let some = pow_pos k in omega arith
