-- What a cache keeps: how many nodes, and which paths and root they give.
use Rattle.std.proofs.Common.{◌≡◌, ℕ, zero, suc, ◌+◌, ◌-◌, ◌*◌, ◌<◌, ◌≤◌, ◌/◌, ◌^◌, List, [], ◌∷◌, ◌++◌, length, sym}
use Rattle.std.proofs.Common.{refl, ap, subst, ◌∙◌, arith, add-one, append-nil, append_assoc}
use Rattle.std.specs.Prelude.{slice_index_or}
use Rattle.std.proofs.lemmas.Grind.{pow_more}
use Rattle.std.proofs.lemmas.List.FromFn.{map-range_with_len_more}
use Rattle.std.proofs.lemmas.Nat.{pow-add, pow_pos}
use Rattle.std.proofs.Math.Nat.{div-div-eq-div-mul, div-lt_iff_lt-mul, pow-le-pow_right}
use Rattle.merkle.specs.Tree.{Leaves, Joins, node, path_at, root_of, sibling}
use Rattle.merkle.specs.inner.Nodes.{part_path}
use Rattle.merkle.specs.Cache.{View, KeepsNodes, block_height, block_nodes, upper_nodes}
use Rattle.merkle.proofs.Listing.{nodes_count, nodes_last}

-- the upper tree and one block are all that is kept, and no more nodes than the bound
pub keeps_both : {T : Type 0} (leaf : Leaves) (join : Joins) (height index : ℕ) (cache : View T)
    → cache.height ≡ height → cache.kept_index ≡ index
    → cache.upper ≡ upper_nodes leaf join height → cache.block ≡ block_nodes leaf join height index
    → KeepsNodes leaf join height index cache
keeps_both leaf join height index cache same_height same_index upper block = record {
  same_height = same_height;
  same_index = same_index;
  upper_kept = upper;
  block_kept = block;
  no_more =
      let above : length cache.upper + 1 ≡ 2 ^ (height - block_height height + 1)
      = ap (λ xs. length xs + 1) upper ∙ nodes_count leaf join (block_height height) (height - block_height height) 0 in
      let below : length cache.block + 1 ≡ 2 ^ (block_height height + 1)
      = ap (λ xs. length xs + 1) block ∙ nodes_count leaf join 0 (block_height height) index in
      omega arith;
}

-- a block of a tree stands within a tree of height 25
pub block_inside : (height index : ℕ) → height ≤ 25 → index < 2 ^ (height - block_height height)
    → index < 2 ^ (25 - (0 + block_height height))
block_inside height index within inside =
    let wider : 2 ^ (height - block_height height) ≤ 2 ^ (25 - (0 + block_height height))
    = pow-le-pow_right (omega arith) (omega arith) in
    omega arith

-- the index of a leaf's block is a block's
pub index_inside : (height q : ℕ) → q < 2 ^ height → q / 2 ^ block_height height < 2 ^ (height - block_height height)
index_inside height q inside =
    let b = block_height height in
    let all : 2 ^ (height - b) * 2 ^ b ≡ 2 ^ height
    = sym (pow-add 2 (height - b) b) ∙ (let e : height - b + b ≡ height = omega arith in ap (λ n. 2 ^ n) e) in
    (div-lt_iff_lt-mul (pow_pos b)).1 (omega (arith, all))

-- a cache that already keeps the block
pub kept_already : {T : Type 0} (leaf_of : T → Leaves) (join_of : T → Joins) (inner cache : View T) (index : ℕ)
    → inner ≡ cache
    → index ≡ inner.kept_index
    → inner.upper ≡ upper_nodes (leaf_of inner.tree) (join_of inner.tree) inner.height
    → inner.block ≡ block_nodes (leaf_of inner.tree) (join_of inner.tree) inner.height inner.kept_index
    → KeepsNodes (leaf_of cache.tree) (join_of cache.tree) cache.height index cache
kept_already {T} leaf_of join_of inner cache index same is upper block =
    let P : View T → Type 0 = λ v. KeepsNodes (leaf_of v.tree) (join_of v.tree) v.height index v in
    subst P same
    (keeps_both (leaf_of inner.tree) (join_of inner.tree) inner.height index inner refl (sym is) upper
    (block ∙ ap (block_nodes (leaf_of inner.tree) (join_of inner.tree) inner.height) (sym is)))

-- a cache that keeps another block instead
pub kept_now : {T : Type 0} (leaf_of : T → Leaves) (join_of : T → Joins) (inner cache after : View T) (index : ℕ)
    → inner ≡ cache
    → after.height ≡ inner.height → after.upper ≡ inner.upper → after.kept_index ≡ index
    → inner.upper ≡ upper_nodes (leaf_of inner.tree) (join_of inner.tree) inner.height
    → after.block ≡ block_nodes (leaf_of inner.tree) (join_of inner.tree) inner.height index
    → KeepsNodes (leaf_of cache.tree) (join_of cache.tree) cache.height index after
kept_now {T} leaf_of join_of inner cache after index same height_stays upper_stays is upper block =
    let P : View T → Type 0 = λ v. KeepsNodes (leaf_of v.tree) (join_of v.tree) v.height index after in
    subst P same
    (keeps_both (leaf_of inner.tree) (join_of inner.tree) inner.height index after height_stays is
    (upper_stays ∙ upper) block)

pub block_count : (leaf : Leaves) (join : Joins) (height index : ℕ) (nodes : List (List ℕ))
    → nodes ≡ block_nodes leaf join height index → length nodes + 1 ≡ 2 ^ (block_height height + 1)
block_count leaf join height index nodes are =
    ap (λ xs. length xs + 1) are ∙ nodes_count leaf join 0 (block_height height) index

pub upper_count : (leaf : Leaves) (join : Joins) (height : ℕ) (nodes : List (List ℕ))
    → nodes ≡ upper_nodes leaf join height → length nodes + 1 ≡ 2 ^ (height - block_height height + 1)
upper_count leaf join height nodes are =
    ap (λ xs. length xs + 1) are ∙ nodes_count leaf join (block_height height) (height - block_height height) 0

-- a path that begins at the leaves is the path
from_lowest : (leaf : Leaves) (join : Joins) (depth q : ℕ) → path_at leaf join depth q ≡ part_path leaf join 0 depth q
from_lowest leaf join zero q = refl
from_lowest leaf join (suc depth) q =
    let f : ℕ → List ℕ = λ k. node leaf join k (sibling (q / 2 ^ k)) in
    let g : ℕ → List ℕ = λ k. node leaf join (0 + k) (sibling (q / 2 ^ k)) in
    let low : depth ≡ 0 + depth = omega arith in
    ap (λ h. path_at leaf join h q) (sym (add-one depth))
    ∙ map-range_with_len_more f 0 depth depth (omega arith)
    ∙ ap (λ xs. xs ++ f depth ∷ []) (from_lowest leaf join depth q)
    ∙ ap (λ h. part_path leaf join 0 depth q ++ node leaf join h (sibling (q / 2 ^ depth)) ∷ []) low
    ∙ sym (map-range_with_len_more g 0 depth depth (omega arith))
    ∙ ap (λ d. part_path leaf join 0 d q) (add-one depth)

-- a path up to a height, and from there on
path_parts : (leaf : Leaves) (join : Joins) (base depth q : ℕ)
    → path_at leaf join (base + depth) q ≡ part_path leaf join 0 base q ++ part_path leaf join base depth (q / 2 ^ base)
path_parts leaf join base zero q =
    let same : base + 0 ≡ base = omega arith in
    ap (λ h. path_at leaf join h q) same
    ∙ from_lowest leaf join base q
    ∙ sym (append-nil (part_path leaf join 0 base q))
path_parts leaf join base (suc depth) q =
    let f : ℕ → List ℕ = λ k. node leaf join k (sibling (q / 2 ^ k)) in
    let g : ℕ → List ℕ = λ k. node leaf join (base + k) (sibling (q / 2 ^ base / 2 ^ k)) in
    let lower = part_path leaf join 0 base q in
    let upper = part_path leaf join base depth (q / 2 ^ base) in
    let e : base + suc depth ≡ base + depth + 1 = omega arith in
    let over : q / 2 ^ (base + depth) ≡ q / 2 ^ base / 2 ^ depth
    = ap (λ n. q / n) (pow-add 2 base depth) ∙ sym (div-div-eq-div-mul q (2 ^ base) (2 ^ depth)) in
    ap (λ h. path_at leaf join h q) e
    ∙ map-range_with_len_more f 0 (base + depth) (base + depth) (omega arith)
    ∙ ap (λ xs. xs ++ f (base + depth) ∷ []) (path_parts leaf join base depth q)
    ∙ append_assoc lower upper (f (base + depth) ∷ [])
    ∙ ap (λ i. lower ++ (upper ++ node leaf join (base + depth) (sibling i) ∷ [])) over
    ∙ ap (λ xs. lower ++ xs) (sym (map-range_with_len_more g 0 depth depth (omega arith)))
    ∙ ap (λ d. lower ++ part_path leaf join base d (q / 2 ^ base)) (add-one depth)

-- a path out of a block, and on out of the upper tree
pub whole_path : (leaf : Leaves) (join : Joins) (height q index : ℕ) (lower upper : List (List ℕ))
    → lower ≡ part_path leaf join 0 (block_height height) q
    → upper ≡ part_path leaf join (block_height height) (height - block_height height) index
    → index ≡ q / 2 ^ block_height height
    → lower ++ upper ≡ path_at leaf join height q
whole_path leaf join height q index lower upper lower_is upper_is is =
    let b = block_height height in
    let all : b + (height - b) ≡ height = omega arith in
    ap (λ xs. xs ++ upper) lower_is
    ∙ ap (λ xs. part_path leaf join 0 b q ++ xs) (upper_is ∙ ap (part_path leaf join b (height - b)) is)
    ∙ sym (path_parts leaf join b (height - b) q)
    ∙ ap (λ h. path_at leaf join h q) all

pub upper_some : (leaf : Leaves) (join : Joins) (height : ℕ) (nodes : List (List ℕ))
    → nodes ≡ upper_nodes leaf join height → 1 ≤ length nodes
upper_some leaf join height nodes are =
    let depth = height - block_height height in
    omega (arith, upper_count leaf join height nodes are, pow_more 2 depth, pow_pos depth)

pub upper_last : (leaf : Leaves) (join : Joins) (height n : ℕ) (nodes : List (List ℕ)) (other : List ℕ)
    → nodes ≡ upper_nodes leaf join height → n + 1 ≡ length nodes
    → slice_index_or nodes n other ≡ root_of leaf join height
upper_last leaf join height n nodes other are last =
    let b = block_height height in
    let all : b + (height - b) ≡ height = omega arith in
    nodes_last leaf join b (height - b) 0 n nodes other are (omega (arith, upper_count leaf join height nodes are))
    ∙ ap (λ h. node leaf join h 0) all
