-- Reading a path out of a list of nodes: the list's halves, and one node more of the path.
use Rattle.std.proofs.Common.{◌≡◌, ℕ, ◌+◌, ◌-◌, ◌*◌, ◌<◌, ◌≤◌, ◌≢◌, ◌/◌, ◌%◌, ◌^◌, List, [], ◌∷◌, ◌++◌, length, sym}
use Rattle.std.proofs.Common.{refl, ap, ◌∙◌, arith}
use Rattle.std.specs.Prelude.{slice_index_or, slice_set, take, drop}
use Rattle.std.proofs.lemmas.List.FromFn.{map-range_with_len_more}
use Rattle.std.proofs.lemmas.Grind.{drop-set_at}
use Rattle.std.proofs.lemmas.List.{length-take-le}
use Rattle.std.proofs.Math.ListN.{drop_of_length-le, length-set}
use Rattle.std.proofs.Math.Seq.{take-append_seam, drop-append_seam}
use Rattle.merkle.specs.Tree.{Leaves, Joins, node, sibling}
use Rattle.merkle.specs.Nodes.{part_nodes}
use Rattle.merkle.specs.inner.Nodes.{part_path}
use Rattle.merkle.proofs.Climb.{half_of}
use Rattle.merkle.proofs.Leading.{sibling-odd, sibling-even}
use Rattle.merkle.proofs.Listing.{half_room, nodes_count, nodes_halves, nodes_last}

half_count : (leaf : Leaves) (join : Joins) (base depth j k : ℕ) (nodes : List (List ℕ)) → 0 < depth
    → nodes ≡ part_nodes leaf join base depth j
    → length nodes / 2 ≡ length (part_nodes leaf join base (depth - 1) k)
half_count leaf join base depth j k nodes above nodes_are =
    let all : length nodes + 1 ≡ 2 ^ (depth + 1)
    = ap (λ xs. length xs + 1) nodes_are ∙ nodes_count leaf join base depth j in
    omega (arith, half_room (length nodes) depth all above, nodes_count leaf join base (depth - 1) k)

pub first_half : (leaf : Leaves) (join : Joins) (base depth j k : ℕ) (nodes : List (List ℕ)) → 0 < depth
    → nodes ≡ part_nodes leaf join base depth j → 2 * j ≡ k
    → take (length nodes / 2) nodes ≡ part_nodes leaf join base (depth - 1) k
first_half leaf join base depth j k nodes above nodes_are is =
    let left = part_nodes leaf join base (depth - 1) (2 * j) in
    let rest = part_nodes leaf join base (depth - 1) (2 * j + 1) ++ node leaf join (base + depth) j ∷ [] in
    ap (λ n. take n nodes) (half_count leaf join base depth j (2 * j) nodes above nodes_are)
    ∙ ap (λ xs. take (length left) xs) (nodes_are ∙ nodes_halves leaf join base depth j above)
    ∙ take-append_seam left rest
    ∙ ap (part_nodes leaf join base (depth - 1)) is

pub second_half : (leaf : Leaves) (join : Joins) (base depth j k : ℕ) (nodes : List (List ℕ)) → 0 < depth
    → nodes ≡ part_nodes leaf join base depth j → 2 * j + 1 ≡ k
    → take (2 * (length nodes / 2) - length nodes / 2) (drop (length nodes / 2) nodes)
    ≡ part_nodes leaf join base (depth - 1) k
second_half leaf join base depth j k nodes above nodes_are is =
    let left = part_nodes leaf join base (depth - 1) (2 * j) in
    let right = part_nodes leaf join base (depth - 1) (2 * j + 1) in
    let top = node leaf join (base + depth) j ∷ [] in
    let to_left = half_count leaf join base depth j (2 * j) nodes above nodes_are in
    let to_right = half_count leaf join base depth j (2 * j + 1) nodes above nodes_are in
    let as_many : 2 * (length nodes / 2) - length nodes / 2 ≡ length right = omega arith in
    ap (λ n. take n (drop (length nodes / 2) nodes)) as_many
    ∙ ap (λ n. take (length right) (drop n nodes)) to_left
    ∙ ap (λ xs. take (length right) (drop (length left) xs)) (nodes_are ∙ nodes_halves leaf join base depth j above)
    ∙ ap (λ xs. take (length right) xs) (drop-append_seam left (right ++ top))
    ∙ take-append_seam right top
    ∙ ap (part_nodes leaf join base (depth - 1)) is

-- the node over a node and its sibling
over_both : (i depth : ℕ) → 0 < depth → i / 2 ^ depth ≡ i / 2 ^ (depth - 1) / 2
over_both i depth above =
    let e : depth - 1 + 1 ≡ depth = omega arith in
    sym (half_of i (depth - 1) ∙ ap (λ d. i / 2 ^ d) e)

-- a node that isn't under the first half is under the second
pub under_second : (i depth j p : ℕ) → 0 < depth → i / 2 ^ depth ≡ j → p ≡ 2 ^ (depth - 1) → i / p ≢ 2 * j
    → i / 2 ^ (depth - 1) ≡ 2 * j + 1
under_second i depth j p above under power other =
    let other_half : (over : ℕ) → over / 2 ≡ j → over ≢ 2 * j → over ≡ 2 * j + 1
    = λ over halved not_first. omega arith in
    other_half (i / 2 ^ (depth - 1)) (sym (over_both i depth above) ∙ under) (λ e. other (ap (λ n. i / n) power ∙ e))

-- where the index is even, a node is under the first half, and its sibling under the second
pub even_first : (i depth over : ℕ) → 0 < depth → over ≡ i / 2 ^ (depth - 1) → over % 2 ≡ 0 → 2 * (i / 2 ^ depth) ≡ over
even_first i depth over above is even =
    let halved : i / 2 ^ depth ≡ over / 2 = over_both i depth above ∙ ap (λ n. n / 2) (sym is) in omega arith

pub even_second : (i depth over : ℕ) → 0 < depth → over ≡ i / 2 ^ (depth - 1) → over % 2 ≡ 0
    → 2 * (i / 2 ^ depth) + 1 ≡ sibling over
even_second i depth over above is even =
    let halved : i / 2 ^ depth ≡ over / 2 = over_both i depth above ∙ ap (λ n. n / 2) (sym is) in
    let not_odd : over % 2 ≢ 1 = omega arith in
    ap (λ n. 2 * n + 1) halved ∙ sym (sibling-even over not_odd)

-- where it is odd, the other way round
pub odd_second : (i depth over : ℕ) → 0 < depth → over ≡ i / 2 ^ (depth - 1) → over % 2 ≢ 0
    → 2 * (i / 2 ^ depth) + 1 ≡ over
odd_second i depth over above is odd =
    let halved : i / 2 ^ depth ≡ over / 2 = over_both i depth above ∙ ap (λ n. n / 2) (sym is) in omega arith

pub odd_first : (i depth over : ℕ) → 0 < depth → over ≡ i / 2 ^ (depth - 1) → over % 2 ≢ 0
    → 2 * (i / 2 ^ depth) ≡ sibling over
odd_first i depth over above is odd =
    let halved : i / 2 ^ depth ≡ over / 2 = over_both i depth above ∙ ap (λ n. n / 2) (sym is) in
    let is_odd : over % 2 ≡ 1 = omega arith in
    ap (λ n. 2 * n) halved ∙ sym (sibling-odd over is_odd)

-- the path up to a height, and the root of the other half after it
pub path_more : (leaf : Leaves) (join : Joins) (base depth i n : ℕ) (other lower into : List (List ℕ))
    → 0 < depth → length into ≡ depth → n + 2 ≡ 2 ^ depth
    → other ≡ part_nodes leaf join base (depth - 1) (sibling (i / 2 ^ (depth - 1)))
    → lower ≡ part_path leaf join base (depth - 1) i
    → lower ++ drop (depth - 1) (slice_set into (depth - 1) (slice_index_or other n []))
    ≡ part_path leaf join base depth i
path_more leaf join base depth i n other lower into above long last other_is lower_is =
    let d = depth - 1 in
    let e : depth - 1 + 1 ≡ depth = omega arith in
    let f : ℕ → List ℕ = λ k. node leaf join (base + k) (sibling (i / 2 ^ k)) in
    let v = slice_index_or other n [] in
    let root : v ≡ f d
    = nodes_last leaf join base d (sibling (i / 2 ^ d)) n other [] other_is (last ∙ ap (λ k. 2 ^ k) (sym e)) in
    let none : drop (d + 1) into ≡ [] = drop_of_length-le into (omega arith) in
    let written : drop d (slice_set into d v) ≡ f d ∷ []
    = drop-set_at into d d v refl (omega arith) ∙ ap (λ xs. v ∷ xs) none ∙ ap (λ x. x ∷ []) root in
    ap (λ xs. lower ++ xs) written
    ∙ ap (λ xs. xs ++ f d ∷ []) lower_is
    ∙ sym (map-range_with_len_more f 0 d d (omega arith))
    ∙ ap (λ k. part_path leaf join base k i) e

-- what holds of a list's length holds of a number equal to it
pub read_below : (leaf : Leaves) (join : Joins) (base n depth i : ℕ) (half lower : List (List ℕ)) → n ≡ depth
    → (half ≡ part_nodes leaf join base n (i / 2 ^ n) → lower ≡ part_path leaf join base n i)
    → half ≡ part_nodes leaf join base depth (i / 2 ^ depth)
    → lower ≡ part_path leaf join base depth i
read_below leaf join base n depth i half lower e reads half_is =
    reads (half_is ∙ ap (λ d. part_nodes leaf join base d (i / 2 ^ d)) (sym e))
    ∙ ap (λ d. part_path leaf join base d i) e

-- the part below a place that was written
pub length_below : (xs : List (List ℕ)) (d : ℕ) (v : List ℕ) → d ≤ length xs → length (take d (slice_set xs d v)) ≡ d
length_below xs d v within = length-take-le d (slice_set xs d v) (omega (arith, length-set xs d v))
