-- The leaves under a node: first its left child's, then its right child's.
use Rattle.std.proofs.Common.{◌≡◌, ℕ, ◌+◌, ◌-◌, ◌*◌, ◌<◌, ◌/◌, ◌^◌, List, [], length, ap, ◌∙◌, arith}
use Rattle.std.specs.Prelude.{slice_index_or, take, drop}
use Rattle.std.proofs.lemmas.List.{get_or-take, get_or-drop, length-take-le, length-drop}
use Rattle.merkle.specs.Tree.{Leaves}
use Rattle.merkle.specs.Lanes.{lanes}
use Rattle.merkle.specs.inner.Nodes.{AreUnder}
use Rattle.merkle.proofs.Building.{leaves_twice}

-- the height of a node over `lanes` leaves
abbrev pub lanes_height : ℕ
lanes_height = 3

-- how many leaves each half has
pub first_count : (h n : ℕ) (leaves : List (List ℕ)) → 0 < h → length leaves ≡ 2 ^ h → n ≡ length leaves / 2
    → length (take n leaves) ≡ 2 ^ (h - 1)
first_count h n leaves above count half =
    let twice = leaves_twice h above in
    let all : n ≡ 2 ^ (h - 1) = omega arith in
    length-take-le n leaves (omega arith) ∙ all

pub second_count : (h n : ℕ) (leaves : List (List ℕ)) → 0 < h → length leaves ≡ 2 ^ h → n ≡ length leaves / 2
    → length (take (length leaves - n) (drop n leaves)) ≡ 2 ^ (h - 1)
second_count h n leaves above count half =
    let twice = leaves_twice h above in
    let rest : length leaves - n ≡ 2 ^ (h - 1) = omega arith in
    length-take-le (length leaves - n) (drop n leaves) (omega (arith, length-drop n leaves)) ∙ rest

pub first_under : (leaf : Leaves) (h j n : ℕ) (leaves : List (List ℕ)) → 0 < h → length leaves ≡ 2 ^ h → n ≡ length leaves / 2
    → AreUnder leaf h j leaves → AreUnder leaf (h - 1) (2 * j) (take n leaves)
first_under leaf h j n leaves above count half under = λ k low.
    let twice = leaves_twice h above in
    let product : 2 ^ h * j ≡ (2 ^ (h - 1) + 2 ^ (h - 1)) * j = ap (λ p. p * j) twice in
    let place : 2 ^ h * j + k ≡ 2 ^ (h - 1) * (2 * j) + k = omega arith in
    get_or-take n leaves k [] (omega arith) ∙ under k (omega arith) ∙ ap leaf place

pub second_under : (leaf : Leaves) (h j n : ℕ) (leaves : List (List ℕ)) → 0 < h → length leaves ≡ 2 ^ h → n ≡ length leaves / 2
    → AreUnder leaf h j leaves → AreUnder leaf (h - 1) (2 * j + 1) (take (length leaves - n) (drop n leaves))
second_under leaf h j n leaves above count half under = λ k low.
    let twice = leaves_twice h above in
    let product : 2 ^ h * j ≡ (2 ^ (h - 1) + 2 ^ (h - 1)) * j = ap (λ p. p * j) twice in
    let all : n ≡ 2 ^ (h - 1) = omega arith in
    let place : 2 ^ h * j + (n + k) ≡ 2 ^ (h - 1) * (2 * j + 1) + k = omega arith in
    get_or-take (length leaves - n) (drop n leaves) k [] (omega arith) ∙ get_or-drop n leaves k [] ∙ under (n + k) (omega arith)
    ∙ ap leaf place

-- the leaves of all lanes, from the first one under a node of the lanes' height
pub under_lanes : (leaf : Leaves) (h j : ℕ) (leaves : List (List ℕ)) → h ≡ lanes_height
    → ((k : ℕ) → k < lanes → slice_index_or leaves k [] ≡ leaf (lanes * j + k)) → AreUnder leaf h j leaves
under_lanes leaf h j leaves height are = λ k low.
    let all : 2 ^ h ≡ lanes = ap (λ n. 2 ^ n) height in
    let product : 2 ^ h * j ≡ lanes * j = ap (λ p. p * j) all in
    let place : lanes * j + k ≡ 2 ^ h * j + k = omega arith in
    are k (omega arith) ∙ ap leaf place
