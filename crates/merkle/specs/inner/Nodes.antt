-- A part of a path, and the leaves under a node.
use Rattle.std.specs.Prelude.{◌≡◌, ℕ, ◌+◌, ◌*◌, ◌/◌, ◌<◌, ◌^◌, List, [], map, slice_index_or}
use Rattle.std.specs.List.{range_with_len}
use Rattle.merkle.specs.Tree.{Leaves, Joins, node, sibling}

-- the siblings of node i of height base and of the nodes over it, `depth` heights
abbrev pub part_path : Leaves → Joins → ℕ → ℕ → ℕ → List (List ℕ)
part_path leaf join base depth i = map (λ k. node leaf join (base + k) (sibling (i / 2 ^ k))) (range_with_len 0 depth)

-- the leaves under node j of height h
abbrev pub AreUnder : Leaves → ℕ → ℕ → List (List ℕ) → Type 0
AreUnder leaf h j leaves = (k : ℕ) → k < 2 ^ h → slice_index_or leaves k [] ≡ leaf (2 ^ h * j + k)
