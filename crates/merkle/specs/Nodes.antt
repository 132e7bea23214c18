-- The nodes of a part of a tree, listed as they are made (RFC 8391 4.1.6).
use Rattle.std.specs.Prelude.{ℕ, zero, suc, ◌+◌, ◌*◌, List, [], ◌∷◌, ◌++◌}
use Rattle.merkle.specs.Tree.{Leaves, Joins, node}

-- the nodes from node j of height base + depth down to height base: its left child's, its right child's, then itself
unfoldable pub part_nodes : Leaves → Joins → ℕ → ℕ → ℕ → List (List ℕ)
part_nodes leaf join base zero j = node leaf join base j ∷ []
part_nodes leaf join base (suc depth) j =
    part_nodes leaf join base depth (2 * j)
    ++ (part_nodes leaf join base depth (2 * j + 1) ++ node leaf join (base + suc depth) j ∷ [])
