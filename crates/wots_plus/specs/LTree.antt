-- L-trees (RFC 8391 4.1.5), over any join of two nodes, and the join of a leaf's.
use Rattle.std.specs.Prelude.{◌≡◌, ℕ, zero, suc, ◌+◌, List, [], ◌∷◌, length, slice_index_or}
use Rattle.wots_plus.specs.Address.{l_tree}
use Rattle.wots_plus.specs.Hashes.{rand_hash}

-- a node from its children, by their height and its own index
abbrev pub LTreeJoins : Type 0
LTreeJoins = ℕ → ℕ → List ℕ → List ℕ → List ℕ

-- the next height: neighbours joined, node numbers from i on, an odd last value unchanged
unfoldable pub next_height : (ℕ → List ℕ → List ℕ → List ℕ) → ℕ → List (List ℕ) → List (List ℕ)
next_height join i [] = []
next_height join i (last ∷ []) = last ∷ []
next_height join i (left ∷ right ∷ rest) = join i left right ∷ next_height join (i + 1) rest

-- the values of height k, over those of height 0
unfoldable pub at_height : LTreeJoins → List (List ℕ) → ℕ → List (List ℕ)
at_height join values zero = values
at_height join values (suc k) = next_height (join k) 0 (at_height join values k)

-- at some height only the root is left
abbrev pub IsLTreeRoot : LTreeJoins → List (List ℕ) → List ℕ → Type 0
IsLTreeRoot join values root = (k : ℕ) × (at_height join values k ≡ root ∷ [])

-- the root: one value is left at a height as great as the number of values, if not before
abbrev pub l_tree_root : LTreeJoins → List (List ℕ) → List ℕ
l_tree_root join values = slice_index_or (at_height join values (length values)) 0 []

-- the join of a leaf's L-tree (4.1.5)
abbrev pub l_tree_join : List ℕ → ℕ → LTreeJoins
l_tree_join seed leaf height index left right = rand_hash seed (l_tree leaf height index) left right
