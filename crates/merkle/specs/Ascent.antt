-- The nodes through which an authentication path leads (RFC 8554 5.4.2, RFC 8391 4.1.10).
use Rattle.std.specs.Prelude.{◌≡◌, ◌==◌, ℕ, ◌+◌, ◌<◌, ◌/◌, ◌%◌, ◌^◌, List, [], length, slice_index_or, if◌then◌else◌}
use Rattle.merkle.specs.Tree.{Joins}

-- node k of a list of nodes
abbrev pub at : List (List ℕ) → ℕ → List ℕ
at nodes k = slice_index_or nodes k []

-- The nodes above a leaf, the leaf first. Node k is joined with the path's node k, and is the right child exactly where
-- bit k of q is 1.
pub record IsAscent (join : Joins) (q : ℕ) (leaf : List ℕ) (path nodes : List (List ℕ)) : Type 0 where
  pub count : length nodes ≡ length path + 1
  pub first : at nodes 0 ≡ leaf
  pub next : (k : ℕ) → k < length path
      → at nodes (k + 1) ≡ (if q / 2 ^ k % 2 == 1
      then join k (q / 2 ^ (k + 1)) (at path k) (at nodes k)
      else join k (q / 2 ^ (k + 1)) (at nodes k) (at path k))

-- The node to which a path leads from a leaf: the last node above the leaf, as high as the path is long.
pub record PathLeadsTo (join : Joins) (q : ℕ) (leaf : List ℕ) (path : List (List ℕ)) (node : List ℕ) : Type 0 where
  pub nodes : List (List ℕ)
  pub ascent : IsAscent join q leaf path nodes
  pub last : at nodes (length path) ≡ node
