-- Which nodes of a tree a cache keeps: its upper half, and one block of the lower half.
use Rattle.std.specs.Prelude.{◌≡◌, ℕ, ◌+◌, ◌-◌, ◌/◌, ◌<◌, ◌≤◌, ◌^◌, List, length, min}
use Rattle.merkle.specs.Tree.{Leaves, Joins}
use Rattle.merkle.specs.Nodes.{part_nodes}

-- What callers see of a cache: the tree, its height, the kept nodes in two lists, and the index of the kept block.
pub record View (T : Type 0) : Type 0 where
  pub tree : T
  pub height : ℕ
  pub upper : List (List ℕ)
  pub block : List (List ℕ)
  pub kept_index : ℕ

-- the view with these parts
abbrev pub view_of : {T : Type 0} → T → ℕ → List (List ℕ) → List (List ℕ) → ℕ → View T
view_of tree height upper block kept = record {
  tree = tree;
  height = height;
  upper = upper;
  block = block;
  kept_index = kept;
}

-- the height of a block's root
abbrev pub block_height : ℕ → ℕ
block_height height = height / 2

-- the upper tree: the roots of all blocks, and the nodes over them
abbrev pub upper_nodes : Leaves → Joins → ℕ → List (List ℕ)
upper_nodes leaf join height = part_nodes leaf join (block_height height) (height - block_height height) 0

-- a block: a node of the blocks' height, and all nodes and leaves under it
abbrev pub block_nodes : Leaves → Joins → ℕ → ℕ → List (List ℕ)
block_nodes leaf join height index = part_nodes leaf join 0 (block_height height) index

-- A cache keeps the upper tree and this block, and no more.
pub record KeepsNodes {T : Type 0} (leaf : Leaves) (join : Joins) (height index : ℕ) (cache : View T) : Type 0 where
  pub same_height : cache.height ≡ height
  pub same_index : cache.kept_index ≡ index
  pub upper_kept : cache.upper ≡ upper_nodes leaf join height
  pub block_kept : cache.block ≡ block_nodes leaf join height index
  pub no_more : length cache.upper + length cache.block
      ≤ 2 ^ (height - block_height height + 1) + 2 ^ (block_height height + 1) - 2

-- what holds of every cache: `made` leaves were made, and it counts `counted` of them
pub record IsCache {T : Type 0} (leaf : Leaves) (join : Joins) (made counted : ℕ) (cache : View T) : Type 0 where
  pub within : cache.height ≤ 25
  pub is_block : cache.kept_index < 2 ^ (cache.height - block_height cache.height)
  pub upper_tree : cache.upper ≡ upper_nodes leaf join cache.height
  pub one_block : cache.block ≡ block_nodes leaf join cache.height cache.kept_index
  pub count : counted ≡ min made (2 ^ 64 - 1)
