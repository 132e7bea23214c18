-- Trees over any leaves and any join (RFC 8554 5.3; RFC 8391 4.1.6).
use Rattle.std.specs.Prelude.{◌==◌, ℕ, zero, suc, ◌+◌, ◌-◌, ◌*◌, ◌/◌, ◌%◌, ◌^◌, List, map, if◌then◌else◌}
use Rattle.std.specs.List.{range_with_len}

-- the value of leaf i
abbrev pub Leaves : Type 0
Leaves = ℕ → List ℕ

-- a node from its two children, by their height and the node's index at its own height
abbrev pub Joins : Type 0
Joins = ℕ → ℕ → List ℕ → List ℕ → List ℕ

-- node j of height k, counted from the left
-- Requirement: RFC 8391 4.1.6, leftmost
unfoldable pub node : Leaves → Joins → ℕ → ℕ → List ℕ
node leaf join zero j = leaf j
node leaf join (suc k) j = join k j (node leaf join k (2 * j)) (node leaf join k (2 * j + 1))

-- the root of a tree of height h
abbrev pub root_of : Leaves → Joins → ℕ → List ℕ
root_of leaf join h = node leaf join h 0

-- the index with its last bit flipped
abbrev pub sibling : ℕ → ℕ
sibling j = if j % 2 == 0 then j + 1 else j - 1

-- the authentication path of leaf q: at each height below h the sibling of the node over q
abbrev pub path_at : Leaves → Joins → ℕ → ℕ → List (List ℕ)
path_at leaf join h q = map (λ k. node leaf join k (sibling (q / 2 ^ k))) (range_with_len 0 h)
