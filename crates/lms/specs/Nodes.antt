-- The hashes of an LMS tree (RFC 8554 5.3). I is its identifier, h its height.
use Rattle.std.specs.Prelude.{ℕ, ◌+◌, ◌-◌, ◌^◌, List, ◌++◌}
use Rattle.sha2.specs.Sha256.{sha256}
use Rattle.lmots.specs.Hashes.{u16str, u32str}
use Rattle.merkle.specs.Tree.{Joins}

-- D_LEAF and D_INTR (5.3), which keep the scheme's hashes apart
abbrev pub leaf_separator : ℕ
leaf_separator = 0x8282

abbrev pub inner_separator : ℕ
inner_separator = 0x8383

-- the number of node j of height k: 1 for the root, and 2r and 2r + 1 for the children of r
abbrev pub node_number : ℕ → ℕ → ℕ → ℕ
node_number h k j = 2 ^ (h - k) + j

-- T[r] = H(I || u32str(r) || u16str(D_LEAF) || K): leaf q, from its key's public hash K
abbrev pub leaf_of : List ℕ → ℕ → ℕ → List ℕ → List ℕ
leaf_of identifier h q key = sha256 (identifier ++ u32str (node_number h 0 q) ++ u16str leaf_separator ++ key)

-- T[r] = H(I || u32str(r) || u16str(D_INTR) || T[2r] || T[2r+1]): node j of height k + 1, from its children
-- Requirement: RFC 8554 5.1, one hash
abbrev pub join_of : List ℕ → ℕ → Joins
join_of identifier h k j left right =
    sha256 (identifier ++ u32str (node_number h (k + 1) j) ++ u16str inner_separator ++ left ++ right)
