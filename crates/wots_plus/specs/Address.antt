-- The addresses of the hashes (RFC 8391 2.5), in the one tree of layer 0 and number 0.
use Rattle.std.specs.Prelude.{ℕ, List, [], ◌∷◌}
use Rattle.std.specs.List.{flat_map}
use Rattle.wots_plus.specs.declared.address.Address.{Address}
use Rattle.wots_plus.specs.declared.address.Address.TheVariants.{OneTime, LTree, HashTree}
use Rattle.wots_plus.specs.Hashes.{Adrs, to_byte}

-- the words of an address: layer, tree (two words), type, and the type's four words, the last of them keyAndMask
abbrev pub words : ℕ → ℕ → ℕ → ℕ → ℕ → List ℕ
words kind first second third mask = 0 ∷ 0 ∷ 0 ∷ kind ∷ first ∷ second ∷ third ∷ mask ∷ []

-- an address: the bytes of its words
unfoldable pub address : ℕ → ℕ → ℕ → ℕ → Adrs
address kind first second third mask = flat_map (λ word. to_byte word 4) (words kind first second third mask)

-- an OTS hash address: OTS address, chain address, hash address
-- Requirement: RFC 8391 3.1.4, address
abbrev pub one_time : ℕ → ℕ → ℕ → Adrs
one_time leaf chain hash = address 0 leaf chain hash

-- an L-tree address: L-tree address, tree height, tree index
abbrev pub l_tree : ℕ → ℕ → ℕ → Adrs
l_tree leaf height index = address 1 leaf height index

-- a hash tree address: padding, tree height, tree index
abbrev pub hash_tree : ℕ → ℕ → Adrs
hash_tree height index = address 2 0 height index

-- the address of the code's type
abbrev pub address_of : Address → Adrs
address_of (OneTime leaf chain hash) mask = one_time leaf chain hash mask
address_of (LTree leaf height index) mask = l_tree leaf height index mask
address_of (HashTree height index) mask = hash_tree height index mask
