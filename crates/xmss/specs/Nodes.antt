-- The nodes of an XMSS tree over its leaves (RFC 8391 4.1). SEED is the public seed of its key.
use Rattle.std.specs.Prelude.{ℕ, List}
use Rattle.merkle.specs.Tree.{Joins}
use Rattle.wots_plus.specs.Address.{hash_tree}
use Rattle.wots_plus.specs.Hashes.{rand_hash}

-- RAND_HASH of two nodes of height k, with a hash tree address of that height and of the upper node's index j (4.1.6)
abbrev pub join_of : List ℕ → Joins
join_of seed k j left right = rand_hash seed (hash_tree k j) left right
