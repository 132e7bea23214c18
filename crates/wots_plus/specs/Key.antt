-- A leaf's one-time key: its chains, its L-tree and its signatures (RFC 8391 3.1 and 4.1.5). With w = 16 digits have 4
-- bits, and each of the len = `wots_chains` chains 15 steps (3.1.1).
use Rattle.std.specs.Prelude.{ℕ, List, map, slice_index}
use Rattle.std.specs.List.{range_with_len}
use Rattle.typecodes.specs.Types.{wots_chains}
use Rattle.winternitz.specs.Chain.{Steps, walk, AreEnds, ends_of}
use Rattle.winternitz.specs.Digest.{digits_of}
use Rattle.wots_plus.specs.Address.{one_time}
use Rattle.wots_plus.specs.Hashes.{private_value_at, step_at}
use Rattle.wots_plus.specs.LTree.{l_tree_join, l_tree_root}

-- step j of chain i of a leaf's key (3.1.2)
abbrev pub step_of : List ℕ → ℕ → Steps
step_of seed leaf i j value = step_at seed (one_time leaf i j) value

abbrev pub private_value : List ℕ → ℕ → List ℕ → ℕ → List ℕ
private_value seed leaf secret i = private_value_at secret seed (one_time leaf i 0)

-- the value of chain i after n steps from its private value (3.1.2)
abbrev pub chain_value : List ℕ → ℕ → List ℕ → ℕ → ℕ → List ℕ
chain_value seed leaf secret i n = walk (step_of seed leaf) i 0 n (private_value seed leaf secret i)

-- the ends of all chains of a secret's key, after all steps (3.1.4)
abbrev pub ends_of_secret : List ℕ → ℕ → List ℕ → List (List ℕ)
ends_of_secret seed leaf secret = map (λ i. chain_value seed leaf secret i 15) (range_with_len 0 wots_chains)

-- the signature of a digest: each private value after as many steps as the chain's digit (3.1.5)
abbrev pub signed_values : List ℕ → ℕ → List ℕ → List ℕ → List (List ℕ)
signed_values seed leaf secret digest =
    map (λ i. chain_value seed leaf secret i (slice_index (digits_of 4 digest) i)) (range_with_len 0 wots_chains)

-- The values of a digest's signature climb to these ends, each from its chain's digit (3.1.6).
abbrev pub ClimbTo : List ℕ → ℕ → List ℕ → List (List ℕ) → List (List ℕ) → Type 0
ClimbTo seed leaf digest values ends = AreEnds (step_of seed leaf) 4 (digits_of 4 digest) values ends

abbrev pub ends_of_signature : List ℕ → ℕ → List ℕ → List (List ℕ) → List (List ℕ)
ends_of_signature seed leaf digest values = ends_of (step_of seed leaf) 4 (digits_of 4 digest) values

-- a key's public hash, a leaf of the hash tree: the root of the L-tree over its ends (4.1.6)
abbrev pub public_hash : List ℕ → ℕ → List (List ℕ) → List ℕ
public_hash seed leaf ends = l_tree_root (l_tree_join seed leaf) ends
