-- How XMSS signatures are spelled (RFC 8391 4.1.8).
use Rattle.std.specs.Prelude.{ℕ, ◌^◌, List, nat_lt, if◌then◌else◌}
use Rattle.typecodes.specs.declared.fault.Cause.TheVariants.{LeafOutOfRange}
use Rattle.typecodes.specs.declared.types.XmssType.{XmssType}
use Rattle.typecodes.specs.Types.{wots_chains, xmss_height_of}
use Rattle.typecodes.specs.Layout.{Layout, done, refuse, ◌>>=◌}
use Rattle.typecodes.specs.Fields.{number, block, values, first_values}

-- a signature: idx, r, a value for each chain, and the authentication path
pub record Signature : Type 0 where
  pub index : ℕ
  pub randomizer : List ℕ
  pub chains : List (List ℕ)
  pub path : List (List ℕ)

-- the values of all chains, 32 bytes each (3.1.1)
unfoldable pub chain_values : List ℕ → List (List ℕ)
chain_values bytes = first_values wots_chains bytes

-- A leaf's index in a tree of height h. Any other index is a fault at its own place.
unfoldable pub leaf_index : ℕ → Layout ℕ
leaf_index h = do
  index ← number
  if nat_lt index (2 ^ h) then done index else refuse 4 LeafOutOfRange

-- A signature of a type (4.1.8): idx, r, the chains' values, the path. It has no code for the type.
unfoldable pub signature : XmssType → Layout Signature
signature tree = do
  index ← leaf_index (xmss_height_of tree)
  randomizer ← block 32
  chains ← values wots_chains
  path ← values (xmss_height_of tree)
  done (record { index = index; randomizer = randomizer; chains = chains; path = path })

-- what a view shows: a signature of these parts
abbrev pub whole_signature : ℕ → List ℕ → List (List ℕ) → List (List ℕ) → Signature
whole_signature index randomizer chains path =
    record { index = index; randomizer = randomizer; chains = chains; path = path }
