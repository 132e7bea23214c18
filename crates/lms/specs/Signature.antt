-- How LMS signatures are spelled (RFC 8554 4.5 and 5.4).
use Rattle.std.specs.Prelude.{ℕ, ◌+◌, ◌^◌, List, nat_lt, if◌then◌else◌}
use Rattle.typecodes.specs.declared.fault.Cause.TheVariants.{LeafOutOfRange}
use Rattle.typecodes.specs.declared.types.OtsType.{OtsType}
use Rattle.typecodes.specs.declared.types.LmsPair.{LmsPair}
use Rattle.typecodes.specs.Types.{chains_of, height_of, signature_len_of}
use Rattle.typecodes.specs.Layout.{Layout, done, refuse, ◌>>=◌}
use Rattle.typecodes.specs.Fields.{number, block, values, ots_type, lms_type}

-- a signature: its leaf q, C, the value of each chain, and the authentication path
pub record Signature : Type 0 where
  pub pair : LmsPair
  pub q : ℕ
  pub randomizer : List ℕ
  pub chains : List (List ℕ)
  pub path : List (List ℕ)

abbrev pub whole_signature : LmsPair → ℕ → List ℕ → List (List ℕ) → List (List ℕ) → Signature
whole_signature pair q randomizer chains path =
    record { pair = pair; q = q; randomizer = randomizer; chains = chains; path = path }

-- the offset where the tree's type ends in a signature
abbrev pub type_end : OtsType → ℕ
type_end ots = 4 + signature_len_of ots + 4

-- A signature (5.4): q, the one-time signature (4.5) with its type, C and values, the tree's type, and the path. If q
-- is no leaf of the tree, the fault is at q, once the tree's type is read.
-- Requirement: RFC 8554 9, lengths
unfoldable pub signature : Layout Signature
signature = do
  q ← number
  ots ← ots_type
  randomizer ← block 32
  chains ← values (chains_of ots)
  tree ← lms_type
  path ← if nat_lt q (2 ^ height_of tree) then values (height_of tree) else refuse (type_end ots) LeafOutOfRange
  done (whole_signature (record { tree = tree; ots = ots }) q randomizer chains path)
