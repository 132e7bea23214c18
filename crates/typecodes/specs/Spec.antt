-- The texts of specs, which say which key to make.
use Rattle.std.specs.Prelude.{ℕ, List, map, ◌++◌, codes}
use Rattle.std.specs.List.{join_with_byte}
use Rattle.typecodes.specs.declared.types.OtsType.{OtsType}
use Rattle.typecodes.specs.declared.types.OtsType.TheVariants.{W1, W2, W4, W8}
use Rattle.typecodes.specs.declared.types.LmsType.{LmsType}
use Rattle.typecodes.specs.declared.types.LmsType.TheVariants.{H5, H10, H15, H20, H25}
use Rattle.typecodes.specs.declared.types.LmsPair.{LmsPair}
use Rattle.typecodes.specs.declared.types.XmssType.{XmssType}
use Rattle.typecodes.specs.declared.types.XmssType.TheVariants as xmss
use Rattle.typecodes.specs.declared.spec.Spec.{Spec}
use Rattle.typecodes.specs.declared.spec.Spec.TheVariants.{Lms, Hss, Xmss}
use Rattle.typecodes.specs.Levels.{AreLevels}

abbrev pub tree_text : LmsType → List ℕ
tree_text H5 = codes "H5"
tree_text H10 = codes "H10"
tree_text H15 = codes "H15"
tree_text H20 = codes "H20"
tree_text H25 = codes "H25"

abbrev pub ots_text : OtsType → List ℕ
ots_text W1 = codes "W1"
ots_text W2 = codes "W2"
ots_text W4 = codes "W4"
ots_text W8 = codes "W8"

abbrev pub pair_text : LmsPair → List ℕ
pair_text pair = tree_text pair.tree ++ codes "/" ++ ots_text pair.ots

abbrev pub comma : ℕ
comma = 0x2c

-- the pairs of the levels, from the top down
abbrev pub levels_text : List LmsPair → List ℕ
levels_text levels = join_with_byte comma (map pair_text levels)

abbrev pub xmss_text : XmssType → List ℕ
xmss_text xmss.H10 = codes "10"
xmss_text xmss.H16 = codes "16"
xmss_text xmss.H20 = codes "20"

-- Requirement: RFC 8554 6, hss
abbrev pub spec_text : Spec → List ℕ
spec_text (Lms pair) = codes "lms:" ++ pair_text pair
spec_text (Hss levels) = codes "hss:" ++ levels_text levels
spec_text (Xmss tree) = codes "xmss:" ++ xmss_text tree

-- a spec of HSS has 1 to 8 levels
abbrev pub IsSpec : Spec → Type 0
IsSpec (Hss levels) = AreLevels levels
IsSpec _ = Unit {0}
