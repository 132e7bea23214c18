-- The heights of a key's trees, by their levels.
use Rattle.std.specs.Prelude.{ℕ, List, [], ◌∷◌, map, Option, slice_get}
use Rattle.typecodes.specs.declared.spec.Spec.{Spec}
use Rattle.typecodes.specs.declared.spec.Spec.TheVariants.{Lms, Hss, Xmss}
use Rattle.typecodes.specs.declared.types.LmsPair.{LmsPair}
use Rattle.typecodes.specs.Types.{height_of, xmss_height_of}

-- the heights of a key's trees, from the top level down
abbrev pub heights_of : Spec → List ℕ
heights_of (Lms pair) = height_of pair.tree ∷ []
heights_of (Hss levels) = map (λ (pair : LmsPair). height_of pair.tree) levels
heights_of (Xmss tree) = xmss_height_of tree ∷ []

-- the height of a level's trees; None where the key lacks the level
abbrev pub height_at : Spec → (level : ℕ) → Option ℕ
height_at spec level = slice_get (heights_of spec) level
