-- How many leaves a level's tree has.
use Rattle.std.proofs.Common.{◌≡◌, ℕ, zero, suc, ◌^◌, ◌<◌, List, [], ◌∷◌, length, refl, arith}
use Rattle.std.specs.Prelude.{slice_index_or}
use Rattle.typecodes.specs.declared.types.LmsPair.{LmsPair}
use Rattle.typecodes.specs.Types.{height_of}
use Rattle.state_file.specs.Laws.{tree_leaves_at}

pub leaves_of_level : (levels : List LmsPair) (level : ℕ) (d : LmsPair) → level < length levels → tree_leaves_at levels level ≡ 2 ^ height_of (slice_index_or levels level d).tree
leaves_of_level [] level d inside = absurd (omega (arith, inside))
leaves_of_level (first ∷ rest) zero d inside = refl
leaves_of_level (first ∷ rest) (suc level) d inside = leaves_of_level rest level d (omega (arith, inside))
