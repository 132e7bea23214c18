-- The texts of a listing.
use Rattle.std.specs.Prelude.{ℕ, zero, suc, List, ◌∷◌}
use Rattle.typecodes.specs.Spec.{comma}

-- with a comma before it, except at the top level
abbrev pub after_comma : (level : ℕ) → (text : List ℕ) → List ℕ
after_comma zero text = text
after_comma (suc level) text = comma ∷ text
