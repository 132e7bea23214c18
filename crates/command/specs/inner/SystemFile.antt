-- What follows where a file isn't honest.
use Rattle.std.proofs.Common.{subst}
use Rattle.std.specs.Prelude.{Bool, true, false, IsTrue}

abbrev pub IsNotTrue : Bool → Type 0
IsNotTrue true = ⊥
IsNotTrue false = Unit {0}

-- a file that isn't honest makes no promise
pub never : {A : Type 0} → IsTrue false → A
never honest = absurd (subst IsNotTrue honest tt)
