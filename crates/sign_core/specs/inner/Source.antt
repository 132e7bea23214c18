-- What private functions alone cite of `Source.antt`'s subject.
use Rattle.std.specs.Prelude.{◌≡◌, ℕ, ◌+◌, List, Option, Result, Ok, Err}
use Rattle.sign_core.specs.declared.fault.SignFault.{SignFault}
use Rattle.sign_core.specs.declared.fault.SignFault.TheVariants.{RandomFailed}
use Rattle.sign_core.specs.Source.{Provides}

-- A draw, by its answer: the count of failures, and the bytes still to come.
abbrev pub DrawsBytes : (failures_before failures_after : ℕ) (upcoming left : Option (List ℕ))
    → Result (List ℕ) SignFault → Type 0
DrawsBytes before after upcoming left (Ok bytes) = (after ≡ before) × Provides upcoming bytes left
DrawsBytes before after upcoming left (Err RandomFailed) = (after ≡ before + 1) × (left ≡ upcoming)
DrawsBytes before after upcoming left (Err _) = ⊥
