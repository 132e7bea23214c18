-- Faults, by their place and cause.
use Rattle.std.specs.Prelude.{ℕ, List, codes}
use Rattle.typecodes.specs.declared.fault.Cause.{Cause}
use Rattle.typecodes.specs.declared.fault.Cause.TheVariants.{Truncated, UnknownType, LevelCount}
use Rattle.typecodes.specs.declared.fault.Cause.TheVariants.{LeafOutOfRange, Trailing}
use Rattle.typecodes.specs.declared.fault.ReadFault.{ReadFault}

abbrev pub fault_at : ℕ → Cause → ReadFault
fault_at place cause = record { place = place; cause = cause }

abbrev pub cause_number : Cause → ℕ
cause_number Truncated = 1
cause_number UnknownType = 2
cause_number LevelCount = 3
cause_number LeafOutOfRange = 4
cause_number Trailing = 5

-- the name that is printed beside it
abbrev pub cause_name : Cause → List ℕ
cause_name Truncated = codes "Truncated"
cause_name UnknownType = codes "UnknownType"
cause_name LevelCount = codes "LevelCount"
cause_name LeafOutOfRange = codes "LeafOutOfRange"
cause_name Trailing = codes "Trailing"
