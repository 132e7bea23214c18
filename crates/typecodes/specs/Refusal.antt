-- The numbers and names that report refusals.
use Rattle.std.specs.Prelude.{ℕ, List, codes}
use Rattle.typecodes.specs.Fault.{cause_name, cause_number}
use Rattle.typecodes.specs.declared.refusal.Refusal.{Refusal}
use Rattle.typecodes.specs.declared.refusal.Refusal.TheVariants.{Unreadable, TypeMismatch, LevelMismatch}
use Rattle.typecodes.specs.declared.refusal.Refusal.TheVariants.{RootMismatch, MessageRead}

-- a fault by its cause, and the other refusals
abbrev pub refusal_number : Refusal → ℕ
refusal_number (Unreadable fault) = cause_number fault.cause
refusal_number (TypeMismatch level) = 10
refusal_number LevelMismatch = 11
refusal_number (RootMismatch level) = 12
refusal_number MessageRead = 14

abbrev pub refusal_name : Refusal → List ℕ
refusal_name (Unreadable fault) = cause_name fault.cause
refusal_name (TypeMismatch level) = codes "TypeMismatch"
refusal_name LevelMismatch = codes "LevelMismatch"
refusal_name (RootMismatch level) = codes "RootMismatch"
refusal_name MessageRead = codes "MessageRead"
