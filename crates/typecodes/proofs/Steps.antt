-- Lemmas for a reader of a layout, call by call of its cursor: name `reading` or `steps` in the reader's `using`.
use Rattle.std.proofs.Common.{◌≡◌, ◌<◌, ℕ, List, length, Ok, Err, refl, ap, ◌∙◌, eq-eqb, ne_eqb, arith}
use Rattle.typecodes.specs.declared.fault.Cause.TheVariants.{Trailing}
use Rattle.typecodes.specs.declared.fault.ReadFault.{ReadFault}
use Rattle.typecodes.specs.Fault.{fault_at}
use Rattle.typecodes.specs.Layout.{Layout, Spells, HasFault}
use Rattle.typecodes.specs.Cursor.{read, whole}
use Rattle.typecodes.proofs.Read.{read-bind}
use Rattle.typecodes.proofs.Readers.{outcome_of_reading}

-- the value ends with the bytes: they spell it
pub ends-spelled : {V : Type 0} (layout : Layout V) (bytes : List ℕ) (v : V) (end : ℕ) → read layout bytes 0 ≡ Ok (v, end) → length bytes ≡ end → Spells layout v bytes
ends-spelled layout bytes v end found at_end =
    outcome_of_reading layout bytes (Ok v) (ap (whole bytes) found ∙ rw (eq-eqb (length bytes) end at_end) refl)

-- bytes follow the value: a fault
pub ends-trailing : {V : Type 0} (layout : Layout V) (bytes : List ℕ) (v : V) (end : ℕ) → read layout bytes 0 ≡ Ok (v, end) → end < length bytes → HasFault layout bytes 0 (fault_at end Trailing)
ends-trailing layout bytes v end found more =
    outcome_of_reading layout bytes (Err (fault_at end Trailing)) (ap (whole bytes) found ∙ rw (ne_eqb (length bytes) end (λ same. omega arith)) refl)

-- a fault on the way is the fault of the bytes
pub ends-faulty : {V : Type 0} (layout : Layout V) (bytes : List ℕ) (fault : ReadFault) → read layout bytes 0 ≡ Err fault → HasFault layout bytes 0 fault
ends-faulty layout bytes fault found = outcome_of_reading layout bytes (Err fault) (ap (whole bytes) found)

-- for a function that reads a layout at its cursor, where the layout has values of a variable count
pub ruleset reading = (read-bind)

-- for a function that reads all of its bytes as one layout
pub ruleset steps = (ends-spelled, ends-trailing, ends-faulty)
