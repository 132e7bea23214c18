-- What a reader of a whole layout may conclude from what its cursor read.
use Rattle.std.proofs.Common.{◌≡◌, ◌⊎◌, inl, inr, ℕ, List, Result, Ok, Err, ap, subst, arith}
use Rattle.typecodes.specs.declared.fault.ReadFault.{ReadFault}
use Rattle.typecodes.specs.Layout.{Layout, Spells, HasFault}
use Rattle.typecodes.specs.Cursor.{read, whole, Reads, Gives}
use Rattle.typecodes.proofs.Read.{read-outcome, HasOutcome}
use Rattle.typecodes.proofs.Spelling.{one_value, one_fault, no_value}

-- what reading to the end gives is what the bytes are
pub outcome_of_reading : {V : Type 0} (layout : Layout V) (bytes : List ℕ) (answer : Result V ReadFault) → whole bytes (read layout bytes 0) ≡ answer → HasOutcome layout bytes 0 answer
outcome_of_reading layout bytes answer read_is = subst (HasOutcome layout bytes 0) read_is (read-outcome layout bytes 0 (omega arith))

pub either : {V : Type 0} (layout : Layout V) (bytes : List ℕ) → ((v : V) × Spells layout v bytes) ⊎ ((fault : ReadFault) × HasFault layout bytes 0 fault)
either layout bytes =
    elim (whole bytes (read layout bytes 0)) as (λ answer. HasOutcome layout bytes 0 answer → ((v : _) × Spells layout v bytes) ⊎ ((fault : ReadFault) × HasFault layout bytes 0 fault)) [
      | Ok v ↦ λ spelled. inl (v, spelled)
      | Err fault ↦ λ faulty. inr (fault, faulty)
    ] (read-outcome layout bytes 0 (omega arith))

same_answer : {V : Type 0} (layout : Layout V) (bytes : List ℕ) (answer answer' : Result V ReadFault) → HasOutcome layout bytes 0 answer → HasOutcome layout bytes 0 answer' → answer ≡ answer'
same_answer layout bytes (Ok v) (Ok w) first second = ap Ok (one_value layout v w bytes first second)
same_answer layout bytes (Ok v) (Err fault) first second = absurd (no_value layout v bytes 0 fault first second)
same_answer layout bytes (Err fault) (Ok v) first second = absurd (no_value layout v bytes 0 fault second first)
same_answer layout bytes (Err fault) (Err fault') first second = ap Err (one_fault layout bytes 0 fault fault' first second)

-- what the bytes are is what reading to the end answers
pub reading_of_outcome : {V : Type 0} (layout : Layout V) (bytes : List ℕ) (answer : Result V ReadFault) → HasOutcome layout bytes 0 answer → whole bytes (read layout bytes 0) ≡ answer
reading_of_outcome layout bytes answer outcome =
    same_answer layout bytes (whole bytes (read layout bytes 0)) answer (read-outcome layout bytes 0 (omega arith)) outcome

-- a reader that gives what reading to the end gives is a reader of the layout
pub reads-from_gives : {V X : Type 0} (layout : Layout V) (view : X → V) (bytes : List ℕ) (result : Result X ReadFault) → Gives view result (whole bytes (read layout bytes 0)) → Reads layout view bytes result
reads-from_gives layout view bytes (Ok x) given = outcome_of_reading layout bytes (Ok (view x)) given
reads-from_gives layout view bytes (Err fault) given = outcome_of_reading layout bytes (Err fault) given
