-- Reading pairs one after the other.
use Rattle.std.proofs.Common.{◌≡◌, ℕ, suc, ◌+◌, ◌-◌, ◌<◌, ◌≤◌, List, [], ◌∷◌, ◌++◌, Ok, Err, refl, sym, ap, ◌∙◌, arith, append_assoc, append-nil, Result}
use Rattle.typecodes.specs.declared.fault.ReadFault.{ReadFault}
use Rattle.typecodes.specs.declared.types.LmsPair.{LmsPair}
use Rattle.typecodes.specs.Layout.{Layout, done, ◌>>=◌}
use Rattle.typecodes.specs.Cursor.{and_then, read, Gives}
use Rattle.typecodes.proofs.Read.{read-bind}
use Rattle.state_file.specs.Slot.{pair_field, pairs}

-- the remaining pairs after one
abbrev rest_of : ℕ → LmsPair → Layout (List LmsPair)
rest_of n first = pairs n >>= λ rest. done (first ∷ rest)

pub pairs-next : (n : ℕ) (bytes : List ℕ) (place next : ℕ) (before : List LmsPair) (pair : LmsPair) → read pair_field bytes place ≡ Ok (pair, next)
    → and_then (read (pairs (suc n)) bytes place) (λ rest. Ok (before ++ rest.0, rest.1)) ≡ and_then (read (pairs n) bytes next) (λ rest. Ok ((before ++ pair ∷ []) ++ rest.0, rest.1))
unfolding pairs
pairs-next n bytes place next before pair found =
    ap (λ all. and_then all (λ rest. Ok (before ++ rest.0, rest.1)))
    (read-bind pair_field (rest_of n) bytes place ∙ ap (λ first. and_then first (λ x. read (rest_of n x.0) bytes x.1)) found ∙ read-bind (pairs n) (λ rest. done (pair ∷ rest)) bytes next)
    ∙ combined (read (pairs n) bytes next)
  where
    combined : (reading : _) → and_then (and_then reading (λ x. Ok (pair ∷ x.0, x.1))) (λ rest. Ok (before ++ rest.0, rest.1)) ≡ and_then reading (λ rest. Ok ((before ++ pair ∷ []) ++ rest.0, rest.1))
    combined (Ok x) = ap (λ all. Ok (all, x.1)) (sym (append_assoc before (pair ∷ []) x.0))
    combined (Err fault) = refl

pub pairs-fault : (n : ℕ) (bytes : List ℕ) (place : ℕ) (before : List LmsPair) (fault : ReadFault) → read pair_field bytes place ≡ Err fault
    → and_then (read (pairs (suc n)) bytes place) (λ rest. Ok (before ++ rest.0, rest.1)) ≡ Err fault
unfolding pairs
pairs-fault n bytes place before fault found =
    ap (λ all. and_then all (λ rest. Ok (before ++ rest.0, rest.1)))
    (read-bind pair_field (rest_of n) bytes place ∙ ap (λ first. and_then first (λ x. read (rest_of n x.0) bytes x.1)) found)

pub pairs-next_of : (count i : ℕ) (bytes : List ℕ) (place next : ℕ) (before : List LmsPair) (pair : LmsPair) → i < count → read pair_field bytes place ≡ Ok (pair, next)
    → and_then (read (pairs (count - i)) bytes place) (λ rest. Ok (before ++ rest.0, rest.1)) ≡ and_then (read (pairs (count - (i + 1))) bytes next) (λ rest. Ok ((before ++ pair ∷ []) ++ rest.0, rest.1))
pairs-next_of count i bytes place next before pair more found =
    let left : count - i ≡ suc (count - (i + 1)) = omega arith in
    ap (λ n. and_then (read (pairs n) bytes place) (λ rest. Ok (before ++ rest.0, rest.1))) left ∙ pairs-next (count - (i + 1)) bytes place next before pair found

pub pairs-fault_of : (count i : ℕ) (bytes : List ℕ) (place : ℕ) (before : List LmsPair) (fault : ReadFault) → i < count → read pair_field bytes place ≡ Err fault
    → and_then (read (pairs (count - i)) bytes place) (λ rest. Ok (before ++ rest.0, rest.1)) ≡ Err fault
pairs-fault_of count i bytes place before fault more found =
    let left : count - i ≡ suc (count - (i + 1)) = omega arith in
    ap (λ n. and_then (read (pairs n) bytes place) (λ rest. Ok (before ++ rest.0, rest.1))) left ∙ pairs-fault (count - (i + 1)) bytes place before fault found

pub pairs-all_of : (count i : ℕ) (bytes : List ℕ) (place : ℕ) (before : List LmsPair) → count ≤ i
    → and_then (read (pairs (count - i)) bytes place) (λ rest. Ok (before ++ rest.0, rest.1)) ≡ Ok (before, place)
unfolding pairs
pairs-all_of count i bytes place before all =
    let left : count - i ≡ 0 = omega arith in
    ap (λ n. and_then (read (pairs n) bytes place) (λ rest. Ok (before ++ rest.0, rest.1))) left ∙ ap (λ all. Ok (all, place)) (append-nil before)

pub gives-fault : {V X : Type 0} (view : X → V) (result : Result X ReadFault) (reading : Result V ReadFault) (fault : ReadFault) → result ≡ Err fault → reading ≡ Err fault → Gives view result reading
gives-fault view (Ok x) reading fault is faulty = absurd (cc)
gives-fault view (Err other) reading fault is faulty = let same : other ≡ fault = cc in faulty ∙ ap Err (sym same)
