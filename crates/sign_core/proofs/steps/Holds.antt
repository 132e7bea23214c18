-- What has to hold at each end of an event's steps, so that it holds of the event.
use Rattle.std.proofs.Common.{◌≡◌, refl, true, false, List, [], ◌∷◌, ◌++◌, ℕ, Some, None}
use Rattle.sign_core.specs.declared.fault.SignFault.{SignFault}
use Rattle.sign_core.specs.declared.fault.SignFault.TheVariants.{MessageRead, OutOfMemory}
use Rattle.sign_core.specs.Steps.{Outcome, State, Steps, acked, answered, append_record, choose, cut}
use Rattle.sign_core.specs.Steps.{cut_new, cut_old, draw_bytes, drawing, event, give, hold, look, no_memory, open_state}
use Rattle.sign_core.specs.Steps.{pass, read_message, reading, refuse, refused, run_then, take_some}

-- Q of each end of the steps and of what comes after them, by what was found on the way.
abbrev pub Holds : {A B : Type 0} → (Q : Outcome B → Type 0) → Steps A → State → (next : A → State → Outcome B) → Type 0
Holds Q (give a) state next = Q (next a state)
Holds Q (refuse fault) state next = Q (refused state fault)
Holds Q (look rest) state next = Holds Q (rest state) state next
Holds Q (choose test one other) state next =
    (test ≡ true → Holds Q one state next) × (test ≡ false → Holds Q other state next)
Holds Q (take_some fault found rest) state next =
    (found ≡ None → Q (refused state fault)) × ((x : _) → found ≡ Some x → Holds Q (rest x) state next)
Holds Q (pass found rest) state next =
    ((fault : SignFault) → found ≡ Some fault → Q (refused state fault)) × (found ≡ None → Holds Q rest state next)
Holds Q (hold is_open rest) state next =
    Holds Q rest (record { records = state.records; is_open = is_open }) next
Holds Q (draw_bytes bytes rest) state next = Holds (λ outcome. Q (drawing bytes outcome)) rest state next
Holds Q (read_message given rest) state next =
    (given ≡ None → Q (reading (refused state MessageRead)))
    × ((message : List ℕ) → given ≡ Some message → Holds (λ outcome. Q (reading outcome)) (rest message) state next)
Holds Q (append_record entry fate rest) state next =
    (fate ≡ acked → Holds Q rest (open_state (state.records ++ entry ∷ [])) next)
    × (fate ≡ cut_old → Q (cut state.records entry state.records))
    × (fate ≡ cut_new → Q (cut state.records entry (state.records ++ entry ∷ [])))
    × (fate ≡ no_memory → Q (refused state OutOfMemory))

pub holds_then : {A B : Type 0} (Q : Outcome B → Type 0) (steps : Steps A) (state : State)
    (next : A → State → Outcome B) → Holds Q steps state next → Q (run_then steps state next)
holds_then Q (give a) state next all = all
holds_then Q (refuse fault) state next all = all
holds_then Q (look rest) state next all = holds_then Q (rest state) state next all
holds_then Q (choose true one other) state next all = holds_then Q one state next (all.0 refl)
holds_then Q (choose false one other) state next all = holds_then Q other state next (all.1 refl)
holds_then Q (take_some fault None rest) state next all = all.0 refl
holds_then Q (take_some fault (Some x) rest) state next all = holds_then Q (rest x) state next (all.1 x refl)
holds_then Q (pass (Some fault) rest) state next all = all.0 fault refl
holds_then Q (pass None rest) state next all = holds_then Q rest state next (all.1 refl)
holds_then Q (hold is_open rest) state next all =
    holds_then Q rest (record { records = state.records; is_open = is_open }) next all
holds_then Q (draw_bytes bytes rest) state next all =
    holds_then (λ outcome. Q (drawing bytes outcome)) rest state next all
holds_then Q (read_message None rest) state next all = all.0 refl
holds_then Q (read_message (Some message) rest) state next all =
    holds_then (λ outcome. Q (reading outcome)) (rest message) state next (all.1 message refl)
holds_then Q (append_record entry acked rest) state next all =
    holds_then Q rest (open_state (state.records ++ entry ∷ [])) next (all.0 refl)
holds_then Q (append_record entry cut_old rest) state next all = all.1 refl
holds_then Q (append_record entry cut_new rest) state next all = all.2 refl
holds_then Q (append_record entry no_memory rest) state next all = all.3 refl

-- Q of each end of an event
abbrev pub HoldsOf : {A : Type 0} → (Q : Outcome A → Type 0) → Steps A → State → Type 0
HoldsOf Q steps state = Holds Q steps state (λ a later. answered later a)

pub holds : {A : Type 0} (Q : Outcome A → Type 0) (steps : Steps A) (state : State) → HoldsOf Q steps state
    → Q (event steps state)
holds Q steps state all = holds_then Q steps state _ all
