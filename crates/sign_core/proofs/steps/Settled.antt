-- What every end of an event has, the event has: one induction over its steps.
use Rattle.std.proofs.Common.{◌≡◌, refl, true, false, List, [], ◌∷◌, ◌++◌, ℕ, Some, None}
use Rattle.state_file.specs.declared.record.Record.{Record}
use Rattle.sign_core.specs.declared.fault.SignFault.{SignFault}
use Rattle.sign_core.specs.declared.fault.SignFault.TheVariants.{MessageRead, OutOfMemory}
use Rattle.sign_core.specs.Steps.{Fate, Outcome, State, Steps, acked, answered, append_record, appended, choose, cut}
use Rattle.sign_core.specs.Steps.{cut_new, cut_old, draw_bytes, drawing, event, give, hold, look, no_memory, open_state}
use Rattle.sign_core.specs.Steps.{pass, read_message, reading, refuse, refused, run_then, take_some}

-- Q holds of answers, of these refusals and of cuts, and also with anything drawn or read before.
pub record Settles {A : Type 0} (Allowed : SignFault → Type 0) (Q : Outcome A → Type 0) : Type 0 where
  pub answers : (state : State) (a : A) → Q (answered state a)
  pub refuses : (state : State) (fault : SignFault) → Allowed fault → Q (refused state fault)
  pub cuts : (acknowledged : List Record) (entry : Record) (left : List Record) → Q (cut acknowledged entry left)
  pub draws : (bytes : List ℕ) (outcome : Outcome A) → Q outcome → Q (drawing bytes outcome)
  pub reads : (outcome : Outcome A) → Q outcome → Q (reading outcome)

-- Each refusal that the steps name is one of these.
abbrev pub AllRefusals : {A : Type 0} → (Allowed : SignFault → Type 0) → Steps A → State → Type 0
AllRefusals Allowed (give a) state = Unit {0}
AllRefusals Allowed (refuse fault) state = Allowed fault
AllRefusals Allowed (look rest) state = AllRefusals Allowed (rest state) state
AllRefusals Allowed (choose test one other) state =
    (test ≡ true → AllRefusals Allowed one state) × (test ≡ false → AllRefusals Allowed other state)
AllRefusals Allowed (take_some fault found rest) state =
    (found ≡ None → Allowed fault) × ((x : _) → found ≡ Some x → AllRefusals Allowed (rest x) state)
AllRefusals Allowed (pass found rest) state =
    ((fault : SignFault) → found ≡ Some fault → Allowed fault) × AllRefusals Allowed rest state
AllRefusals Allowed (hold is_open rest) state =
    AllRefusals Allowed rest (record { records = state.records; is_open = is_open })
AllRefusals Allowed (draw_bytes bytes rest) state = AllRefusals Allowed rest state
AllRefusals Allowed (read_message given rest) state =
    Allowed MessageRead × ((message : List ℕ) → given ≡ Some message → AllRefusals Allowed (rest message) state)
AllRefusals Allowed (append_record entry fate rest) state =
    Allowed OutOfMemory × AllRefusals Allowed rest (open_state (state.records ++ entry ∷ []))

settled_append : {A : Type 0} (Allowed : SignFault → Type 0) (Q : Outcome A → Type 0) → Settles Allowed Q
    → (state : State) (entry : Record) (fate : Fate) (next : List Record → Outcome A) → Allowed OutOfMemory
    → Q (next (state.records ++ entry ∷ [])) → Q (appended state entry fate next)
settled_append Allowed Q s state entry acked next can later = later
settled_append Allowed Q s state entry cut_old next can later = s.cuts state.records entry state.records
settled_append Allowed Q s state entry cut_new next can later =
    s.cuts state.records entry (state.records ++ entry ∷ [])
settled_append Allowed Q s state entry no_memory next can later = s.refuses state OutOfMemory can

pub settled_then : {A B : Type 0} (Allowed : SignFault → Type 0) (Q : Outcome B → Type 0) → Settles Allowed Q
    → (steps : Steps A) (state : State) (next : A → State → Outcome B) → AllRefusals Allowed steps state
    → ((a : A) (later : State) → Q (next a later)) → Q (run_then steps state next)
settled_then Allowed Q s (give a) state next all later = later a state
settled_then Allowed Q s (refuse fault) state next all later = s.refuses state fault all
settled_then Allowed Q s (look rest) state next all later =
    settled_then Allowed Q s (rest state) state next all later
settled_then Allowed Q s (choose true one other) state next all later =
    settled_then Allowed Q s one state next (all.0 refl) later
settled_then Allowed Q s (choose false one other) state next all later =
    settled_then Allowed Q s other state next (all.1 refl) later
settled_then Allowed Q s (take_some fault None rest) state next all later = s.refuses state fault (all.0 refl)
settled_then Allowed Q s (take_some fault (Some x) rest) state next all later =
    settled_then Allowed Q s (rest x) state next (all.1 x refl) later
settled_then Allowed Q s (pass (Some fault) rest) state next all later = s.refuses state fault (all.0 fault refl)
settled_then Allowed Q s (pass None rest) state next all later = settled_then Allowed Q s rest state next all.1 later
settled_then Allowed Q s (hold is_open rest) state next all later =
    settled_then Allowed Q s rest (record { records = state.records; is_open = is_open }) next all later
settled_then Allowed Q s (draw_bytes bytes rest) state next all later =
    s.draws bytes _ (settled_then Allowed Q s rest state next all later)
settled_then Allowed Q s (read_message None rest) state next all later =
    s.reads _ (s.refuses state MessageRead all.0)
settled_then Allowed Q s (read_message (Some message) rest) state next all later =
    s.reads _ (settled_then Allowed Q s (rest message) state next (all.1 message refl) later)
settled_then Allowed Q s (append_record entry fate rest) state next all later =
    settled_append Allowed Q s state entry fate _ all.0
    (settled_then Allowed Q s rest (open_state (state.records ++ entry ∷ [])) next all.1 later)

pub settled : {A : Type 0} (Allowed : SignFault → Type 0) (Q : Outcome A → Type 0) → Settles Allowed Q
    → (steps : Steps A) (state : State) → AllRefusals Allowed steps state → Q (event steps state)
settled Allowed Q s steps state all = settled_then Allowed Q s steps state _ all (λ a later. s.answers later a)

-- any refusal may come
abbrev pub Any : SignFault → Type 0
Any fault = Unit {0}

pub any_refusals : {A : Type 0} (steps : Steps A) (state : State) → AllRefusals Any steps state
any_refusals (give a) state = tt
any_refusals (refuse fault) state = tt
any_refusals (look rest) state = any_refusals (rest state) state
any_refusals (choose test one other) state = (λ is. any_refusals one state, λ is. any_refusals other state)
any_refusals (take_some fault found rest) state = (λ none. tt, λ x some. any_refusals (rest x) state)
any_refusals (pass found rest) state = (λ fault some. tt, any_refusals rest state)
any_refusals (hold is_open rest) state = any_refusals rest (record { records = state.records; is_open = is_open })
any_refusals (draw_bytes bytes rest) state = any_refusals rest state
any_refusals (read_message given rest) state = (tt, λ message some. any_refusals (rest message) state)
any_refusals (append_record entry fate rest) state =
    (tt, any_refusals rest (open_state (state.records ++ entry ∷ [])))

pub settled_any : {A : Type 0} (Q : Outcome A → Type 0) → Settles Any Q → (steps : Steps A) (state : State)
    → Q (event steps state)
settled_any Q s steps state = settled Any Q s steps state (any_refusals steps state)
