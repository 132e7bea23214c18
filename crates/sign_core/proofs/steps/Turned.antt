-- An event whose cut append has its other outcome: the steps with each fate turned.
use Rattle.std.proofs.Common.{◌≡◌, refl, ap, inl, inr, true, false, List, [], ◌∷◌, ◌++◌, ℕ, Some, None}
use Rattle.state_file.specs.declared.record.Record.{Record}
use Rattle.sign_core.specs.Cuts.{IsOther, turned}
use Rattle.sign_core.specs.Steps.{Fate, Outcome, State, Steps, acked, append_record, appended, choose}
use Rattle.sign_core.specs.Steps.{cut_new, cut_old, draw_bytes, drawing, event, give, hold, look, no_memory, open_state}
use Rattle.sign_core.specs.Steps.{pass, read_message, reading, refuse, refused, run_then, take_some}

abbrev pub turned_steps : {A : Type 0} → Steps A → Steps A
turned_steps (give a) = give a
turned_steps (refuse fault) = refuse fault
turned_steps (look rest) = look (λ state. turned_steps (rest state))
turned_steps (choose test one other) = choose test (turned_steps one) (turned_steps other)
turned_steps (take_some fault found rest) = take_some fault found (λ x. turned_steps (rest x))
turned_steps (pass found rest) = pass found (turned_steps rest)
turned_steps (hold is_open rest) = hold is_open (turned_steps rest)
turned_steps (draw_bytes bytes rest) = draw_bytes bytes (turned_steps rest)
turned_steps (read_message given rest) = read_message given (λ message. turned_steps (rest message))
turned_steps (append_record entry fate rest) = append_record entry (turned fate) (turned_steps rest)

-- where nothing was cut, the outcome is the same
same_outcome : {A : Type 0} (outcome : Outcome A) → outcome.failed ≡ None → IsOther outcome outcome
same_outcome outcome whole = record {
  answer = refl;
  is_open = refl;
  acknowledged = refl;
  failed = refl;
  drawn = refl;
  is_read = refl;
  uncut = λ none. refl;
  left = λ some. absurd (some whole);
}

-- what is drawn or read before doesn't matter
other_drawing : {A : Type 0} (bytes : List ℕ) (first second : Outcome A) → IsOther first second
    → IsOther (drawing bytes first) (drawing bytes second)
other_drawing bytes first second other = record {
  answer = other.answer;
  is_open = other.is_open;
  acknowledged = other.acknowledged;
  failed = other.failed;
  drawn = ap (λ more. bytes ++ more) other.drawn;
  is_read = other.is_read;
  uncut = other.uncut;
  left = other.left;
}

other_reading : {A : Type 0} (first second : Outcome A) → IsOther first second
    → IsOther (reading first) (reading second)
other_reading first second other = record {
  answer = other.answer;
  is_open = other.is_open;
  acknowledged = other.acknowledged;
  failed = other.failed;
  drawn = other.drawn;
  is_read = refl;
  uncut = other.uncut;
  left = other.left;
}

other_append : {A : Type 0} (state : State) (entry : Record) (fate : Fate) (next other : List Record → Outcome A)
    → ((records : List Record) → IsOther (next records) (other records))
    → IsOther (appended state entry fate next) (appended state entry (turned fate) other)
other_append state entry acked next other later = later (state.records ++ entry ∷ [])
other_append state entry cut_old next other later = record {
  answer = refl;
  is_open = refl;
  acknowledged = refl;
  failed = refl;
  drawn = refl;
  is_read = refl;
  uncut = λ none. absurd (cc);
  left = λ some. inl (refl, refl);
}
other_append state entry cut_new next other later = record {
  answer = refl;
  is_open = refl;
  acknowledged = refl;
  failed = refl;
  drawn = refl;
  is_read = refl;
  uncut = λ none. absurd (cc);
  left = λ some. inr (refl, refl);
}
other_append state entry no_memory next other later = same_outcome (refused state _) refl

other_then : {A B : Type 0} (steps : Steps A) (state : State) (next : A → State → Outcome B)
    → ((a : A) (later : State) → (next a later).failed ≡ None)
    → IsOther (run_then steps state next) (run_then (turned_steps steps) state next)
other_then (give a) state next whole = same_outcome _ (whole a state)
other_then (refuse fault) state next whole = same_outcome (refused state _) refl
other_then (look rest) state next whole = other_then (rest state) state next whole
other_then (choose true one other) state next whole = other_then one state next whole
other_then (choose false one other) state next whole = other_then other state next whole
other_then (take_some fault None rest) state next whole = same_outcome (refused state _) refl
other_then (take_some fault (Some x) rest) state next whole = other_then (rest x) state next whole
other_then (pass (Some fault) rest) state next whole = same_outcome (refused state _) refl
other_then (pass None rest) state next whole = other_then rest state next whole
other_then (hold is_open rest) state next whole =
    other_then rest (record { records = state.records; is_open = is_open }) next whole
other_then (draw_bytes bytes rest) state next whole =
    other_drawing bytes _ _ (other_then rest state next whole)
other_then (read_message None rest) state next whole = same_outcome (reading (refused state _)) refl
other_then (read_message (Some message) rest) state next whole =
    other_reading _ _ (other_then (rest message) state next whole)
other_then (append_record entry fate rest) state next whole =
    other_append state entry fate _ _ (λ records. other_then rest (open_state records) next whole)

pub other_event : {A : Type 0} (steps : Steps A) (state : State)
    → IsOther (event steps state) (event (turned_steps steps) state)
other_event steps state = other_then steps state _ (λ a later. refl)
