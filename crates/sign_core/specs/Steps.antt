-- An event as data: a tree of steps. Each step looks at the state, tests, opens or closes the signer, draws, reads or
-- appends; or it ends the event. `event` says what the steps do to a state.
use Rattle.std.specs.Prelude.{ℕ, Bool, true, false, List, [], ◌∷◌, ◌++◌, Option, Some, None, Result, Ok, Err}
use Rattle.std.specs.Prelude.{if◌then◌else◌}
use Rattle.std.specs.Option.{option_map_or}
use Rattle.state_file.specs.declared.record.Record.{Record}
use Rattle.sign_core.specs.declared.fault.SignFault.{SignFault}
use Rattle.sign_core.specs.declared.fault.SignFault.TheVariants.{MessageRead, OutOfMemory, StoreFailed}

-- ---- states and outcomes

pub record State : Type 0 where
  pub records : List Record
  pub is_open : Bool

-- What an event leaves and answers, and how far it came. It has the records acknowledged at its end, the one whose
-- append was cut, if any, the drawn bytes, and whether the message was read. The state has the acknowledged records,
-- and perhaps the one that was cut.
pub record Outcome (A : Type 0) : Type 0 where
  pub state : State
  pub answer : Result A SignFault
  pub acknowledged : List Record
  pub failed : Option Record
  pub drawn : List ℕ
  pub is_read : Bool

abbrev pub refused : {A : Type 0} → State → SignFault → Outcome A
refused state fault =
    let records = state.records in
    record { state = state; answer = Err fault; acknowledged = records; failed = None; drawn = []; is_read = false }

abbrev pub answered : {A : Type 0} → State → A → Outcome A
answered state a =
    record { state = state; answer = Ok a; acknowledged = state.records; failed = None; drawn = []; is_read = false }

abbrev pub open_state : List Record → State
open_state records = record { records = records; is_open = true }

abbrev pub closed_state : List Record → State
closed_state records = record { records = records; is_open = false }

-- The append of a record was cut, and left these records; the signer is closed.
abbrev pub cut : {A : Type 0} → (acknowledged : List Record) → Record → (left : List Record) → Outcome A
cut acknowledged entry left =
    record (refused (closed_state left) StoreFailed) { acknowledged = acknowledged; failed = Some entry }

abbrev pub drawing : {A : Type 0} → List ℕ → Outcome A → Outcome A
drawing bytes outcome = record outcome { drawn = bytes ++ outcome.drawn }

abbrev pub reading : {A : Type 0} → Outcome A → Outcome A
reading outcome = record outcome { is_read = true }

-- ---- appends

-- What becomes of an append: it is acknowledged; it is cut, and leaves the old records, or the new one as well; or
-- memory is refused for it, or just before it for the cache of the tree that it records.
pub data Fate : Type 0 where
  acked : Fate
  cut_old : Fate
  cut_new : Fate
  no_memory : Fate

-- a record is appended with this fate; where it is acknowledged, `next` goes on with the new records
abbrev pub appended : {A : Type 0} → State → Record → Fate → (next : List Record → Outcome A) → Outcome A
appended state entry acked next = next (state.records ++ entry ∷ [])
appended state entry cut_old next = cut state.records entry state.records
appended state entry cut_new next = cut state.records entry (state.records ++ entry ∷ [])
appended state entry no_memory next = refused state OutOfMemory

-- ---- steps

-- The steps of an event that answers an A.
pub data Steps (A : Type 0) : Type 1 where
  -- nothing more: this is the answer
  give : A → Steps A
  -- nothing more: this refusal is
  refuse : SignFault → Steps A
  -- what follows depends on the state
  look : (State → Steps A) → Steps A
  -- a test decides which steps follow
  choose : Bool → (one other : Steps A) → Steps A
  -- there is a value, and it is handed on; else this refusal
  take_some : {X : Type 0} → SignFault → Option X → (X → Steps A) → Steps A
  -- there is no refusal
  pass : Option SignFault → Steps A → Steps A
  -- the signer is opened or closed
  hold : (is_open : Bool) → Steps A → Steps A
  -- these bytes are drawn
  draw_bytes : List ℕ → Steps A → Steps A
  -- the message is read, and its text is handed on; else 27
  read_message : Option (List ℕ) → (List ℕ → Steps A) → Steps A
  -- a record is appended with this fate; where it is acknowledged, the signer is open, and what follows is done
  append_record : Record → Fate → Steps A → Steps A

-- one event's steps, and then those of another that depend on its value
infixl 10 ◌>>=◌
abbrev pub ◌>>=◌ : {A B : Type 0} → Steps A → (A → Steps B) → Steps B
(give a) >>= next = next a
(refuse fault) >>= next = refuse fault
(look rest) >>= next = look (λ state. rest state >>= next)
(choose test one other) >>= next = choose test (one >>= next) (other >>= next)
(take_some fault found rest) >>= next = take_some fault found (λ x. rest x >>= next)
(pass found rest) >>= next = pass found (rest >>= next)
(hold is_open rest) >>= next = hold is_open (rest >>= next)
(draw_bytes bytes rest) >>= next = draw_bytes bytes (rest >>= next)
(read_message given rest) >>= next = read_message given (λ message. rest message >>= next)
(append_record entry fate rest) >>= next = append_record entry fate (rest >>= next)

infixl 10 ◌>>◌
abbrev pub ◌>>◌ : {A B : Type 0} → Steps A → Steps B → Steps B
◌>>◌ first next = first >>= (λ a. next)

-- What the steps do to a state, and then what `next` does to the state that they leave.
abbrev pub run_then : {A B : Type 0} → Steps A → State → (next : A → State → Outcome B) → Outcome B
run_then (give a) state next = next a state
run_then (refuse fault) state next = refused state fault
run_then (look rest) state next = run_then (rest state) state next
run_then (choose test one other) state next = if test then run_then one state next else run_then other state next
run_then (take_some fault found rest) state next =
    option_map_or (λ x. run_then (rest x) state next) found (refused state fault)
run_then (pass found rest) state next = option_map_or (refused state) found (run_then rest state next)
run_then (hold is_open rest) state next =
    run_then rest (record { records = state.records; is_open = is_open }) next
run_then (draw_bytes bytes rest) state next = drawing bytes (run_then rest state next)
run_then (read_message given rest) state next =
    reading (option_map_or (λ message. run_then (rest message) state next) given (refused state MessageRead))
run_then (append_record entry fate rest) state next =
    appended state entry fate (λ records. run_then rest (open_state records) next)

-- what the steps of an event do to a state
abbrev pub event : {A : Type 0} → Steps A → State → Outcome A
event steps state = run_then steps state (λ a later. answered later a)
