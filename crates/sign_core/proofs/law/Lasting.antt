-- No event takes a record or a signature away.
use Rattle.std.proofs.Common.{◌≡◌, ◌∙◌, refl, sym, ap, ℕ, ◌-◌, Bool, true, false, List, [], ◌∷◌, ◌++◌, length, Some, None}
use Rattle.std.proofs.Common.{append-nil, append_assoc, inl, inr, map, take}
use Rattle.std.specs.Prelude.{if◌then◌else◌}
use Rattle.state_file.specs.declared.record.Record.{Record}
use Rattle.state_file.specs.declared.record.Record.TheVariants.{Key as KeyRecord, Extend as ExtendRecord, Bound as BoundRecord, Retire, Moved as MovedRecord}
use Rattle.sign_core.specs.Records.{has_moved}
use Rattle.sign_core.specs.Steps.{Fate, Outcome, State, Steps, acked, append_record, appended, choose, cut_new, cut_old}
use Rattle.sign_core.specs.Steps.{draw_bytes, event as event_of, give, hold, look, no_memory, open_state, pass, read_message, refuse}
use Rattle.sign_core.specs.Steps.{run_then, take_some}
use Rattle.sign_core.specs.World.{Chance, Event, World, after, create, create_steps, created, migrate, open_steps, opened}
use Rattle.sign_core.specs.World.{reopen, request, request_steps, requested, retire, retire_steps, retired, run, stop}
use Rattle.sign_core.specs.Lasting.{IsCarriedInto, IsNoMigration, LastingLaw, LastsInto, lasting}
use Rattle.sign_core.specs.World.{Migration, carried_over, left_alone, migrated_list, sealed}
use Rattle.sign_core.proofs.moves.KeptRecords.{front_of, migrated_has}
use Rattle.state_file.specs.Carried.{carried, in_version, unmoved, with_moved}
use Rattle.state_file.specs.declared.record.Version.{Version}
use Rattle.state_file.specs.declared.record.Version.TheVariants.{One, Two}
use Rattle.std.proofs.lemmas.Bool.{cases_Bool}
use Rattle.std.specs.List.{AllByRecursion}

abbrev Begins : (records all : List Record) → Type 0
Begins records all = (more : List Record) × (all ≡ records ++ more)

-- the records begin with these, and so do the acknowledged ones
abbrev Grown : {A : Type 0} → List Record → Outcome A → Type 0
Grown records outcome = Begins records outcome.state.records × Begins records outcome.acknowledged

unchanged : (records : List Record) → Begins records records × Begins records records
unchanged records = (([], sym (append-nil records)), ([], sym (append-nil records)))

grown_more : {A : Type 0} (records : List Record) (entry : Record) (outcome : Outcome A) → Grown (records ++ entry ∷ []) outcome → Grown records outcome
grown_more records entry outcome ((more, are), (kept, have)) =
    ((entry ∷ more, are ∙ append_assoc records (entry ∷ []) more), (entry ∷ kept, have ∙ append_assoc records (entry ∷ []) kept))

grown_append : {A : Type 0} (state : State) (entry : Record) (fate : Fate) (next : List Record → Outcome A)
    → ((records : List Record) → Grown records (next records)) → Grown state.records (appended state entry fate next)
grown_append state entry acked next later = grown_more state.records entry (next (state.records ++ entry ∷ [])) (later (state.records ++ entry ∷ []))
grown_append state entry cut_old next later = unchanged state.records
grown_append state entry cut_new next later = ((entry ∷ [], refl), ([], sym (append-nil state.records)))
grown_append state entry no_memory next later = unchanged state.records

grown_then : {A B : Type 0} (steps : Steps A) (state : State) (next : A → State → Outcome B)
    → ((a : A) (later : State) → Grown later.records (next a later)) → Grown state.records (run_then steps state next)
grown_then (give a) state next rest = rest a state
grown_then (refuse fault) state next rest = unchanged state.records
grown_then (look more) state next rest = grown_then (more state) state next rest
grown_then (choose true one other) state next rest = grown_then one state next rest
grown_then (choose false one other) state next rest = grown_then other state next rest
grown_then (take_some fault None more) state next rest = unchanged state.records
grown_then (take_some fault (Some x) more) state next rest = grown_then (more x) state next rest
grown_then (pass (Some fault) more) state next rest = unchanged state.records
grown_then (pass None more) state next rest = grown_then more state next rest
grown_then (hold is_open more) state next rest =
    grown_then more (record { records = state.records; is_open = is_open }) next rest
grown_then (draw_bytes bytes more) state next rest = grown_then more state next rest
grown_then (read_message None more) state next rest = unchanged state.records
grown_then (read_message (Some message) more) state next rest = grown_then (more message) state next rest
grown_then (append_record entry fate more) state next rest =
    grown_append state entry fate _ (λ records. grown_then more (open_state records) next rest)

-- an event keeps the records, and may add some
grown : {A : Type 0} (steps : Steps A) (state : State) → Grown state.records (event_of steps state)
grown steps state = grown_then steps state _ (λ a later. unchanged later.records)

-- what a request acknowledges begins with the records before it
pub acknowledges_more : (limit : ℕ) (state : State) (name : List ℕ) (chance : Chance)
    → (more : List Record) × ((requested limit state name chance).acknowledged ≡ state.records ++ more)
acknowledges_more limit state name chance = (grown (request_steps limit name chance) state).1

-- ---- runs

only_grown : {A : Type 0} (world : World) (outcome : Outcome A) → Grown world.state.records outcome
    → LastsInto world (record { state = outcome.state; handed = world.handed })
only_grown world outcome ((more, are), acknowledged) = record { records = more; handed = []; records_are = are; handed_are = sym (append-nil world.handed) }

extends_after : (limit : ℕ) (world : World) (event : Event) → IsNoMigration event → LastsInto world (after limit world event)
extends_after limit world (create spec chance) none =
    only_grown world (created world.state spec chance) (grown (create_steps spec chance) world.state)
extends_after limit world (reopen chance) none =
    only_grown world (opened world.state chance) (grown (open_steps chance) world.state)
extends_after limit world (request name chance) none =
    let ((more, are), acknowledged) = grown (request_steps limit name chance) world.state in
    record { records = more; handed = _; records_are = are; handed_are = refl }
extends_after limit world (retire upto fate) none =
    only_grown world (retired limit world.state upto fate) (grown (retire_steps limit upto fate) world.state)
extends_after limit world (migrate fate) none = absurd none
extends_after limit world stop none =
    record { records = []; handed = []; records_are = sym (append-nil world.state.records); handed_are = sym (append-nil world.handed) }

extends_on : (first second third : World) → LastsInto first second → LastsInto second third → LastsInto first third
extends_on first second third a b = record {
  records = a.records ++ b.records;
  handed = a.handed ++ b.handed;
  records_are = b.records_are ∙ ap (λ l. l ++ b.records) a.records_are ∙ append_assoc first.state.records a.records b.records;
  handed_are = b.handed_are ∙ ap (λ l. l ++ b.handed) a.handed_are ∙ append_assoc first.handed a.handed b.handed;
}

pub extends_along : (limit : ℕ) (world : World) (events : List Event) → AllByRecursion IsNoMigration events → LastsInto world (run limit world events)
extends_along limit world [] none = record {
  records = [];
  handed = [];
  records_are = sym (append-nil world.state.records);
  handed_are = sym (append-nil world.handed);
}
extends_along limit world (event ∷ events) none =
    extends_on world (after limit world event) (run limit world (event ∷ events)) (extends_after limit world event none.0)
    (extends_along limit (after limit world event) events none.1)

-- ---- with migrations

lasting_append : (xs ys : List Record) → lasting (xs ++ ys) ≡ lasting xs ++ lasting ys
lasting_append [] ys = refl
lasting_append (KeyRecord key ∷ xs) ys = ap (λ l. in_version One (KeyRecord key) ∷ l) (lasting_append xs ys)
lasting_append (ExtendRecord extend ∷ xs) ys = ap (λ l. ExtendRecord extend ∷ l) (lasting_append xs ys)
lasting_append (BoundRecord bound ∷ xs) ys = ap (λ l. BoundRecord bound ∷ l) (lasting_append xs ys)
lasting_append (Retire upto ∷ xs) ys = ap (λ l. Retire upto ∷ l) (lasting_append xs ys)
lasting_append (MovedRecord ∷ xs) ys = lasting_append xs ys

lasting_in : (version : Version) (records : List Record) → lasting (map (in_version version) records) ≡ lasting records
lasting_in version [] = refl
lasting_in version (KeyRecord key ∷ rest) = ap (λ l. in_version One (KeyRecord key) ∷ l) (lasting_in version rest)
lasting_in version (ExtendRecord extend ∷ rest) = ap (λ l. ExtendRecord extend ∷ l) (lasting_in version rest)
lasting_in version (BoundRecord bound ∷ rest) = ap (λ l. BoundRecord bound ∷ l) (lasting_in version rest)
lasting_in version (Retire upto ∷ rest) = ap (λ l. Retire upto ∷ l) (lasting_in version rest)
lasting_in version (MovedRecord ∷ rest) = lasting_in version rest

lasting_moved : (records : List Record) → lasting (records ++ MovedRecord ∷ []) ≡ lasting records
lasting_moved records = lasting_append records (MovedRecord ∷ []) ∙ append-nil (lasting records)

lasting_sealed : (records : List Record) → lasting (with_moved records) ≡ lasting records
lasting_sealed records = by (has_moved records)
  where
    by : (test : Bool) → lasting (if test then records else records ++ MovedRecord ∷ []) ≡ lasting records
    by true = refl
    by false = lasting_moved records

lasting_carried : (records : List Record) → lasting (carried records) ≡ lasting records
unfolding carried
lasting_carried records = lasting_in Two (unmoved records) ∙ (elim (cases_Bool (has_moved records)) [
  | inl moved ↦
      let (front, is, same) = front_of records moved in
      ap lasting same ∙ sym (lasting_moved front) ∙ sym (ap lasting is)
  | inr stays ↦ ap (λ test. lasting (if test then take (length records - 1) records else records)) stays
])

lasting_to : (records : List Record) (fate : Migration) → lasting (migrated_list records fate) ≡ lasting records
lasting_to records left_alone = refl
lasting_to records sealed = lasting_sealed records
lasting_to records carried_over = lasting_carried records

-- what lasts of a world's records, and then more
of_grown : (earlier later : World) → LastsInto earlier later → IsCarriedInto earlier later
of_grown earlier later is = record {
  records = lasting is.records;
  handed = is.handed;
  records_are = ap lasting is.records_are ∙ lasting_append earlier.state.records is.records;
  handed_are = is.handed_are;
}

carries_after : (limit : ℕ) (world : World) (event : Event) → IsCarriedInto world (after limit world event)
carries_after limit world (create spec chance) = of_grown world _ (extends_after limit world (create spec chance) tt)
carries_after limit world (reopen chance) = of_grown world _ (extends_after limit world (reopen chance) tt)
carries_after limit world (request name chance) = of_grown world _ (extends_after limit world (request name chance) tt)
carries_after limit world (retire upto fate) = of_grown world _ (extends_after limit world (retire upto fate) tt)
carries_after limit world (migrate fate) = record {
  records = [];
  handed = [];
  records_are = migrated_has (λ records. lasting records ≡ lasting world.state.records) world.state fate refl
      (λ key keyed moves. lasting_to world.state.records fate) ∙ sym (append-nil (lasting world.state.records));
  handed_are = sym (append-nil world.handed);
}
carries_after limit world stop = of_grown world _ (extends_after limit world stop tt)

carries_on : (first second third : World) → IsCarriedInto first second → IsCarriedInto second third → IsCarriedInto first third
carries_on first second third a b = record {
  records = a.records ++ b.records;
  handed = a.handed ++ b.handed;
  records_are = b.records_are ∙ ap (λ l. l ++ b.records) a.records_are ∙ append_assoc (lasting first.state.records) a.records b.records;
  handed_are = b.handed_are ∙ ap (λ l. l ++ b.handed) a.handed_are ∙ append_assoc first.handed a.handed b.handed;
}

pub carries_along : (limit : ℕ) (world : World) (events : List Event) → IsCarriedInto world (run limit world events)
carries_along limit world [] = record {
  records = [];
  handed = [];
  records_are = sym (append-nil (lasting world.state.records));
  handed_are = sym (append-nil world.handed);
}
carries_along limit world (event ∷ events) =
    carries_on world (after limit world event) (run limit world (event ∷ events)) (carries_after limit world event)
    (carries_along limit (after limit world event) events)

pub lasting_law : LastingLaw
lasting_law = record { lasts = extends_along; carries = carries_along }
