-- A chain of calls, with crashes at any moment, is a run of the world.
use Rattle.std.proofs.Common.{◌≡◌, ◌∙◌, refl, ap, subst, ℕ, suc, ◌≤◌, List, [], ◌∷◌, ◌++◌, length, Option, Some, None, append-nil, take, sym, inl, inr, arith}
use Rattle.std.proofs.lemmas.List.{take_all}
use Rattle.state_file.specs.declared.record.Key.{Key}
use Rattle.state_file.specs.declared.record.Record.{Record}
use Rattle.state_file.specs.declared.record.Secret.{Secret}
use Rattle.state_file.specs.declared.record.Secret.TheVariants.{Lms, Hss, Xmss}
use Rattle.state_file.specs.declared.store.Store as store
use Rattle.sign_core.specs.declared.key.AnyPublic.{AnyPublic}
use Rattle.sign_core.specs.Calls.{AreCalls, AreSteps, Call, CallsLaw, IsRun, IsStep, IsStoppedIn, RunStep, StoppedLaw, after_steps, ends, events_of}
use Rattle.sign_core.specs.Calls.{reached_records, stepped, stops, store_after_calls}
use Rattle.sign_core.specs.Events.{AllEvents, AreDraws, AreDrawsOf, AreFields, IsEvent, randomizer_sizes}
use Rattle.sign_core.specs.Cuts.{IsBeginning, IsLeftBy, reached}
use Rattle.sign_core.specs.Once.{IsOnce}
use Rattle.sign_core.specs.Records.{first_illegal, the_key}
use Rattle.sign_core.specs.Textbook.{any_public_of}
use Rattle.sign_core.specs.World.{Chance, Event, Opening, State, World, after, beginning, create, reopen}
use Rattle.sign_core.proofs.steps.Cases.{opened_illegal, opened_key, published}
use Rattle.sign_core.specs.World.{request, retire, run, stop, migrate}
use Rattle.sign_core.proofs.law.Acknowledged.{open_acknowledged}
use Rattle.sign_core.proofs.law.KeptByRuns.{kept_by_run}
use Rattle.sign_core.proofs.law.Once.{once}
use Rattle.sign_core.proofs.law.Crashes.{left_by_stop, stop_law}

-- ---- an opening reaches the records alone

published_reaches : (records : List Record) (public : Option AnyPublic) → reached (published records public) ≡ records
published_reaches records (Some public) = append-nil records
published_reaches records None = append-nil records

opened_on_reaches : (records : List Record) (found : Option Key) → reached (opened_key records found) ≡ records
opened_on_reaches records None = append-nil records
opened_on_reaches records (Some key) = published_reaches records (any_public_of key)

pub opened_reaches : (state : State) (chance : Opening) (illegal : Option ℕ) → reached (opened_illegal state chance illegal) ≡ state.records
opened_reaches state None None = opened_on_reaches state.records (the_key state.records)
opened_reaches state None (Some k) = append-nil state.records
opened_reaches state (Some (slot, fault)) None = append-nil state.records
opened_reaches state (Some (slot, fault)) (Some k) = append-nil state.records

whole_left : (records all left : List Record) → all ≡ records → IsBeginning (length records) all left → left ≡ records
whole_left records all left same is = is.beginning ∙ ap (take is.count) same ∙ take_all is.count records is.enough

-- ---- one step

-- what a crash at a moment of an event leaves, events that can come leave
pub stop_left : (limit : ℕ) (world : World) (event : Event) (left : List Record) → IsEvent event
    → IsBeginning (length world.state.records) (reached_records limit world event) left → IsLeftBy limit world left
stop_left limit world (create spec chance) left can is = stop_law.creates limit world spec chance left can is
stop_left limit world (reopen chance) left can is =
    left_by_stop limit world left
    (whole_left world.state.records _ left (opened_reaches world.state chance (first_illegal world.state.records)) is)
stop_left limit world (request name chance) left can is = stop_law.requests limit world name chance left can is
stop_left limit world (retire upto fate) left can is = stop_law.retires limit world upto fate left is
stop_left limit world (migrate fate) left can is = left_by_stop limit world left (whole_left world.state.records world.state.records left refl is)
stop_left limit world stop left can is = left_by_stop limit world left (whole_left world.state.records world.state.records left refl is)

step_run : (limit : ℕ) (world : World) (step : RunStep) → IsStep limit world step → IsRun limit world (stepped limit world step)
step_run limit world (ends event) can = record { events = event ∷ []; possible = (can, tt); leads = refl }
step_run limit world (stops event left) can =
    let by = stop_left limit world event left can.0 can.1 in
    record { events = by.events; possible = by.possible; leads = by.leads }

-- ---- all of them

pub run_both : (limit : ℕ) (world : World) (first later : List Event) → run limit world (first ++ later) ≡ run limit (run limit world first) later
run_both limit world [] later = refl
run_both limit world (event ∷ first) later = run_both limit (after limit world event) first later

pub all_both : (first later : List Event) → AllEvents first → AllEvents later → AllEvents (first ++ later)
all_both [] later all more = more
all_both (event ∷ first) later all more = (all.0, all_both first later all.1 more)

steps_run : (limit : ℕ) (world : World) (steps : List RunStep) → AreSteps limit world steps → IsRun limit world (after_steps limit world steps)
steps_run limit world [] all = record { events = []; possible = tt; leads = refl }
steps_run limit world (step ∷ steps) all =
    let first = step_run limit world step all.0 in
    let later = steps_run limit (stepped limit world step) steps all.1 in
    record {
      events = first.events ++ later.events;
      possible = all_both first.events later.events first.possible later.possible;
      leads = run_both limit world first.events later.events ∙ ap (λ w. run limit w later.events) first.leads ∙ later.leads;
    }

steps_once : (limit : ℕ) (steps : List RunStep) → AreSteps limit beginning steps → IsOnce limit (after_steps limit beginning steps)
steps_once limit steps all =
    let by = steps_run limit beginning steps all in
    subst (IsOnce limit) by.leads (once limit (run limit beginning by.events) (kept_by_run limit by.events by.possible))

-- ---- draws

randomizer_fields : (secret : Secret) (fields : List (List ℕ)) → AreFields (randomizer_sizes secret) fields → AreFields (32 ∷ []) fields
randomizer_fields (Lms secret) fields are = are
randomizer_fields (Hss levels identifier seed) fields are = are
randomizer_fields (Xmss secret) [] are = tt
randomizer_fields (Xmss secret) (field ∷ fields) are = absurd are

pub draws_of : (secret : Secret) (chance : Chance) → AreDrawsOf secret chance → AreDraws chance
draws_of secret chance drawn = record { trees = drawn.trees; bound = randomizer_fields secret chance.bound.fields drawn.bound }

pub calls_law : CallsLaw
calls_law = record {
  runs = steps_run;
  once = steps_once;
  acknowledged = open_acknowledged;
  draws = draws_of;
}

-- ---- calls on a store

no_call : (limit : ℕ) (world : World) (events : List Event) (left : List Record) → IsLeftBy limit world left → IsStoppedIn limit world events left
no_call limit world events left by = record { ended = 0; possible = tt; stopped = by }

one_call : (limit : ℕ) (world : World) (event : Event) (events : List Event) (left : List Record) → IsEvent event
    → IsStoppedIn limit (after limit world event) events left → IsStoppedIn limit world (event ∷ events) left
one_call limit world event events left can by = record { ended = suc by.ended; possible = (can, by.possible); stopped = by.stopped }

-- What was left since a moment before a call, a crash before the call left, or one in it.
module _ {S : Type 0} (moment : S → ℕ) (left_since : S → ℕ → List Record → Type 0) (limit : ℕ) where
  -- events that can come leave all that was left since a moment until now
  abbrev AreLeft : World → S → ℕ → Type 0
  AreLeft world store t = (list : List Record) → left_since store t list → IsLeftBy limit world list

  -- what the calls so far leave, and the later ones
  calls_stop : (t : ℕ) (world : World) (old : S) (calls : List (Call S)) (left : List Record) (P : Type 0) → t ≤ moment old
      → (left_since old t left → P) → (IsStoppedIn limit world (events_of calls) left → P) → AreCalls moment left_since limit world old calls
      → left_since (store_after_calls old calls) t left → P
  calls_stop t world old [] left P low before later are is = before is
  calls_stop t world old (call ∷ calls) left P low before later are is = elim are.0.leaves as (λ u. P) [
    | inl leaves ↦
        calls_stop t (after limit world call.event) call.store calls left P (omega (arith, low, leaves.later))
        (λ since. elim (leaves.before t left low since) as (λ u. P) [
          | inl old_one ↦ before old_one
          | inr within ↦
              later (no_call limit world (events_of (call ∷ calls)) left (stop_left limit world call.event left are.0.possible within))
        ])
        (λ by. later (one_call limit world call.event (events_of calls) left are.0.possible by)) are.1 is
    | inr same ↦
        calls_stop t (after limit world call.event) call.store calls left P (subst (λ s. t ≤ moment s) (sym same) low)
        (λ since. before (subst (λ s. left_since s t left) same since))
        (λ by. later (one_call limit world call.event (events_of calls) left are.0.possible by)) are.1 is
  ]

pub stopped_law : {S : Type 0} (g : store.Ghosts S) → StoppedLaw g
stopped_law g limit world first calls left settled are is =
    calls_stop g.moment g.left_since limit (g.moment first) world first calls left (IsStoppedIn limit world (events_of calls) left) (omega arith)
    (λ since. no_call limit world (events_of calls) left (left_by_stop limit world left (settled left since))) (λ by. by) are is
