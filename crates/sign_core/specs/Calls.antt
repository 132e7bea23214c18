-- Chains of calls: each ends, or a crash comes at a moment of it.
use Rattle.std.specs.Prelude.{◌≡◌, ◌⊎◌, ℕ, List, [], ◌∷◌, length, map, take, true}
use Rattle.state_file.specs.declared.record.Record.{Record}
use Rattle.state_file.specs.declared.record.Secret.{Secret}
use Rattle.state_file.specs.declared.store.Store as store
use Rattle.state_file.specs.Disk.{LeavesOnly}
use Rattle.sign_core.specs.Events.{AllEvents, AreDraws, AreDrawsOf, IsEvent}
use Rattle.sign_core.specs.Cuts.{IsBeginning, IsLeftBy, reached}
use Rattle.sign_core.specs.Once.{IsOnce}
use Rattle.sign_core.specs.World.{Chance, Event, World, after, beginning, closed_state, create, created, opened, reopen}
use Rattle.sign_core.specs.World.{migrate, migrated, request, requested, retire, retired, run, stop}

-- An event ends; or a crash comes at a moment of it, or after its append failed and before the next opening, and leaves
-- these records.
pub data RunStep : Type 0 where
  ends : Event → RunStep
  stops : Event → (left : List Record) → RunStep

-- The records that an event reaches. What a crash in a migration leaves, some whole migration leaves.
abbrev pub reached_records : (limit : ℕ) → World → Event → List Record
reached_records limit world (create spec chance) = reached (created world.state spec chance)
reached_records limit world (reopen chance) = reached (opened world.state chance)
reached_records limit world (request name chance) = reached (requested limit world.state name chance)
reached_records limit world (retire upto fate) = reached (retired limit world.state upto fate)
reached_records limit world (migrate fate) = world.state.records
reached_records limit world stop = world.state.records

abbrev pub acknowledged_records : (limit : ℕ) → World → Event → List Record
acknowledged_records limit world (create spec chance) = (created world.state spec chance).acknowledged
acknowledged_records limit world (reopen chance) = (opened world.state chance).acknowledged
acknowledged_records limit world (request name chance) = (requested limit world.state name chance).acknowledged
acknowledged_records limit world (retire upto fate) = (retired limit world.state upto fate).acknowledged
acknowledged_records limit world (migrate fate) = (migrated world.state fate).records
acknowledged_records limit world stop = world.state.records

abbrev pub IsOpenAfter : (limit : ℕ) → World → Event → Type 0
IsOpenAfter limit world event = (after limit world event).state.is_open ≡ true

-- The step can come: a crash leaves a beginning of the records that the event reaches, no shorter than the old records.
abbrev pub IsStep : (limit : ℕ) → World → RunStep → Type 0
IsStep limit world (ends event) = IsEvent event
IsStep limit world (stops event left) =
    IsEvent event × IsBeginning (length world.state.records) (reached_records limit world event) left

-- the world after it; a crash hands nothing out, and leaves no signer open
abbrev pub stepped : (limit : ℕ) → World → RunStep → World
stepped limit world (ends event) = after limit world event
stepped limit world (stops event left) = record { state = closed_state left; handed = world.handed }

abbrev pub AreSteps : (limit : ℕ) → World → List RunStep → Type 0
AreSteps limit world [] = Unit {0}
AreSteps limit world (step ∷ steps) = IsStep limit world step × AreSteps limit (stepped limit world step) steps

abbrev pub after_steps : (limit : ℕ) → World → List RunStep → World
after_steps limit world [] = world
after_steps limit world (step ∷ steps) = after_steps limit (stepped limit world step) steps

-- Events that can come lead from one world to another.
pub record IsRun (limit : ℕ) (before left : World) : Type 0 where
  pub events : List Event
  pub possible : AllEvents events
  pub leads : run limit before events ≡ left

pub record CallsLaw : Type 0 where
  -- a chain of calls, with crashes at any moment, is a run of the world
  pub runs : (limit : ℕ) (world : World) (steps : List RunStep) → AreSteps limit world steps
      → IsRun limit world (after_steps limit world steps)
  -- so the law over all runs holds after it
  pub once : (limit : ℕ) (steps : List RunStep) → AreSteps limit beginning steps
      → IsOnce limit (after_steps limit beginning steps)
  -- while a signer is open, all its records are acknowledged
  pub acknowledged : (limit : ℕ) (world : World) (event : Event) → IsOpenAfter limit world event
      → acknowledged_records limit world event ≡ (after limit world event).state.records
  -- draws under a key are draws of an event
  pub draws : (secret : Secret) (chance : Chance) → AreDrawsOf secret chance → AreDraws chance

-- ---- calls on a store

-- An event as a call on a store, and the store after it.
pub record Call (S : Type 0) : Type 0 where
  pub event : Event
  pub store : S

-- The event can come. A crash at any moment of the call leaves a beginning of the records that the event reaches, no
-- shorter than the old records. Or the call leaves the store as it was.
pub record IsCall {S : Type 0} (moment : S → ℕ) (left_since : S → ℕ → List Record → Type 0) (limit : ℕ)
    (world : World) (old : S) (call : Call S) : Type 0 where
  pub possible : IsEvent call.event
  pub leaves : LeavesOnly moment left_since old call.store
      (IsBeginning (length world.state.records) (reached_records limit world call.event))
      ⊎ (call.store ≡ old)

-- A call that lasts: while a signer is open after it, a crash then leaves the world's records, and nothing else.
-- Honesty stays. That a crash leaves what some events leave says nothing of a signature handed out before: events
-- without it may leave the same. So a chain of lives needs calls that last.
pub record IsLastingCall {S : Type 0} (g : store.Ghosts S) (limit : ℕ) (world : World) (old : S) (call : Call S)
    : Type 0 where
  pub is_call : IsCall g.moment g.left_since limit world old call
  pub honest : g.honest call.store ≡ g.honest old
  pub lasts : IsOpenAfter limit world call.event → (left : List Record)
      → g.left_since call.store (g.moment call.store) left → left ≡ (after limit world call.event).state.records

abbrev pub AreCalls : {S : Type 0} (moment : S → ℕ) (left_since : S → ℕ → List Record → Type 0) (limit : ℕ)
    → World → (old : S) → List (Call S) → Type 0
AreCalls moment left_since limit world old [] = Unit {0}
AreCalls moment left_since limit world old (call ∷ calls) = IsCall moment left_since limit world old call
    × AreCalls moment left_since limit (after limit world call.event) call.store calls

abbrev pub AreLastingCalls : {S : Type 0} → store.Ghosts S → (limit : ℕ) → World → (old : S) → List (Call S) → Type 0
AreLastingCalls g limit world old [] = Unit {0}
AreLastingCalls g limit world old (call ∷ calls) = IsLastingCall g limit world old call
    × AreLastingCalls g limit (after limit world call.event) call.store calls

abbrev pub store_after_calls : {S : Type 0} (old : S) → List (Call S) → S
store_after_calls old [] = old
store_after_calls old (call ∷ calls) = store_after_calls call.store calls

abbrev pub events_of : {S : Type 0} → List (Call S) → List Event
events_of calls = map (λ call. call.event) calls

-- The first `ended` events end, and then events that can come leave these records, and hand nothing out.
pub record IsStoppedIn (limit : ℕ) (world : World) (events : List Event) (left : List Record) : Type 0 where
  pub ended : ℕ
  pub possible : AllEvents (take ended events)
  pub stopped : IsLeftBy limit (run limit world (take ended events)) left

-- What a crash leaves, at any moment since the first of these calls, a run of the world leaves.
abbrev pub StoppedLaw : {S : Type 0} → store.Ghosts S → Type 0
StoppedLaw {S = S} g = (limit : ℕ) (world : World) (first : S) (calls : List (Call S)) (left : List Record)
    → ((list : List Record) → g.left_since first (g.moment first) list → list ≡ world.state.records)
    → AreCalls g.moment g.left_since limit world first calls
    → g.left_since (store_after_calls first calls) (g.moment first) left
    → IsStoppedIn limit world (events_of calls) left
