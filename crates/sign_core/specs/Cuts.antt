-- What is left where an append is cut, and where a crash comes inside an event.
use Rattle.std.specs.Prelude.{◌≡◌, ℕ, List, length, map, ◌≢◌, ◌⊎◌, ◌≤◌, ◌++◌, None, take}
use Rattle.std.specs.Option.{option_to_list}
use Rattle.typecodes.specs.declared.spec.Spec.{Spec}
use Rattle.state_file.specs.declared.record.Record.{Record}
use Rattle.sign_core.specs.World.{Chance, Creation, Draw, Event, Fate, Outcome, State, World, acked, cut_new, cut_old}
use Rattle.sign_core.specs.World.{no_memory, create, request, closed_state, created, requested, retired, run}
use Rattle.sign_core.specs.Events.{IsEvent, AllEvents}

-- ---- cuts

-- the other outcome of an append that is cut
abbrev pub turned : Fate → Fate
turned acked = acked
turned cut_old = cut_new
turned cut_new = cut_old
turned no_memory = no_memory

abbrev pub turned_draw : Draw → Draw
turned_draw draw = record { fields = draw.fields; fate = turned draw.fate }

abbrev pub turned_chance : Chance → Chance
turned_chance chance = record {
  has_room = chance.has_room;
  trees = map turned_draw chance.trees;
  bound = turned_draw chance.bound;
  given = chance.given;
}

abbrev pub turned_creation : Creation → Creation
turned_creation chance = record {
  version = chance.version;
  failed_load = chance.failed_load;
  fields = chance.fields;
  has_room = chance.has_room;
  fate = turned chance.fate;
}

-- the acknowledged records, and the one whose append was cut, if any
abbrev pub reached : {A : Type 0} → Outcome A → List Record
reached outcome = outcome.acknowledged ++ option_to_list outcome.failed

-- Two outcomes differ at most in what a cut left: the acknowledged records, or all that was reached.
pub record IsOther {A : Type 0} (first second : Outcome A) : Type 0 where
  pub answer : second.answer ≡ first.answer
  pub is_open : second.state.is_open ≡ first.state.is_open
  pub acknowledged : second.acknowledged ≡ first.acknowledged
  pub failed : second.failed ≡ first.failed
  pub drawn : second.drawn ≡ first.drawn
  pub is_read : second.is_read ≡ first.is_read
  pub uncut : first.failed ≡ None → second.state ≡ first.state
  pub left : first.failed ≢ None → ((first.state.records ≡ first.acknowledged) × (second.state.records ≡ reached first))
      ⊎ ((first.state.records ≡ reached first) × (second.state.records ≡ first.acknowledged))

-- Where an append is cut, the event with the other outcome can come as well, and leaves the other list.
pub record CutLaw : Type 0 where
  pub creates : (state : State) (spec : Spec) (chance : Creation)
      → IsOther (created state spec chance) (created state spec (turned_creation chance))
  pub requests : (limit : ℕ) (state : State) (name : List ℕ) (chance : Chance)
      → IsOther (requested limit state name chance) (requested limit state name (turned_chance chance))
  pub retires : (limit : ℕ) (state : State) (upto : ℕ) (fate : Fate)
      → IsOther (retired limit state upto fate) (retired limit state upto (turned fate))
  pub events : (spec : Spec) (creation : Creation) (name : List ℕ) (chance : Chance)
      → (IsEvent (create spec creation) → IsEvent (create spec (turned_creation creation)))
      × (IsEvent (request name chance) → IsEvent (request name (turned_chance chance)))

-- ---- crashes inside an event

-- a beginning of all, no shorter than this
pub record IsBeginning (least : ℕ) (all left : List Record) : Type 0 where
  pub count : ℕ
  pub enough : least ≤ count
  pub beginning : left ≡ take count all

-- Events that can come lead from a world to a closed one with these records, and hand out nothing.
pub record IsLeftBy (limit : ℕ) (world : World) (left : List Record) : Type 0 where
  pub events : List Event
  pub possible : AllEvents events
  pub leads : run limit world events ≡ record { state = closed_state left; handed = world.handed }

-- A crash inside an event leaves a beginning of what the event reaches, no shorter than the old records. Whole events
-- leave this as well: the event with its append cut there, or a crash alone.
pub record StopLaw : Type 0 where
  pub creates : (limit : ℕ) (world : World) (spec : Spec) (chance : Creation) (left : List Record)
      → IsEvent (create spec chance)
      → IsBeginning (length world.state.records) (reached (created world.state spec chance)) left
      → IsLeftBy limit world left
  pub requests : (limit : ℕ) (world : World) (name : List ℕ) (chance : Chance) (left : List Record)
      → IsEvent (request name chance)
      → IsBeginning (length world.state.records) (reached (requested limit world.state name chance)) left
      → IsLeftBy limit world left
  pub retires : (limit : ℕ) (world : World) (upto : ℕ) (fate : Fate) (left : List Record)
      → IsBeginning (length world.state.records) (reached (retired limit world.state upto fate)) left
      → IsLeftBy limit world left
