-- What holds of any legal records whose parts have their sizes, whoever wrote them.
use Rattle.std.specs.Prelude.{◌≡◌, ℕ, ◌<◌, List, [], Contains, IsSome, Option, Some, None, Ok, Err, false, true}
use Rattle.std.specs.Prelude.{length, slice_get}
use Rattle.state_file.specs.Laws.{IsLegal, bottom_of}
use Rattle.state_file.specs.declared.record.Bound.{Bound}
use Rattle.state_file.specs.declared.record.Key.{Key}
use Rattle.state_file.specs.declared.record.Record.{Record}
use Rattle.sign_core.specs.declared.key.AnyPublic.{AnyPublic}
use Rattle.sign_core.specs.Events.{AllEvents, AreDraws, IsEvent}
use Rattle.sign_core.specs.Headline.{IsValidUnder}
use Rattle.sign_core.specs.Textbook.{public_of_key}
use Rattle.sign_core.specs.Openings.{Reopens}
use Rattle.sign_core.specs.declared.fault.SignFault.TheVariants.{Damaged}
use Rattle.sign_core.specs.Records.{binding_at, deepest, the_key}
use Rattle.sign_core.specs.Textbook.{AllHaveSizes, tree_chain, is_sound_at, current_at}
use Rattle.sign_core.specs.World.{Chance, Event, Handed, State, World, after, requested, run}

-- They are legal, and each part has its size in bytes.
pub record AreWellFormed (records : List Record) : Type 0 where
  pub legal : IsLegal records
  pub sizes : AllHaveSizes records

-- The bytes are a valid signature of the message under the public key of record 0.
pub record IsValidOver (records : List Record) (message signature : List ℕ) : Type 0 where
  pub public : AnyPublic
  pub keyed : public_of_key (the_key records) ≡ Some public
  pub verifies : IsValidUnder public message signature

-- The record at `slot` is the first that isn't sound in the chain from the Key's tree down to this one.
pub record IsFirstDamaged (key : Key) (records : List Record) (level tree slot : ℕ) : Type 0 where
  pub place : ℕ
  pub is : slice_get (tree_chain level records tree) place ≡ Some slot
  pub damaged : is_sound_at key records slot ≡ false
  pub above : (i k : ℕ) → i < place → slice_get (tree_chain level records tree) i ≡ Some k
      → is_sound_at key records k ≡ true

-- The record at `slot` is the first that isn't sound in the chain of a name's binding, or, for a new name, in the chain
-- by which it signs.
abbrev pub IsDamagedFor : Key → List Record → Option (ℕ × Bound) → (slot : ℕ) → Type 0
IsDamagedFor key records (Some (k, bound)) slot =
    IsFirstDamaged key records (bottom_of key.secret) (current_at (bottom_of key.secret) records k) slot
IsDamagedFor key records None slot = (level : ℕ) × (deepest key.secret records ≡ Some level)
    × IsFirstDamaged key records level (current_at level records (length records)) slot

pub record OpenedLaw : Type 0 where
  -- they are opened, where nothing fails
  pub reopens : (state : State) → AreWellFormed state.records → Reopens state
  -- each event leaves legal records
  pub legal : (limit : ℕ) (world : World) (event : Event) → IsEvent event → AreWellFormed world.state.records
      → AreWellFormed (after limit world event).state.records
  -- where a request gives a signature, its message was read
  pub read : (limit : ℕ) (state : State) (name signature : List ℕ) (chance : Chance)
      → (requested limit state name chance).answer ≡ Ok signature
      → IsSome chance.given × ((requested limit state name chance).is_read ≡ true)
  -- a signature that a request gives, under a new name or a bound one, is valid for the message that was read
  pub valid : (limit : ℕ) (state : State) (name message signature : List ℕ) (chance : Chance)
      → AreWellFormed state.records → AreDraws chance → chance.given ≡ Some message
      → (requested limit state name chance).answer ≡ Ok signature → IsValidOver state.records message signature
  -- and so is each that any events from there on hand out
  pub handed : (limit : ℕ) (world : World) (events : List Event) (x : Handed)
      → AreWellFormed world.state.records → world.handed ≡ [] → AllEvents events
      → Contains (run limit world events).handed x → IsValidOver world.state.records x.message x.signature
  -- 28 names the first damaged record of the name's chain, from the top down, and changes nothing
  pub damaged : (limit : ℕ) (state : State) (name : List ℕ) (chance : Chance) (key : Key) (slot : ℕ)
      → the_key state.records ≡ Some key → (requested limit state name chance).answer ≡ Err (Damaged slot)
      → IsDamagedFor key state.records (binding_at state.records name) slot
      × ((requested limit state name chance).state ≡ state)
