-- Each event leaves sound records.
use Rattle.std.specs.Prelude.{◌≡◌, ℕ, List, [], ◌⊎◌}
use Rattle.typecodes.specs.declared.spec.Spec.{Spec}
use Rattle.state_file.specs.declared.record.Record.{Record}
use Rattle.sign_core.specs.World.{Creation, Event, State, World, create, after, created}
use Rattle.sign_core.specs.Textbook.{AllHaveSizes, AreSound}
use Rattle.sign_core.specs.Events.{IsEvent}

-- The records are sound, and each part of them has its size in bytes.
pub record AreWhole (records : List Record) : Type 0 where
  pub sound : AreSound records
  pub sizes : AllHaveSizes records

-- Each event leaves sound records sound. A create where there are none leaves sound records, or none.
pub record SoundLaw : Type 0 where
  pub stays : (limit : ℕ) (world : World) (event : Event) → IsEvent event → AreWhole world.state.records
      → AreWhole (after limit world event).state.records
  pub begins : (state : State) (spec : Spec) (chance : Creation) → IsEvent (create spec chance) → state.records ≡ []
      → ((created state spec chance).state.records ≡ []) ⊎ AreWhole (created state spec chance).state.records
