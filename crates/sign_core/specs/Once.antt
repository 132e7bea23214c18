-- The law over all runs: its headline (`Headline.antt`), and what requests, retirings, creates and openings answer.
use Rattle.std.specs.Prelude.{ℕ, List}
use Rattle.sign_core.specs.World.{Event, World, beginning, run}
use Rattle.sign_core.specs.Events.{AllEvents}
use Rattle.sign_core.specs.Headline.{SignsOnce}
pub use Rattle.sign_core.specs.Uses.{IsOneLeaf, IsValidUnder}
pub use Rattle.sign_core.specs.Textbook.{public_of_key}
use Rattle.sign_core.specs.Requests.{AreRequestsAnswered}
use Rattle.sign_core.specs.Retirings.{AreRetiringsAnswered}
use Rattle.sign_core.specs.Openings.{AreOpeningsAnswered}

-- What holds in a world after any events.
pub record IsOnce (limit : ℕ) (world : World) : Type 0 where
  pub signatures : SignsOnce world
  pub requests : AreRequestsAnswered limit world
  pub retirings : AreRetiringsAnswered limit world
  pub openings : AreOpeningsAnswered world

abbrev pub OnceLaw : Type 0
OnceLaw = (limit : ℕ) (events : List Event) → AllEvents events → IsOnce limit (run limit beginning events)
