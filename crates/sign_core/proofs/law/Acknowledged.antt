-- While a signer is open, all its records are acknowledged.
use Rattle.std.proofs.Common.{◌≡◌, refl, ℕ, true}
use Rattle.sign_core.specs.Calls.{IsOpenAfter, acknowledged_records}
use Rattle.sign_core.specs.World.{Event, Outcome, World, after, create, create_steps, migrate, open_steps, reopen, request}
use Rattle.sign_core.specs.World.{request_steps, retire, retire_steps, stop}
use Rattle.sign_core.proofs.steps.Settled.{Any, Settles, settled_any}

-- where the signer is open, its records are the acknowledged ones
abbrev AreAll : {A : Type 0} → Outcome A → Type 0
AreAll outcome = outcome.state.is_open ≡ true → outcome.acknowledged ≡ outcome.state.records

all_settled : {A : Type 0} → Settles {A = A} Any AreAll
all_settled = record {
  answers = λ state a is. refl;
  refuses = λ state fault can is. refl;
  cuts = λ acknowledged entry left is. absurd (cc);
  draws = λ bytes outcome all. all;
  reads = λ outcome all. all;
}

pub open_acknowledged : (limit : ℕ) (world : World) (event : Event) → IsOpenAfter limit world event
    → acknowledged_records limit world event ≡ (after limit world event).state.records
open_acknowledged limit world (create spec chance) = settled_any AreAll all_settled (create_steps spec chance) world.state
open_acknowledged limit world (reopen chance) = settled_any AreAll all_settled (open_steps chance) world.state
open_acknowledged limit world (request name chance) =
    settled_any AreAll all_settled (request_steps limit name chance) world.state
open_acknowledged limit world (retire upto fate) =
    settled_any AreAll all_settled (retire_steps limit upto fate) world.state
open_acknowledged limit world (migrate fate) = λ is. refl
open_acknowledged limit world stop = λ is. refl
