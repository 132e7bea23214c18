-- A request that is answered leaves the signer open.
use Rattle.std.proofs.Common.{drop, ◌≡◌, ◌∙◌, refl, sym, ap, ℕ, inl, inr, zero, suc, ◌-◌, true, List, [], ◌∷◌, ◌++◌, Option, Some, None, Ok}
use Rattle.std.proofs.Common.{Err}
use Rattle.std.proofs.lemmas.Bool.{cases_Bool}
use Rattle.state_file.specs.Laws.{bottom_of}
use Rattle.state_file.specs.declared.record.Key.{Key}
use Rattle.state_file.specs.declared.record.Record.{Record}
use Rattle.sign_core.specs.declared.fault.SignFault.TheVariants.{Stopped}
use Rattle.sign_core.specs.Records.{has_identifier, the_key, next_at}
use Rattle.sign_core.specs.Textbook.{Trees, trees_of}
use Rattle.sign_core.specs.World.{Chance, Draw, Fate, Outcome, State, acked, answered, appended, cut_new, cut_old}
use Rattle.sign_core.proofs.steps.Cases.{bound_message}
use Rattle.sign_core.specs.World.{first_draw, no_memory, open_state, randomizer_of_fields, requested}
use Rattle.sign_core.specs.inner.Cases.{extended, bound_trees}
use Rattle.sign_core.proofs.steps.Cases.{extended_identifier, extended_seed}
use Rattle.sign_core.proofs.law.DrawsOfRequests.{IsSettled, settled_repeated, settled_key}
use Rattle.sign_core.proofs.law.KeptByEvents.{kept_choice}
use Rattle.sign_core.proofs.law.Once.{closed_key}

abbrev StaysOpen : Outcome (List ℕ) → Type 0
StaysOpen outcome = (signature : List ℕ) → outcome.answer ≡ Ok signature → outcome.state.is_open ≡ true

open_append : (records : List Record) (entry : Record) (fate : Fate) (next : List Record → Outcome (List ℕ))
    → ((all : List Record) → StaysOpen (next all)) → StaysOpen (appended (open_state records) entry fate next)
open_append records entry acked next later = later (records ++ entry ∷ [])
open_append records entry cut_old next later = λ signature is. absurd (cc)
open_append records entry cut_new next later = λ signature is. absurd (cc)
open_append records entry no_memory next later = λ signature is. refl

open_bound : (records : List Record) (key : Key) (name : List ℕ) (randomizer given : Option (List ℕ)) (fate : Fate)
    → StaysOpen (bound_message (open_state records) key name randomizer given fate)
open_bound records key name None given fate = λ signature is. refl
open_bound records key name (Some randomizer) None fate = λ signature is. refl
open_bound records key name (Some randomizer) (Some message) fate =
    open_append records _ fate (λ all. answered (open_state all) _) (λ all signature is. refl)

open_seed : (records : List Record) (trees : Trees) (level leaf : ℕ) (identifier : List ℕ) (fields : List (List ℕ)) (fate : Fate)
    (next : List Record → Outcome (List ℕ)) → ((all : List Record) → StaysOpen (next all))
    → StaysOpen (extended_seed (open_state records) trees level leaf identifier fields fate next)
open_seed records trees level leaf identifier [] fate next later = λ signature is. refl
open_seed records trees level leaf identifier (seed ∷ []) fate next later = λ signature is. refl
open_seed records trees level leaf identifier (seed ∷ randomizer ∷ []) fate next later = open_append records _ fate next later
open_seed records trees level leaf identifier (seed ∷ randomizer ∷ more ∷ rest) fate next later = λ signature is. refl

open_identifier : (records : List Record) (trees : Trees) (level leaf : ℕ) (fields : List (List ℕ)) (fate : Fate)
    (next : List Record → Outcome (List ℕ)) → ((all : List Record) → StaysOpen (next all))
    → StaysOpen (extended_identifier (open_state records) trees level leaf fields fate next)
open_identifier records trees level leaf [] fate next later = λ signature is. refl
open_identifier records trees level leaf (identifier ∷ fields) fate next later =
    kept_choice StaysOpen (has_identifier records identifier) _ _ (λ there signature is. refl)
    (λ new. open_seed records trees level leaf identifier fields fate next later)

open_extended : (records : List Record) (key : Key) (level : ℕ) (trees : Option Trees) (draw : Draw) (next : List Record → Outcome (List ℕ))
    → ((all : List Record) → StaysOpen (next all)) → StaysOpen (extended (open_state records) key level trees draw next)
open_extended records key level None draw next later = λ signature is. refl
open_extended records key level (Some trees) draw next later =
    open_identifier records trees level (next_at key.secret records (level - 1)) draw.fields draw.fate next later

open_bound_below : (key : Key) (name : List ℕ) (chance : Chance) (below : ℕ) (draws : List Draw) (records : List Record)
    → StaysOpen (bound_trees key name chance below draws records)
open_bound_below key name chance zero draws records =
    open_bound records key name (randomizer_of_fields key.secret chance.bound.fields) chance.given chance.bound.fate
open_bound_below key name chance (suc below) draws records =
    open_extended records key (bottom_of key.secret - below) (trees_of key.secret) (first_draw draws)
    (bound_trees key name chance below (drop 1 draws)) (open_bound_below key name chance below (drop 1 draws))

pub signed_open : (limit : ℕ) (state : State) (name signature : List ℕ) (chance : Chance)
    → (requested limit state name chance).answer ≡ Ok signature → (requested limit state name chance).state.is_open ≡ true
signed_open limit state name signature chance is = elim (cases_Bool state.is_open) [
  | inl open_now ↦
      let settled : IsSettled StaysOpen state =
      record { refused_for = λ fault other signature is. absurd (cc); gives = λ own signature is. open_now; read = λ outcome opens. opens } in
      settled_key StaysOpen limit state name chance settled.refused_for (the_key state.records) refl
      (λ key k bound is. settled_repeated StaysOpen state chance settled key k bound chance.given)
      (λ key level wants. open_bound_below key name chance (bottom_of key.secret - level) chance.trees state.records) signature is
  | inr closed ↦
      let same = ap (λ (o : Outcome (List ℕ)). o.answer) (closed_key limit state name chance (the_key state.records) closed) in
      let apart : Ok signature ≡ Err Stopped = sym is ∙ same in
      absurd (cc (apart))
]
