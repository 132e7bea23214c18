-- Signers with sources of two types, as signers with sources of one: its calls, and what these hand out.
use Rattle.std.specs.Prelude.{◌≡◌, ℕ, List, Option, Result, Ok, Err}
use Rattle.state_file.specs.declared.refused.Refused.{Refused}
use Rattle.state_file.specs.declared.store.Store as store
use Rattle.sign_core.specs.declared.fault.SignFault.{SignFault}
use Rattle.sign_core.specs.declared.source.Source as source
use Rattle.sign_core.specs.Sessions.{Holder, HoldsSigner, MeetsContract, SignerCall, creates, gives_store}
use Rattle.sign_core.specs.Sessions.{handed_of_call}
use Rattle.sign_core.specs.Sessions.{key_of_call, next_holder, opens, retires, signs, with_signer, without_signer}
use Rattle.sign_core.specs.Signer.{View}

-- ---- a source of either type

pub data Either (R Q : Type 0) : Type 0 where
  first : R → Either R Q
  second : Q → Either R Q

abbrev pub failures_of : {R Q : Type 0} → source.Ghosts R → source.Ghosts Q → Either R Q → ℕ
failures_of r q (first random) = r.failures random
failures_of r q (second random) = q.failures random

abbrev pub upcoming_of : {R Q : Type 0} → source.Ghosts R → source.Ghosts Q → Either R Q → Option (List ℕ)
upcoming_of r q (first random) = r.upcoming random
upcoming_of r q (second random) = q.upcoming random

abbrev pub either : {R Q : Type 0} → source.Ghosts R → source.Ghosts Q → source.Ghosts (Either R Q)
either r q = record { failures = failures_of r q; upcoming = upcoming_of r q }

-- ---- calls, with sources of another type

abbrev pub mapped_view : {S R P : Type 0} → (R → P) → View S R → View S P
mapped_view to view = record {
  store = view.store;
  random = to view.random;
  records = view.records;
  is_open = view.is_open;
  spare = view.spare;
  cached = view.cached;
}

abbrev pub mapped_result : {S R P : Type 0} → (R → P) → Result (View S R) (Refused (S × R) SignFault)
    → Result (View S P) (Refused (S × P) SignFault)
mapped_result to (Ok view) = Ok (mapped_view to view)
mapped_result to (Err refused) =
    Err (record { fault = refused.fault; given = (refused.given.0, to refused.given.1) })

abbrev pub mapped_holder : {S R P : Type 0} → (R → P) → Holder S R → Holder S P
mapped_holder to (without_signer store) = without_signer store
mapped_holder to (with_signer view) = with_signer (mapped_view to view)

abbrev pub mapped_call : {S R P : Type 0} → (R → P) → SignerCall S R → SignerCall S P
mapped_call to (creates version spec random result) = creates version spec (to random) (mapped_result to result)
mapped_call to (opens random result) = opens (to random) (mapped_result to result)
mapped_call to (signs new name given capacity answer) = signs (mapped_view to new) name given capacity answer
mapped_call to (retires new upto answer) = retires (mapped_view to new) upto answer
mapped_call to gives_store = gives_store

-- ---- the law

-- A call meets its contract with the other sources, too. It leads to the same holder, hands out the same signatures and
-- gives the same public key.
pub record AreSameCalls {S R P : Type 0} (g : store.Ghosts S) (r : source.Ghosts R) (p : source.Ghosts P) (to : R → P)
    : Type 0 where
  pub contract : (held : Holder S R) (call : SignerCall S R) → MeetsContract g r held call
      → MeetsContract g p (mapped_holder to held) (mapped_call to call)
  pub next : (held : Holder S R) (call : SignerCall S R)
      → next_holder (mapped_holder to held) (mapped_call to call) ≡ mapped_holder to (next_holder held call)
  pub signer : (held : Holder S R) → HoldsSigner g held → HoldsSigner g (mapped_holder to held)
  pub handed : (call : SignerCall S R) → handed_of_call (mapped_call to call) ≡ handed_of_call call
  pub key : (call : SignerCall S R) → key_of_call (mapped_call to call) ≡ key_of_call call

-- So it is of the calls with sources of each of two types, as calls with sources of either.
pub record SourcesLaw {S R Q : Type 0} (g : store.Ghosts S) (r : source.Ghosts R) (q : source.Ghosts Q) : Type 0 where
  pub one : AreSameCalls g r (either r q) first
  pub other : AreSameCalls g q (either r q) second
