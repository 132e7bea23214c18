-- What the law over all runs says of creates and openings.
use Rattle.std.specs.Prelude.{◌≡◌, [], ℕ, ◌∷◌, ◌≢◌, ◌⊎◌, true, Some, None, Err}
use Rattle.sign_core.specs.declared.key.AnyPublic.{AnyPublic}
use Rattle.std.specs.List.{concat}
use Rattle.typecodes.specs.declared.spec.Spec.{Spec}
use Rattle.typecodes.specs.Spec.{IsSpec}
use Rattle.state_file.specs.declared.record.Key.{Key}
use Rattle.state_file.specs.declared.record.Record.TheVariants.{Key as KeyRecord}
use Rattle.state_file.specs.declared.record.Secret.{Secret}
use Rattle.sign_core.specs.declared.fault.SignFault.TheVariants.{DeviceFailed, Illegal, NoMemoryToOpen, Stopped}
use Rattle.sign_core.specs.declared.fault.SignFault.TheVariants.{Unreadable}
use Rattle.sign_core.specs.Records.{the_key}
use Rattle.sign_core.specs.World.{Creation, Opening, State, World, acked, answered, created, drawing, new_key}
use Rattle.sign_core.specs.World.{open_state, opened, secret_of_fields}
use Rattle.sign_core.specs.Textbook.{AreSound, any_public_of}
use Rattle.sign_core.specs.Textbook.{public_of_key}

-- A create begins this key: its record is the only one, the signer is open on it, and the public key is answered.
pub record BeginsKey (state : State) (spec : Spec) (chance : Creation) (key : Key) : Type 0 where
  pub public : AnyPublic
  pub is_public : any_public_of key ≡ Some public
  pub begins : created state spec chance
      ≡ drawing (concat chance.fields) (answered (open_state (KeyRecord key ∷ [])) public)

-- An opening where nothing fails opens the signer on the records, and answers the public key of record 0.
pub record Reopens (state : State) : Type 0 where
  pub public : AnyPublic
  pub keyed : public_of_key (the_key state.records) ≡ Some public
  pub opens : opened state None ≡ answered (open_state state.records) public

-- what stops an opening at a slot
abbrev pub CanStopOpening : Opening → Type 0
CanStopOpening None = Unit {0}
CanStopOpening (Some (slot, fault)) =
    (fault ≡ Stopped) ⊎ (fault ≡ Unreadable slot) ⊎ (fault ≡ DeviceFailed) ⊎ (fault ≡ NoMemoryToOpen)

pub record AreOpeningsAnswered (world : World) : Type 0 where
  -- a create where no record stands begins a key and answers its public key, where nothing fails
  pub begins : (spec : Spec) (secret : Secret) (chance : Creation) → IsSpec spec → world.state.records ≡ []
      → chance.failed_load ≡ None → secret_of_fields spec chance.fields ≡ Some secret → chance.has_room ≡ true
      → chance.fate ≡ acked
      → BeginsKey world.state spec chance (new_key chance.version secret)
  -- there are no records, or they are sound
  pub sound : (world.state.records ≡ []) ⊎ AreSound world.state.records
  -- so no opening is refused for records that aren't legal
  pub legal : (chance : Opening) (slot : ℕ) → CanStopOpening chance
      → (opened world.state chance).answer ≢ Err (Illegal slot)
  -- an opening where nothing fails opens the signer on the records and answers the public key, where there is a key
  pub reopens : (key : Key) → the_key world.state.records ≡ Some key → Reopens world.state
