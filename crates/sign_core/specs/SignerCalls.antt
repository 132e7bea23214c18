-- A signer's calls over an honest store as calls of the world: what each leaves and hands out, and what a crash in it
-- leaves.
use Rattle.std.specs.Prelude.{◌≡◌, ℕ, IsTrue, true, false, List, [], ◌∷◌, ◌++◌, Result, Ok, Err}
use Rattle.typecodes.specs.declared.message.Message as message
use Rattle.typecodes.specs.Message.{ReadWhole}
use Rattle.typecodes.specs.Name.{IsName}
use Rattle.typecodes.specs.declared.spec.Spec.{Spec}
use Rattle.typecodes.specs.Spec.{IsSpec}
use Rattle.state_file.specs.declared.refused.Refused.{Refused}
use Rattle.state_file.specs.declared.record.Record.{Record}
use Rattle.state_file.specs.declared.store.Store as store
use Rattle.sign_core.specs.declared.fault.SignFault.{SignFault}
use Rattle.sign_core.specs.declared.fault.SignFault.TheVariants.{Stopped}
use Rattle.sign_core.specs.declared.source.Source as source
use Rattle.sign_core.specs.Calls.{IsCall, IsLastingCall}
use Rattle.sign_core.specs.Signer.{Creates, IsAnswered, IsSigner, OpensRecords, Retires, Signs, View, state_of}
use Rattle.sign_core.specs.Signer.{store_of_result}
use Rattle.sign_core.specs.World.{Event, Handed, State, World, after, closed_state, create, reopen, request, retire}
use Rattle.state_file.specs.declared.record.Version.{Version}

abbrev pub world_of : State → List Handed → World
world_of state handed = record { state = state; handed = handed }

-- The event can come, and is this call on the store: a crash at any moment leaves what a crash of the event leaves.
-- Honesty stays.
pub record IsEventOf {S : Type 0} (g : store.Ghosts S) (limit : ℕ) (world : World) (event : Event) (old new : S)
    : Type 0 where
  pub is_call : IsCall g.moment g.left_since limit world old (record { event = event; store = new })
  pub honest : g.honest new ≡ g.honest old

-- the signer is open after it as the world is, and then on the same records
pub record IsAfter {S R : Type 0} (new : View S R) (left : World) : Type 0 where
  pub is_open : left.state.is_open ≡ new.is_open
  pub state : new.is_open ≡ true → left.state ≡ state_of new

-- What a request hands out: on Ok its signature, for the message that was read to its end.
abbrev pub HandsOut : {M : Type 0} → message.Ghosts M → (name : List ℕ) → (before after : M)
    → Result (List ℕ) SignFault → (old new : List Handed) → Type 0
HandsOut m name before after (Ok signature) old new = (text : List ℕ)
    × ReadWhole m.transition m.remaining text before after
    × (new ≡ old ++ record { name = name; message = text; signature = signature } ∷ [])
HandsOut m name before after (Err fault) old new = new ≡ old

-- a call of sign, as this event
pub record SignsInWorld {S R M : Type 0} (g : store.Ghosts S) (m : message.Ghosts M) (handed : List Handed)
    (event : Event) (old new : View S R) (name : List ℕ) (before later : M) (answer : Result (List ℕ) SignFault)
    : Type 0 where
  pub is : IsEventOf g (g.most old.store) (world_of (state_of old) handed) event old.store new.store
  pub leaves : IsAfter new (after (g.most old.store) (world_of (state_of old) handed) event)
  pub hands : HandsOut m name before later answer handed
      (after (g.most old.store) (world_of (state_of old) handed) event).handed

-- a call of retire, as this event
pub record RetiresInWorld {S R : Type 0} (g : store.Ghosts S) (handed : List Handed) (event : Event)
    (old new : View S R) : Type 0 where
  pub is : IsEventOf g (g.most old.store) (world_of (state_of old) handed) event old.store new.store
  pub leaves : IsAfter new (after (g.most old.store) (world_of (state_of old) handed) event)
  pub hands : (after (g.most old.store) (world_of (state_of old) handed) event).handed ≡ handed

-- what a create or an opening leaves: a signer open on the world's records; or no open signer, and the world on the
-- records of the store handed back
abbrev pub OpensIn : {S R : Type 0} → store.Ghosts S → Result (View S R) (Refused (S × R) SignFault) → World → Type 0
OpensIn g (Ok signer) left = IsAfter signer left
OpensIn g (Err refused) left = left.state ≡ closed_state (g.list refused.given.0)

-- A create or an opening of a store whose records these are, with no signer open, as this event.
pub record OpensInWorld {S R : Type 0} (g : store.Ghosts S) (records : List Record) (handed : List Handed)
    (event : Event) (kept_in : S) (result : Result (View S R) (Refused (S × R) SignFault)) : Type 0 where
  pub is : IsEventOf g (g.most kept_in) (world_of (closed_state records) handed) event kept_in (store_of_result result)
  pub leaves : OpensIn g result (after (g.most kept_in) (world_of (closed_state records) handed) event)
  pub hands : (after (g.most kept_in) (world_of (closed_state records) handed) event).handed ≡ handed

pub record IsRunning {S : Type 0} (g : store.Ghosts S) (kept_in : S) : Type 0 where
  pub running : g.stopped kept_in ≡ false
  pub honest : IsTrue (g.honest kept_in)

pub record IsOpenSigner {S R : Type 0} (g : store.Ghosts S) (view : View S R) : Type 0 where
  pub signer : IsSigner g view
  pub is_open : view.is_open ≡ true
  pub honest : IsTrue (g.honest view.store)

pub record AreClosed {S R : Type 0} (view : View S R) (world : World) : Type 0 where
  pub is_closed : view.is_open ≡ false
  pub none_open : world.state.is_open ≡ false

-- A call of a closed signer answers 26, and leaves the signer closed and the store as it was. It is this event, which
-- leaves the world as it was, and so hands nothing out.
pub record IsRefusedCall {S R A : Type 0} (g : store.Ghosts S) (world : World) (event : Event) (old new : View S R)
    (answer : Result A SignFault) : Type 0 where
  pub answer_is : answer ≡ Err Stopped
  pub is_open : new.is_open ≡ false
  pub store : new.store ≡ old.store
  pub is_call : IsCall g.moment g.left_since (g.most old.store) world old.store
      (record { event = event; store = new.store })
  pub stays : after (g.most old.store) world event ≡ world

-- A create or an opening on a store that has stopped answers 26, and hands the store back as it was. It is this event,
-- which leaves the world as it was.
pub record IsRefusedOpening {S R : Type 0} (g : store.Ghosts S) (world : World) (event : Event) (kept_in : S)
    (result : Result (View S R) (Refused (S × R) SignFault)) : Type 0 where
  pub refused : Refused (S × R) SignFault
  pub result_is : result ≡ Err refused
  pub fault : refused.fault ≡ Stopped
  pub store : refused.given.0 ≡ kept_in
  pub is_call : IsCall g.moment g.left_since (g.most kept_in) world kept_in
      (record { event = event; store = refused.given.0 })
  pub stays : after (g.most kept_in) world event ≡ world

-- Over an honest store each call of an open signer, each create and each opening is the event of the world in its
-- contract; of an opening `OpensRecords` is that part, whichever way it reads. Over any store a call of a closed signer
-- is an event that leaves the world as it was. So is a create or an opening on a store that has stopped.
pub record SignerLaw {S R M : Type 0} (g : store.Ghosts S) (r : source.Ghosts R) (m : message.Ghosts M) : Type 0 where
  pub signs : (old new : View S R) (name : List ℕ) (before later : M) (capacity : ℕ)
      (answer : Result (List ℕ) SignFault) (handed : List Handed) → IsOpenSigner g old → IsName name
      → (signs : Signs g r m old new name before later capacity answer)
      → SignsInWorld g m handed (request name signs.answers.chance) old new name before later answer
  pub retires : (old new : View S R) (upto : ℕ) (answer : Result (Unit {0}) SignFault) (handed : List Handed)
      → IsOpenSigner g old → (retires : Retires g old new upto answer)
      → RetiresInWorld g handed (retire upto retires.fate) old new
  -- a closed signer, where the world has none open, on any records
  pub refuses : (old new : View S R) (name : List ℕ) (before later : M) (capacity : ℕ)
      (answer : Result (List ℕ) SignFault) (world : World) → AreClosed old world → IsName name
      → (signs : Signs g r m old new name before later capacity answer)
      → IsRefusedCall g world (request name signs.answers.chance) old new answer
  pub refuses_retiring : (old new : View S R) (upto : ℕ) (answer : Result (Unit {0}) SignFault) (world : World)
      → AreClosed old world → (retires : Retires g old new upto answer)
      → IsRefusedCall g world (retire upto retires.fate) old new answer
  pub creates : (version : Version) (spec : Spec) (kept_in : S) (random : R)
      (result : Result (View S R) (Refused (S × R) SignFault))
      (handed : List Handed) → IsRunning g kept_in → IsSpec spec
      → (creates : Creates g r version spec kept_in random result)
      → OpensInWorld g (g.list kept_in) handed (create spec creates.chance) kept_in result
  pub opens : (kept_in : S) (random : R) (result : Result (View S R) (Refused (S × R) SignFault))
      (handed : List Handed) → IsRunning g kept_in
      → (opens : OpensRecords g kept_in (store_of_result result) (IsAnswered result))
      → OpensInWorld g (g.list kept_in) handed (reopen opens.chance) kept_in result
  -- a store that has stopped, with any records in the world
  pub refuses_creating : (version : Version) (spec : Spec) (kept_in : S) (random : R)
      (result : Result (View S R) (Refused (S × R) SignFault)) (world : World) → g.stopped kept_in ≡ true → IsSpec spec
      → (creates : Creates g r version spec kept_in random result)
      → IsRefusedOpening g world (create spec creates.chance) kept_in result
  pub refuses_opening : (kept_in : S) (random : R) (result : Result (View S R) (Refused (S × R) SignFault))
      (world : World) → g.stopped kept_in ≡ true
      → (opens : OpensRecords g kept_in (store_of_result result) (IsAnswered result))
      → IsRefusedOpening g world (reopen opens.chance) kept_in result
  -- before a first call a crash leaves the records of an open signer, and of a store that runs
  pub settled : (view : View S R) (left : List Record) → IsOpenSigner g view
      → g.left_since view.store (g.moment view.store) left → left ≡ view.records
  pub running : (kept_in : S) (left : List Record) → IsRunning g kept_in
      → g.left_since kept_in (g.moment kept_in) left → left ≡ g.list kept_in
  -- a call lasts if the signer is open after it as the world is, or if the world has none open
  pub lasts : (limit : ℕ) (world : World) (event : Event) (old : S) (new : View S R)
      → IsEventOf g limit world event old new.store → IsTrue (g.honest old) → IsSigner g new
      → IsAfter new (after limit world event)
      → IsLastingCall g limit world old (record { event = event; store = new.store })
  pub lasts_closed : (limit : ℕ) (world : World) (event : Event) (old new : S) → IsEventOf g limit world event old new
      → (after limit world event).state.is_open ≡ false
      → IsLastingCall g limit world old (record { event = event; store = new })
