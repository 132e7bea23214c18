-- The calls of signers in the lives of one disk: what each was given and answered, by its own contract, and what was
-- handed out.
use Rattle.std.specs.Prelude.{◌≡◌, ◌≢◌, ◌⊎◌, List, [], ◌∷◌, ◌++◌, ℕ, IsTrue, true, Option, Some, None, IsSome, Result}
use Rattle.std.specs.Prelude.{Ok, Err, unwrap_or}
use Rattle.typecodes.specs.declared.message.Message as message
use Rattle.typecodes.specs.declared.spec.Spec.{Spec}
use Rattle.typecodes.specs.Name.{IsName}
use Rattle.typecodes.specs.Spec.{IsSpec}
use Rattle.state_file.specs.declared.disk.Disk as disk
use Rattle.state_file.specs.declared.file.format.FormatFault.{FormatFault}
use Rattle.state_file.specs.declared.file.opening.OpenFault.{OpenFault}
use Rattle.state_file.specs.declared.migration.MigrateFault.{MigrateFault}
use Rattle.state_file.specs.declared.record.Version.{Version}
use Rattle.state_file.specs.declared.refused.Refused.{Refused}
use Rattle.state_file.specs.declared.store.Store as store
use Rattle.state_file.specs.declared.store.file_store.FileStore.{FileStore}
use Rattle.state_file.specs.Disk.{MayLeave}
use Rattle.state_file.specs.File.{HasNoKey}
use Rattle.state_file.specs.FileStore.{FindsRecords, PreparesDisk, disk_of, disk_of_result}
use Rattle.sign_core.specs.declared.fault.ServeFault.{ServeFault}
use Rattle.sign_core.specs.declared.fault.SignFault.{SignFault}
use Rattle.sign_core.specs.declared.fault.SignFault.TheVariants.{Moved, Stopped}
use Rattle.sign_core.specs.declared.key.AnyPublic.{AnyPublic}
use Rattle.sign_core.specs.declared.serving.Reply.{Reply}
use Rattle.sign_core.specs.declared.serving.Reply.TheVariants.{BadName, Refused as RefusedReply, Signed}
use Rattle.sign_core.specs.declared.source.Source as source
use Rattle.sign_core.specs.Frames.{Request, given_message}
use Rattle.sign_core.specs.Lives.{IsAtStart}
use Rattle.sign_core.specs.Migration.{Migrates}
use Rattle.sign_core.specs.Records.{binding_at, the_key}
use Rattle.sign_core.specs.Serving.{Exchange, Serves, SignsGiven}
use Rattle.sign_core.specs.Signer.{Creates, IsRead, IsSigner, KeepsForRepeat, Opens, OpensReplayed, Retires, Signs}
use Rattle.sign_core.specs.Signer.{View, is_before_repeat, is_fault}
use Rattle.sign_core.specs.Textbook.{public_of_key}
use Rattle.sign_core.specs.World.{Handed}

-- ---- calls

-- A store that no signer has, or a signer with its store.
pub data Holder (S R : Type 0) : Type 0 where
  without_signer : S → Holder S R
  with_signer : View S R → Holder S R

abbrev pub store_held : {S R : Type 0} → Holder S R → S
store_held (without_signer store) = store
store_held (with_signer view) = view.store

-- A signer has its invariant, as `Signer::keeps_invariant` says.
abbrev pub HoldsSigner : {S R : Type 0} → store.Ghosts S → Holder S R → Type 0
HoldsSigner g (without_signer store) = Unit {0}
HoldsSigner g (with_signer view) = IsSigner g view

-- A call: what it was given and answered, and the signer after it. `opens` is `open` or `open_replayed`. `signs` is a
-- request, to `sign` or to a serve: its message gave this text, or None where it can't be read (`IsRequest`).
-- `gives_store` is `into_store`, or no call.
pub data SignerCall (S R : Type 0) : Type 0 where
  creates : Version → Spec → (random : R) → Result (View S R) (Refused (S × R) SignFault) → SignerCall S R
  opens : (random : R) → Result (View S R) (Refused (S × R) SignFault) → SignerCall S R
  signs : (new : View S R) → (name : List ℕ) → (given : Option (List ℕ)) → (capacity : ℕ)
      → Result (List ℕ) SignFault → SignerCall S R
  retires : (new : View S R) → (upto : ℕ) → Result (Unit {0}) SignFault → SignerCall S R
  gives_store : SignerCall S R

-- who has the store after a create or an opening: the signer, or none, and then it is handed back
abbrev pub holder_of : {S R : Type 0} → Result (View S R) (Refused (S × R) SignFault) → Holder S R
holder_of (Ok view) = with_signer view
holder_of (Err refused) = without_signer refused.given.0

abbrev pub next_holder : {S R : Type 0} → Holder S R → SignerCall S R → Holder S R
next_holder held (creates version spec random result) = holder_of result
next_holder held (opens random result) = holder_of result
next_holder held (signs new name given capacity answer) = with_signer new
next_holder held (retires new upto answer) = with_signer new
next_holder held gives_store = without_signer (store_held held)

-- the call's own contract
abbrev pub MeetsContract : {S R : Type 0} → store.Ghosts S → source.Ghosts R → Holder S R → SignerCall S R → Type 0
MeetsContract g r (without_signer store) (creates version spec random result) =
    IsSpec spec × Creates g r version spec store random result
MeetsContract g r (without_signer store) (opens random result) =
    Opens g store random result ⊎ OpensReplayed g store random result
MeetsContract g r (with_signer old) (signs new name given capacity answer) =
    IsName name × SignsGiven g r old new name given capacity answer
MeetsContract g r (with_signer old) (retires new upto answer) = Retires g old new upto answer
MeetsContract g r held gives_store = Unit {0}
MeetsContract g r held call = ⊥

-- calls one after the other, whatever they answer
abbrev pub AreCallsFrom : {S R : Type 0} → store.Ghosts S → source.Ghosts R → Holder S R → List (SignerCall S R)
    → Type 0
AreCallsFrom g r held [] = Unit {0}
AreCallsFrom g r held (call ∷ calls) = MeetsContract g r held call × HoldsSigner g (next_holder held call)
    × AreCallsFrom g r (next_holder held call) calls

abbrev pub last_holder : {S R : Type 0} → Holder S R → List (SignerCall S R) → Holder S R
last_holder held [] = held
last_holder held (call ∷ calls) = last_holder (next_holder held call) calls

-- ---- what calls give

-- on Ok of a request its signature is handed out, for the text that its message gave
abbrev pub handed_of_call : {S R : Type 0} → SignerCall S R → List Handed
handed_of_call (signs new name given capacity (Ok signature)) =
    record { name = name; message = unwrap_or given []; signature = signature } ∷ []
handed_of_call call = []

abbrev pub handed_of : {S R : Type 0} → List (SignerCall S R) → List Handed
handed_of [] = []
handed_of (call ∷ calls) = handed_of_call call ++ handed_of calls

-- the public key that the signer answers which a create or an opening gave
abbrev pub key_of_call : {S R : Type 0} → SignerCall S R → Option AnyPublic
key_of_call (creates version spec random (Ok view)) = public_of_key (the_key view.records)
key_of_call (opens random (Ok view)) = public_of_key (the_key view.records)
key_of_call call = None

abbrev pub GaveKey : {S R : Type 0} → List (SignerCall S R) → AnyPublic → Type 0
GaveKey [] public = ⊥
GaveKey (call ∷ calls) public = (key_of_call call ≡ Some public) ⊎ GaveKey calls public

-- ---- the message of a request

-- A call of `sign` is a request. Where it read its message, this gave the request's text to its end, or it can't be
-- read. It read it before an Ok, and under a bound name before every answer but 26 and 31.
pub record IsRequest {S R M : Type 0} (g : store.Ghosts S) (r : source.Ghosts R) (m : message.Ghosts M)
    (old new : View S R) (name : List ℕ) (before later : M) (capacity : ℕ) (answer : Result (List ℕ) SignFault)
    : Type 0 where
  pub given : Option (List ℕ)
  pub request : SignsGiven g r old new name given capacity answer
  pub gave : IsRead m request.answers.outcome.is_read given before later
  pub signed : (signature : List ℕ) → answer ≡ Ok signature
      → IsSome given × (request.answers.outcome.is_read ≡ true)
  pub bound : IsSome (binding_at old.records name) → answer ≢ Err Stopped → answer ≢ Err Moved
      → request.answers.outcome.is_read ≡ true

-- So it is for each call of `sign`, by two clauses of its contract.
abbrev pub RequestLaw : {S R M : Type 0} → store.Ghosts S → source.Ghosts R → message.Ghosts M → Type 0
RequestLaw {S} {R} {M} g r m = (old new : View S R) (name : List ℕ) (before later : M) (capacity : ℕ)
    (answer : Result (List ℕ) SignFault) → Signs g r m old new name before later capacity answer
    → (IsSome (binding_at old.records name) → KeepsForRepeat old new (is_fault is_before_repeat answer))
    → IsRequest g r m old new name before later capacity answer

-- ---- the requests of a serve

-- what a reply hands out: after 0 the signature, for the request's text
abbrev pub handed_of_reply : Reply → (name message signature : List ℕ) → List Handed
handed_of_reply Signed name message signature = record { name = name; message = message; signature = signature } ∷ []
handed_of_reply (RefusedReply fault) name message signature = []
handed_of_reply BadName name message signature = []

abbrev pub handed_of_exchanges : List Exchange → List Handed
handed_of_exchanges [] = []
handed_of_exchanges (exchange ∷ later) =
    let request = exchange.request in
    handed_of_reply exchange.reply request.name request.message exchange.signature ++ handed_of_exchanges later

-- The first call is this request, with the answer of its reply, and then come calls of `After`. After 34 there is no
-- such call, since the signer isn't asked.
abbrev pub AsksFirst : {S R : Type 0} → Reply → (signature : List ℕ) → Request
    → (After : List (SignerCall S R) → Type 0) → List (SignerCall S R) → Type 0
AsksFirst {S} {R} Signed signature request After calls =
    (new : View S R) × (capacity : ℕ) × (later : List (SignerCall S R))
    × (calls ≡ signs new request.name (given_message request) capacity (Ok signature) ∷ later) × After later
AsksFirst {S} {R} (RefusedReply fault) signature request After calls =
    (new : View S R) × (capacity : ℕ) × (later : List (SignerCall S R))
    × (calls ≡ signs new request.name (given_message request) capacity (Err fault) ∷ later) × After later
AsksFirst BadName signature request After calls = After calls

-- The calls are the requests of these exchanges, in their order, and no others.
abbrev pub AreRequestsOf : {S R : Type 0} → List Exchange → List (SignerCall S R) → Type 0
AreRequestsOf [] calls = calls ≡ []
AreRequestsOf (exchange ∷ later) calls =
    AsksFirst exchange.reply exchange.signature exchange.request (AreRequestsOf later) calls

-- Exchanges are calls one after the other: of the requests whose names are names, since for others the signer isn't
-- asked. These hand out the signatures of the replies, and no others.
pub record AreCallsOf {S R : Type 0} (g : store.Ghosts S) (r : source.Ghosts R) (exchanges : List Exchange)
    (old new : View S R) : Type 0 where
  pub calls : List (SignerCall S R)
  pub each : AreCallsFrom g r (with_signer old) calls
  pub last : last_holder (with_signer old) calls ≡ with_signer new
  pub asked : AreRequestsOf exchanges calls
  pub handed : handed_of calls ≡ handed_of_exchanges exchanges

-- So are the exchanges of each serve, by its contract.
abbrev pub ServeLaw : {S R I : Type 0} → store.Ghosts S → source.Ghosts R → message.Ghosts I → Type 0
ServeLaw {S} {R} {I} g r m = (old new : View S R) (before later : I) (contents left : Option (List ℕ))
    (result : Result ℕ ServeFault) → (serves : Serves g r m old new before later contents left result)
    → AreCallsOf g r serves.exchanges old new

-- ---- lives of a disk

-- A life of the disk, which may be cut by a crash.
--
-- - `finds`, `prepares`: `FileStore::open`, `open_into` or `format` is called. It is refused, or a crash comes in it or
--   after it.
-- - `moves`: `migrate_key` is called, with this disk as the old place. A crash comes in it or after it.
-- - `serves`: there is a store on the disk, and these calls end. A crash comes in the last one; for one between two
--   calls the last is `gives_store`.
pub data DiskLife (D E R : Type 0) (d : disk.Ghosts D) : Type 0 where
  finds : (on : D) → Result (FileStore D d) (Refused D OpenFault) → DiskLife D E R d
  prepares : (on : D) → Result (FileStore D d) (Refused D FormatFault) → DiskLife D E R d
  moves : (old old_after : D) (new new_after : E) → Result ℕ MigrateFault → DiskLife D E R d
  serves : (on : D) → FileStore D d → List (SignerCall (FileStore D d) R) → (last : SignerCall (FileStore D d) R)
      → DiskLife D E R d

-- the calls that ended
abbrev pub life_calls : {D E R : Type 0} {d : disk.Ghosts D} → DiskLife D E R d → List (SignerCall (FileStore D d) R)
life_calls (serves on store calls last) = calls
life_calls life = []

abbrev pub lives_calls : {D E R : Type 0} {d : disk.Ghosts D} → List (DiskLife D E R d)
    → List (SignerCall (FileStore D d) R)
lives_calls [] = []
lives_calls (life ∷ lives) = life_calls life ++ lives_calls lives

-- the contents that a crash may leave: at any moment of the life's last call
abbrev pub life_contents : {D E R : Type 0} (d : disk.Ghosts D) → DiskLife D E R d → List ℕ → Type 0
life_contents d (finds on result) content = d.left_since (disk_of_result result) (d.moment on) content
life_contents d (prepares on result) content = d.left_since (disk_of_result result) (d.moment on) content
life_contents d (moves old old_after new new_after answer) content = d.left_since old_after (d.moment old) content
life_contents d (serves on store calls last) content =
    let held = last_holder (without_signer store) calls in
    d.left_since (disk_of (store_held (next_holder held last))) (d.moment (disk_of (store_held held))) content

abbrev pub lives_contents : {D E R : Type 0} (d : disk.Ghosts D) → (before : List ℕ → Type 0)
    → List (DiskLife D E R d) → List ℕ → Type 0
lives_contents d before [] = before
lives_contents d before (life ∷ lives) = lives_contents d (life_contents d life) lives

-- A store is opened or prepared on a disk that keeps what was synced, with contents that the life before may leave; and
-- these calls are made.
pub record BeginsLife {D R : Type 0} (d : disk.Ghosts D) (g : store.Ghosts (FileStore D d)) (r : source.Ghosts R)
    (before : List ℕ → Type 0) (on : D) (store : FileStore D d) (calls : List (SignerCall (FileStore D d) R))
    : Type 0 where
  pub starts : IsAtStart d before on
  pub made : FindsRecords d on (Ok store) ⊎ PreparesDisk d on (Ok store)
  pub each : AreCallsFrom g r (without_signer store) calls

-- The last call meets its contract, as if no crash came in it.
abbrev pub IsDiskLife : {D E R : Type 0} (d : disk.Ghosts D) → disk.Ghosts E → store.Ghosts (FileStore D d)
    → source.Ghosts R → (before : List ℕ → Type 0) → DiskLife D E R d → Type 0
IsDiskLife d e g r before (finds on result) = IsAtStart d before on × FindsRecords d on result
IsDiskLife d e g r before (prepares on result) = IsAtStart d before on × PreparesDisk d on result
IsDiskLife d e g r before (moves old old_after new new_after answer) =
    IsAtStart d before old × Migrates d e old new old_after new_after answer
IsDiskLife d e g r before (serves on store calls last) = BeginsLife d g r before on store calls
    × AreCallsFrom g r (last_holder (without_signer store) calls) (last ∷ [])

-- lives one after the other, each from what the one before may leave
abbrev pub AreDiskLives : {D E R : Type 0} (d : disk.Ghosts D) → disk.Ghosts E → store.Ghosts (FileStore D d)
    → source.Ghosts R → (before : List ℕ → Type 0) → List (DiskLife D E R d) → Type 0
AreDiskLives d e g r before [] = Unit {0}
AreDiskLives d e g r before (life ∷ lives) =
    IsDiskLife d e g r before life × AreDiskLives d e g r (life_contents d life) lives

-- ---- the calls so far

-- The lives of a disk that are over, and the calls so far of the one that goes on.
pub record History (D E R : Type 0) (d : disk.Ghosts D) : Type 0 where
  pub lives : List (DiskLife D E R d)
  pub on : D
  pub store : FileStore D d
  pub calls : List (SignerCall (FileStore D d) R)

pub record IsHistory {D E R : Type 0} (d : disk.Ghosts D) (e : disk.Ghosts E) (g : store.Ghosts (FileStore D d))
    (r : source.Ghosts R) (before : List ℕ → Type 0) (history : History D E R d) : Type 0 where
  pub lives : AreDiskLives d e g r before history.lives
  pub now : BeginsLife d g r (lives_contents d before history.lives) history.on history.store history.calls

-- the calls of all lives
abbrev pub history_calls : {D E R : Type 0} {d : disk.Ghosts D} → History D E R d
    → List (SignerCall (FileStore D d) R)
history_calls history = lives_calls history.lives ++ history.calls

-- who has the store now
abbrev pub holder_now : {D E R : Type 0} {d : disk.Ghosts D} → History D E R d → Holder (FileStore D d) R
holder_now history = last_holder (without_signer history.store) history.calls

-- ---- the calls so far, of a key that was moved

-- A crash at some moment of a migration leaves this at the new place. None just before could leave it, and it has a
-- key.
pub record IsLeftByMove {E : Type 0} (e : disk.Ghosts E) (new new_after : E) (content : List ℕ) : Type 0 where
  pub since : e.left_since new_after (e.moment new) content
  pub changed : MayLeave (e.state new) content → ⊥
  pub keyed : HasNoKey content → ⊥

-- what the calls at the new place begin with: what a crash in the migration leaves there, whatever the answer; after Ok
-- also whatever a crash leaves from then on
abbrev pub contents_moved : {E : Type 0} (e : disk.Ghosts E) → (new new_after : E) → Result ℕ MigrateFault → List ℕ
    → Type 0
contents_moved e new new_after (Ok count) content =
    MayLeave (e.state new_after) content ⊎ IsLeftByMove e new new_after content
contents_moved e new new_after (Err fault) content = IsLeftByMove e new new_after content

-- Lives of the old disk, a migration to a new one, whatever it answered, and the calls on the new disk so far. A crash
-- may come in the migration or after it.
pub record MovedHistory (D E R : Type 0) (d : disk.Ghosts D) (e : disk.Ghosts E) : Type 0 where
  pub lives : List (DiskLife D E R d)
  pub old : D
  pub old_after : D
  pub new : E
  pub new_after : E
  pub answer : Result ℕ MigrateFault
  pub later : History E D R e

pub record IsMovedHistory {D E R : Type 0} (d : disk.Ghosts D) (e : disk.Ghosts E) (g : store.Ghosts (FileStore D d))
    (h : store.Ghosts (FileStore E e)) (r : source.Ghosts R) (moved : MovedHistory D E R d e) : Type 0 where
  pub lives : AreDiskLives d e g r HasNoKey moved.lives
  pub starts : IsAtStart d (lives_contents d HasNoKey moved.lives) moved.old
  pub honest : IsTrue (e.honest moved.new)
  pub migrates : Migrates d e moved.old moved.new moved.old_after moved.new_after moved.answer
  pub later : IsHistory e d h r (contents_moved e moved.new moved.new_after moved.answer) moved.later

-- what was handed out at both places
abbrev pub moved_handed : {D E R : Type 0} {d : disk.Ghosts D} {e : disk.Ghosts E} → MovedHistory D E R d e
    → List Handed
moved_handed moved = handed_of (lives_calls moved.lives) ++ handed_of (history_calls moved.later)
