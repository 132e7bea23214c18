-- What the next request gets under a name that the records bind, also where no signature was handed out for it, as
-- after a crash. The calls are those of `HeadlineOfCalls.antt`.
use Rattle.std.specs.Prelude.{◌≡◌, ◌⊎◌, ℕ, true, false, List, [], Contains, Option, Some, None, IsSome, Result, Ok}
use Rattle.std.specs.Prelude.{Err}
use Rattle.state_file.specs.declared.disk.Disk as disk
use Rattle.state_file.specs.declared.record.Bound.{Bound}
use Rattle.state_file.specs.declared.record.Key.{Key}
use Rattle.state_file.specs.declared.record.Record.{Record}
use Rattle.state_file.specs.declared.store.Store as store
use Rattle.state_file.specs.declared.store.file_store.FileStore.{FileStore}
use Rattle.state_file.specs.File.{HasNoKey}
use Rattle.sign_core.specs.declared.fault.SignFault.{SignFault}
use Rattle.sign_core.specs.declared.fault.SignFault.TheVariants.{Changed, MessageRead, Moved, OutOfMemory, Stopped}
use Rattle.sign_core.specs.declared.source.Source as source
use Rattle.sign_core.specs.Headline.{IsBoundTo}
use Rattle.sign_core.specs.Records.{binding_at, has_moved, the_key}
use Rattle.sign_core.specs.Sessions.{AreCallsFrom, History, Holder, IsHistory, IsMovedHistory, MeetsContract}
use Rattle.sign_core.specs.Sessions.{MovedHistory, SignerCall, handed_of, history_calls, holder_now, last_holder}
use Rattle.sign_core.specs.Sessions.{moved_handed, signs, with_signer, without_signer}
use Rattle.sign_core.specs.Signer.{LacksMemory, View}
use Rattle.sign_core.specs.SignerCalls.{IsRunning}
use Rattle.sign_core.specs.World.{Handed}

-- The text has the digest to which the records bind the name.
abbrev pub IsBoundText : List Record → (name text : List ℕ) → Type 0
IsBoundText records name text = (key : Key) × (k : ℕ) × (bound : Bound) × IsBoundTo records key name text k bound

-- What a request gets under a name with this signature: 27 where its message can't be read. For a text with the bound
-- digest it gets the signature, or 29; for any other 21.
abbrev pub AnswersBoundText : List Record → (name signature : List ℕ) → (given : Option (List ℕ))
    → Result (List ℕ) SignFault → Type 0
AnswersBoundText records name signature None answer = answer ≡ Err MessageRead
AnswersBoundText records name signature (Some text) answer =
    (IsBoundText records name text × ((answer ≡ Ok signature) ⊎ (answer ≡ Err OutOfMemory)))
    ⊎ ((IsBoundText records name text → ⊥) × (answer ≡ Err Changed))

-- A closed signer gives 26 alone, and an open one after a Moved 31 alone.
abbrev pub AnswersBound : {S R : Type 0} → View S R → (name signature : List ℕ) → (given : Option (List ℕ))
    → Result (List ℕ) SignFault → Type 0
AnswersBound signer name signature given answer = ((signer.is_open ≡ false) × (answer ≡ Err Stopped))
    ⊎ ((signer.is_open ≡ true) × (has_moved signer.records ≡ true) × (answer ≡ Err Moved))
    ⊎ ((signer.is_open ≡ true) × (has_moved signer.records ≡ false)
    × AnswersBoundText signer.records name signature given answer)

-- A bound name has one signature: each request under it gets this one, or what comes before. A name that was signed is
-- bound, and this is the signature that was handed out.
pub record KeepsNames {S R : Type 0} (g : store.Ghosts S) (r : source.Ghosts R) (held : Holder S R)
    (handed : List Handed) : Type 0 where
  pub bound : (old : View S R) (name : List ℕ) → held ≡ with_signer old → IsSome (binding_at old.records name)
      → (signature : List ℕ) × ((new : View S R) (given : Option (List ℕ)) (capacity : ℕ)
      (answer : Result (List ℕ) SignFault) → MeetsContract g r held (signs new name given capacity answer)
      → AnswersBound old name signature given answer)
  pub signed : (x : Handed) (old new : View S R) (given : Option (List ℕ)) (capacity : ℕ)
      (answer : Result (List ℕ) SignFault) → Contains handed x → held ≡ with_signer old
      → MeetsContract g r held (signs new x.name given capacity answer)
      → AnswersBound old x.name x.signature given answer
  -- 29 comes only where the output lacks memory for the signature, or a cache of the name's trees is missing
  pub memory : (old new : View S R) (name : List ℕ) (given : Option (List ℕ)) (capacity : ℕ) (key : Key) (k : ℕ)
      (bound : Bound) → held ≡ with_signer old → the_key old.records ≡ Some key
      → binding_at old.records name ≡ Some (k, bound)
      → MeetsContract g r held (signs new name given capacity (Err OutOfMemory))
      → LacksMemory key old None (Some (k, bound)) capacity

-- So it is after calls over any honest store that begins without records, ..
abbrev pub BoundInSession : {S R : Type 0} → store.Ghosts S → source.Ghosts R → Type 0
BoundInSession {S} {R} g r = (kept_in : S) (calls : List (SignerCall S R)) → IsRunning g kept_in
    → g.list kept_in ≡ [] → AreCallsFrom g r (without_signer kept_in) calls
    → KeepsNames g r (last_holder (without_signer kept_in) calls) (handed_of calls)

-- .. in the lives of one disk, ..
abbrev pub BoundInCalls : {D E R : Type 0} (d : disk.Ghosts D) → disk.Ghosts E → store.Ghosts (FileStore D d)
    → source.Ghosts R → Type 0
BoundInCalls {D} {E} {R} d e g r = (history : History D E R d) → IsHistory d e g r HasNoKey history
    → KeepsNames g r (holder_now history) (handed_of (history_calls history))

-- .. and in those of the disk to which the key was moved.
abbrev pub BoundInMoved : {D E R : Type 0} (d : disk.Ghosts D) (e : disk.Ghosts E) → store.Ghosts (FileStore D d)
    → store.Ghosts (FileStore E e) → source.Ghosts R → Type 0
BoundInMoved {D} {E} {R} d e g h r = (moved : MovedHistory D E R d e) → IsMovedHistory d e g h r moved
    → KeepsNames h r (holder_now moved.later) (moved_handed moved)
