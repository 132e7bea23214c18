-- The headline, of the calls that were made, whatever they answered: creates, openings, signings, requests of a serve
-- and retirings over a disk that keeps what was synced, in all its lives, with crashes between calls and inside them;
-- and migrations. That some runs and some calls hand out a signature stands in `NotEmpty.antt`, what requests get under
-- names that a crash left bound in `BoundNames.antt`.
--
-- | words | field or premise | definition |
-- |---|---|---|
-- | the calls, each by its own contract; lives and crashes | `IsHistory`, `IsMovedHistory` | `Sessions.antt` |
-- | the disk keeps what was synced, and began without a key | `starts`, `HasNoKey` | `Lives.antt`, `state_file` |
-- | after a migration all that a crash may leave at the new place has the key | `contents_moved` | `Sessions.antt` |
-- | all signatures that were handed out | `handed_of`, `moved_handed` | `Sessions.antt` |
-- | the public key that the create gave | `GaveKey` | `Sessions.antt` |
-- | no leaf signs two digests | `one_digest` | `LeafUse`, `MakesUses` |
-- | no leaf of the bottom level signs under two names | `one_name` | `IsLast` |
-- | one name has one signature | `one_signature` | |
-- | each is valid for the message that was read | `valid` | `IsValidUnder`; of `sign`, `IsRequest` of `signer_law` |
-- | a changed request is refused, a repeated one gets the name's signature | `repeated` | `BottomDigests` |
use Rattle.std.specs.Prelude.{◌≡◌, ◌≢◌, ◌⊎◌, ℕ, true, false, List, [], Contains, Option, Some, None, Result, Ok, Err}
use Rattle.state_file.specs.declared.disk.Disk as disk
use Rattle.state_file.specs.declared.store.Store as store
use Rattle.state_file.specs.declared.store.file_store.FileStore.{FileStore}
use Rattle.state_file.specs.File.{HasNoKey}
use Rattle.sign_core.specs.declared.fault.SignFault.{SignFault}
use Rattle.sign_core.specs.declared.fault.SignFault.TheVariants.{Changed, MessageRead, Moved, OutOfMemory, Stopped}
use Rattle.sign_core.specs.declared.key.AnyPublic.{AnyPublic}
use Rattle.sign_core.specs.declared.source.Source as source
use Rattle.sign_core.specs.Records.{has_moved}
use Rattle.sign_core.specs.Sessions.{AreCallsFrom, GaveKey, History, Holder, IsHistory, IsMovedHistory, MeetsContract}
use Rattle.sign_core.specs.Sessions.{MovedHistory, SignerCall, handed_of, history_calls, holder_now, last_holder}
use Rattle.sign_core.specs.Sessions.{lives_calls, moved_handed, signs, with_signer, without_signer}
use Rattle.sign_core.specs.Signer.{View}
use Rattle.sign_core.specs.SignerCalls.{IsRunning}
use Rattle.sign_core.specs.Uses.{IsLast, IsOneLeaf, IsValidUnder, LeafUse, MakesUses}
use Rattle.sign_core.specs.World.{Handed}

-- A signature was handed out, and by its bytes it makes these uses under the public key.
pub record IsHanded (public : AnyPublic) (all : List Handed) (x : Handed) (uses : List LeafUse) : Type 0 where
  pub handed : Contains all x
  pub makes : MakesUses public x.message x.signature uses

-- All these signatures use no leaf twice.
pub record AreSignedOnce (public : AnyPublic) (all : List Handed) : Type 0 where
  -- no leaf at any level signs two digests
  pub one_digest : (x y : Handed) (uses others : List LeafUse) (u v : LeafUse) → IsHanded public all x uses
      → IsHanded public all y others → Contains uses u → Contains others v → IsOneLeaf u v → u.digest ≡ v.digest
  -- no leaf of a bottom tree signs under two names
  pub one_name : (x y : Handed) (uses others : List LeafUse) (u v : LeafUse) → IsHanded public all x uses
      → IsHanded public all y others → IsLast u uses → IsLast v others → IsOneLeaf u v → x.name ≡ y.name
  -- one name has one signature
  pub one_signature : (x y : Handed) → Contains all x → Contains all y → x.name ≡ y.name → x.signature ≡ y.signature
  -- each is valid for its message under the key
  pub valid : (x : Handed) → Contains all x → IsValidUnder public x.message x.signature

-- How the digests compare that the bottom leaf of a signature signs for its message and for another text.
abbrev pub BottomDigests : AnyPublic → Handed → (text : List ℕ) → (Are : List ℕ → List ℕ → Type 0) → Type 0
BottomDigests public x text Are = (uses others : List LeafUse) (u v : LeafUse)
    → MakesUses public x.message x.signature uses → MakesUses public text x.signature others
    → IsLast u uses → IsLast v others → Are u.digest v.digest

-- What a request gets under a name that was signed: 27 where its message can't be read. For a text with the signed
-- digest it gets the signature, or 29; for any other 21.
abbrev pub AnswersText : AnyPublic → Handed → (given : Option (List ℕ)) → Result (List ℕ) SignFault → Type 0
AnswersText public x None answer = answer ≡ Err MessageRead
AnswersText public x (Some text) answer = (BottomDigests public x text (λ signed other. signed ≡ other)
    × ((answer ≡ Ok x.signature) ⊎ (answer ≡ Err OutOfMemory)))
    ⊎ (BottomDigests public x text (λ signed other. signed ≢ other) × (answer ≡ Err Changed))

-- A closed signer gives 26 alone, and an open one after a Moved 31 alone.
abbrev pub AnswersAgain : {S R : Type 0} → AnyPublic → View S R → Handed → (given : Option (List ℕ))
    → Result (List ℕ) SignFault → Type 0
AnswersAgain public signer x given answer = ((signer.is_open ≡ false) × (answer ≡ Err Stopped))
    ⊎ ((signer.is_open ≡ true) × (has_moved signer.records ≡ true) × (answer ≡ Err Moved))
    ⊎ ((signer.is_open ≡ true) × (has_moved signer.records ≡ false) × AnswersText public x given answer)

-- What was handed out in all the calls so far, and what the next request gets.
pub record IsSafe {S R : Type 0} (g : store.Ghosts S) (r : source.Ghosts R) (held : Holder S R)
    (GaveKeys : AnyPublic → Type 0) (handed : List Handed) : Type 0 where
  -- whichever create or opening gave the public key
  pub once : (public : AnyPublic) → GaveKeys public → AreSignedOnce public handed
  -- under a name that was signed
  pub repeated : (public : AnyPublic) → GaveKeys public → (x : Handed) (old new : View S R)
      (given : Option (List ℕ)) (capacity : ℕ) (answer : Result (List ℕ) SignFault) → Contains handed x
      → held ≡ with_signer old → MeetsContract g r held (signs new x.name given capacity answer)
      → AnswersAgain public old x given answer

-- ---- the law

-- Calls over any honest store that begins without records, such as one in memory.
abbrev pub SessionLaw : {S R : Type 0} → store.Ghosts S → source.Ghosts R → Type 0
SessionLaw {S} {R} g r = (kept_in : S) (calls : List (SignerCall S R)) → IsRunning g kept_in → g.list kept_in ≡ []
    → AreCallsFrom g r (without_signer kept_in) calls
    → IsSafe g r (last_holder (without_signer kept_in) calls) (GaveKey calls) (handed_of calls)

-- calls in the lives of one disk, from one without a key on
abbrev pub HeadlineOfCalls : {D E R : Type 0} (d : disk.Ghosts D) → disk.Ghosts E → store.Ghosts (FileStore D d)
    → source.Ghosts R → Type 0
HeadlineOfCalls {D} {E} {R} d e g r = (history : History D E R d) → IsHistory d e g r HasNoKey history
    → IsSafe g r (holder_now history) (GaveKey (history_calls history)) (handed_of (history_calls history))

-- and with the lives of the disk to which the key was moved, whatever the migration answered
abbrev pub HeadlineOfMoved : {D E R : Type 0} (d : disk.Ghosts D) (e : disk.Ghosts E) → store.Ghosts (FileStore D d)
    → store.Ghosts (FileStore E e) → source.Ghosts R → Type 0
HeadlineOfMoved {D} {E} {R} d e g h r = (moved : MovedHistory D E R d e) → IsMovedHistory d e g h r moved
    → IsSafe h r (holder_now moved.later)
    (λ public. GaveKey (lives_calls moved.lives) public ⊎ GaveKey (history_calls moved.later) public)
    (moved_handed moved)
