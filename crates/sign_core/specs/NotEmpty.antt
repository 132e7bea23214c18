-- The headline says something. For every spec some run of the world hands out a signature, and so do some calls. And
-- the headline's clauses are false of signers that go wrong.
use Rattle.std.specs.Prelude.{◌≡◌, ◌≢◌, ◌≤◌, ℕ, true, false, List, [], ◌∷◌, length, Contains, Option, Some, None}
use Rattle.std.specs.Prelude.{Result, Ok, Err}
use Rattle.typecodes.specs.declared.spec.Spec.{Spec}
use Rattle.typecodes.specs.Name.{IsName}
use Rattle.typecodes.specs.Spec.{IsSpec}
use Rattle.state_file.specs.MemoryStore.{HadBeen}
use Rattle.state_file.specs.Slot.{name_most}
use Rattle.state_file.specs.declared.record.Record.{Record}
use Rattle.state_file.specs.declared.record.Version.{Version}
use Rattle.state_file.specs.declared.store.Store as store
use Rattle.sign_core.specs.declared.fault.SignFault.{SignFault}
use Rattle.sign_core.specs.declared.fault.SignFault.TheVariants.{Changed, Exhausted, MessageRead, Moved, OutOfMemory}
use Rattle.sign_core.specs.declared.fault.SignFault.TheVariants.{Stopped}
use Rattle.sign_core.specs.declared.key.AnyPublic.{AnyPublic}
use Rattle.sign_core.specs.declared.source.Source as source
use Rattle.sign_core.specs.Events.{AllEvents}
use Rattle.sign_core.specs.HeadlineOfCalls.{AnswersAgain, AreSignedOnce, BottomDigests, IsHanded}
use Rattle.sign_core.specs.Progress.{types_of_key}
use Rattle.sign_core.specs.Records.{has_moved, the_key}
use Rattle.sign_core.specs.Sessions.{AreCallsFrom, creates, signs, without_signer}
use Rattle.sign_core.specs.Signer.{View}
use Rattle.sign_core.specs.Uses.{IsOneLeaf, IsValidUnder, LeafUse}
use Rattle.sign_core.specs.World.{Event, Handed, beginning, run}

-- Events that can come make a key of this spec, and hand out a signature under this name, for this message.
pub record IsSignedInRun (limit : ℕ) (spec : Spec) (name message : List ℕ) : Type 0 where
  pub events : List Event
  pub possible : AllEvents events
  pub of_spec : types_of_key (the_key (run limit beginning events).state.records) ≡ Some spec
  pub signature : List ℕ
  pub handed : Contains (run limit beginning events).handed
      (record { name = name; message = message; signature = signature })

-- So it is for every spec, and any name that a file of the key's version can hold, where the store takes nine records.
abbrev pub NotEmptyLaw : Type 0
NotEmptyLaw = (spec : Spec) (version : Version) (name message : List ℕ) (limit : ℕ) → IsSpec spec → IsName name
    → length name ≤ name_most version → 9 ≤ limit → IsSignedInRun limit spec name message

-- ---- calls

-- A store in memory: its records, how many it takes, and the slots that were loaded, the last one first.
pub record InMemory : Type 0 where
  pub records : List Record
  pub most : ℕ
  pub loads : List ℕ

-- It is honest, and nothing of it fails. Its moments are those of a `MemoryStore`.
abbrev pub in_memory : store.Ghosts InMemory
in_memory = record {
  list = λ kept. kept.records;
  stopped = λ kept. false;
  failures = λ kept. 0;
  refusals = λ kept. 0;
  unreadable = λ kept. [];
  loads = λ kept. kept.loads;
  given = λ kept. [];
  honest = λ kept. true;
  most = λ kept. kept.most;
  moment = λ kept. length kept.records;
  left_since = λ kept. HadBeen kept.records;
}

abbrev pub without_records : (most : ℕ) → InMemory
without_records most = record { records = []; most = most; loads = [] }

-- A create makes a key of this spec, and the request after it hands out a signature under the name, for the message.
-- Each meets its own contract, and leaves a signer with its invariant.
pub record IsSignedByCalls {R : Type 0} (r : source.Ghosts R) (random : R) (spec : Spec) (version : Version)
    (name message : List ℕ) (limit : ℕ) : Type 0 where
  pub made : View InMemory R
  pub new : View InMemory R
  pub signature : List ℕ
  pub calls : AreCallsFrom in_memory r (without_signer (without_records limit))
      (creates version spec random (Ok made) ∷ signs new name (Some message) 0 (Ok signature) ∷ [])

-- So it is, too, for every spec and name as above, with each source whose next bytes aren't known.
abbrev pub NotEmptyOfCalls : {R : Type 0} → source.Ghosts R → Type 0
NotEmptyOfCalls {R} r = (random : R) (spec : Spec) (version : Version) (name message : List ℕ) (limit : ℕ)
    → IsSpec spec → IsName name → length name ≤ name_most version → 9 ≤ limit → r.upcoming random ≡ None
    → IsSignedByCalls r random spec version name message limit

-- ---- wrong signers

-- The clauses of the headline about signatures that were handed out (`AreSignedOnce`) are false of these:
pub record RefusesWrongSigners : Type 0 where
  -- two signers, as of a disk and an old copy of it, that sign two digests by one leaf
  pub forks : (public : AnyPublic) (handed : List Handed) (x y : Handed) (uses others : List LeafUse) (u v : LeafUse)
      → IsHanded public handed x uses → IsHanded public handed y others → Contains uses u → Contains others v
      → IsOneLeaf u v → u.digest ≢ v.digest → AreSignedOnce public handed → ⊥
  -- lives with different keys: under one that was given some signature isn't valid
  pub two_keys : (public : AnyPublic) (handed : List Handed) (x : Handed) → Contains handed x
      → (IsValidUnder public x.message x.signature → ⊥) → AreSignedOnce public handed → ⊥
  -- a life that forgot the records, and gives a name that was signed another signature
  pub forgets : (public : AnyPublic) (handed : List Handed) (x y : Handed) → Contains handed x → Contains handed y
      → x.name ≡ y.name → x.signature ≢ y.signature → AreSignedOnce public handed → ⊥

-- And so is the one about the next request under a name that was signed (`AnswersAgain`) of these answers:
pub record RefusesWrongAnswers {S R : Type 0} (public : AnyPublic) (signer : View S R) (x : Handed)
    (given : Option (List ℕ)) : Type 0 where
  -- other bytes than the signature that was handed out
  pub other_bytes : (other : List ℕ) → other ≢ x.signature → AnswersAgain public signer x given (Ok other) → ⊥
  -- bytes for a text that hasn't the signed digest, or for none; and 21 for a text that has it
  pub signs_changed : (other : List ℕ) → ((text : List ℕ) → given ≡ Some text
      → BottomDigests public x text (λ signed digest. signed ≡ digest) → ⊥)
      → AnswersAgain public signer x given (Ok other) → ⊥
  pub refuses_repeat : ((text : List ℕ) → given ≡ Some text
      → BottomDigests public x text (λ signed digest. signed ≢ digest) → ⊥)
      → AnswersAgain public signer x given (Err Changed) → ⊥
  -- 26 of an open signer, 31 without a Moved, and 27 of a message that can be read
  pub stops : signer.is_open ≡ true → AnswersAgain public signer x given (Err Stopped) → ⊥
  pub moves : has_moved signer.records ≡ false → AnswersAgain public signer x given (Err Moved) → ⊥
  pub reads : given ≢ None → AnswersAgain public signer x given (Err MessageRead) → ⊥
  -- of a closed signer anything but 26, and of an open one after a Moved anything but 31
  pub goes_on : (answer : Result (List ℕ) SignFault) → signer.is_open ≡ false → answer ≢ Err Stopped
      → AnswersAgain public signer x given answer → ⊥
  pub stays : (answer : Result (List ℕ) SignFault) → signer.is_open ≡ true → has_moved signer.records ≡ true
      → answer ≢ Err Moved → AnswersAgain public signer x given answer → ⊥
  -- 22, or any refusal but these and 29
  pub exhausted : AnswersAgain public signer x given (Err Exhausted) → ⊥
  pub others : (fault : SignFault) → fault ≢ Stopped → fault ≢ Moved → fault ≢ MessageRead → fault ≢ Changed
      → fault ≢ OutOfMemory → AnswersAgain public signer x given (Err fault) → ⊥
