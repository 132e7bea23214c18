-- Which refusal each event answers: the first cause that applies, in this order.
use Rattle.std.specs.Prelude.{◌≡◌, ◌≢◌, ◌⊎◌, ◌↔◌, ℕ, zero, suc, ◌+◌, ◌-◌, ◌<◌, ◌≤◌, true, false, List, [], ◌∷◌}
use Rattle.std.specs.Prelude.{drop, length, IsOk, Option, Some, None, Result, Err}
use Rattle.typecodes.specs.declared.spec.Spec.{Spec}
use Rattle.typecodes.specs.Spec.{IsSpec}
use Rattle.state_file.specs.Laws.{bottom_of, levels_of}
use Rattle.state_file.specs.Slot.{name_most}
use Rattle.state_file.specs.declared.record.Bound.{Bound}
use Rattle.state_file.specs.declared.record.Key.{Key}
use Rattle.state_file.specs.declared.record.Record.{Record}
use Rattle.state_file.specs.declared.record.Secret.{Secret}
use Rattle.sign_core.specs.declared.key.AnyPublic.{AnyPublic}
use Rattle.sign_core.specs.declared.fault.SignFault.{SignFault}
use Rattle.sign_core.specs.declared.fault.SignFault.TheVariants.{Changed, Damaged, Exhausted, Illegal, KeyThere}
use Rattle.sign_core.specs.declared.fault.SignFault.TheVariants.{LedgerFull, LongName, MessageRead, Moved, NoKey}
use Rattle.sign_core.specs.declared.fault.SignFault.TheVariants.{OutOfMemory}
use Rattle.sign_core.specs.declared.fault.SignFault.TheVariants.{RandomFailed, RandomRepeated, RetireRange, Stopped}
use Rattle.sign_core.specs.declared.fault.SignFault.TheVariants.{StoreFailed}
use Rattle.sign_core.specs.Records.{binding_at, deepest, first_illegal, free_at, has_identifier, has_moved, the_key}
use Rattle.sign_core.specs.Records.{leaves_of_current, next_at, wanted_count}
use Rattle.sign_core.specs.Textbook.{AllHaveSizes, damaged_at, digest_at, current_at}
use Rattle.sign_core.specs.Events.{AreDrawsOf, AreFields, key_sizes, randomizer_sizes}
use Rattle.sign_core.specs.World.{Chance, Creation, Draw, Fate, Opening, State, cut_new, cut_old, no_memory}
use Rattle.sign_core.specs.World.{created, first_draw, opened, requested, retired}

-- ---- causes in their order

-- A fault with such a cause is answered; or no fault has one, and `Rest` decides.
pub record Unless {A : Type 0} (HasCause : SignFault → Type 0) (Rest : Result A SignFault → Type 0)
    (answer : Result A SignFault) : Type 0 where
  pub decided : ((fault : SignFault) × HasCause fault × (answer ≡ Err fault))
      ⊎ (((fault : SignFault) → HasCause fault → ⊥) × Rest answer)

-- This fault alone has a cause, and this is the cause.
abbrev pub Of : SignFault → (Cause : Type 0) → SignFault → Type 0
Of named Cause fault = (fault ≡ named) × Cause

-- a record of a chain of trees isn't sound (28)
abbrev pub IsUnsound : (damaged : Option ℕ) → SignFault → Type 0
IsUnsound damaged fault = (slot : ℕ) × (damaged ≡ Some slot) × (fault ≡ Damaged slot)

-- an append is cut (25), or there is no memory for its record, or for the cache of the tree that it records (29)
abbrev pub AfterAppend : {A : Type 0} → Fate → (Rest : Result A SignFault → Type 0) → Result A SignFault → Type 0
AfterAppend fate Rest =
    Unless (Of StoreFailed ((fate ≡ cut_old) ⊎ (fate ≡ cut_new)))
    (Unless (Of OutOfMemory (fate ≡ no_memory)) Rest)

-- a signer is closed (26), or its records go on in another file (31)
abbrev pub WhereOpen : {A : Type 0} → State → (Rest : Result A SignFault → Type 0) → Result A SignFault → Type 0
WhereOpen state Rest =
    Unless (Of Stopped (state.is_open ≡ false))
    (Unless (Of Moved (has_moved state.records ≡ true)) Rest)

-- ---- a request

-- the message has another digest than the binding, under its leaf and C
abbrev pub HasChanged : Key → List Record → (k : ℕ) → Bound → (given : Option (List ℕ)) → Type 0
HasChanged key records k bound given = (message : List ℕ) × (given ≡ Some message)
    × (digest_at key records k bound.leaf bound.randomizer message ≢ bound.digest)

-- Under a name that the record at place k binds, as the steps of `repeat`: 27, 21, 29, 28.
abbrev pub RefusesRepeat : State → Key → (k : ℕ) → Bound → Chance → Result (List ℕ) SignFault → Type 0
RefusesRepeat state key k bound chance =
    let bottom = bottom_of key.secret in
    Unless (Of MessageRead (chance.given ≡ None))
    (Unless (Of Changed (HasChanged key state.records k bound chance.given))
    (Unless (Of OutOfMemory (chance.has_room ≡ false))
    (Unless (IsUnsound (damaged_at key bottom state.records (current_at bottom state.records k))) IsOk)))

abbrev pub HasNoLeaf : Secret → List Record → Type 0
HasNoLeaf secret records = (level : ℕ) → level < levels_of secret → free_at secret records level ≡ 0

abbrev pub FirstFieldIs : (fields : List (List ℕ)) → (identifier : List ℕ) → Type 0
FirstFieldIs fields identifier = (others : List (List ℕ)) × (fields ≡ identifier ∷ others)

-- For a new tree, as `begin_tree`: 23 where I isn't drawn, 24 where it is known, 23 where SEED or C isn't drawn, and
-- its append's.
abbrev pub RefusesTree : (IsKnown : List ℕ → Type 0) → Draw → (Rest : Result (List ℕ) SignFault → Type 0)
    → Result (List ℕ) SignFault → Type 0
RefusesTree IsKnown draw Rest =
    Unless (Of RandomFailed (length draw.fields < 1))
    (Unless (Of RandomRepeated ((identifier : List ℕ) × FirstFieldIs draw.fields identifier × IsKnown identifier))
    (Unless (Of RandomFailed (length draw.fields < 3)) (AfterAppend draw.fate Rest)))

-- For `below` new trees, as `begin_trees`: the I of each is known to the later ones. Then for the binding, as `bind`:
-- 23 where C isn't drawn, 27, and its append's.
abbrev pub RefusesWanted : Key → Chance → (below : ℕ) → List Draw → (IsKnown : List ℕ → Type 0)
    → Result (List ℕ) SignFault → Type 0
RefusesWanted key chance zero = λ draws IsKnown.
    Unless (Of RandomFailed (length chance.bound.fields < length (randomizer_sizes key.secret)))
    (Unless (Of MessageRead (chance.given ≡ None)) (AfterAppend chance.bound.fate IsOk))
RefusesWanted key chance (suc below) = λ draws IsKnown.
    let fields = (first_draw draws).fields in
    RefusesTree IsKnown (first_draw draws)
    (RefusesWanted key chance below (drop 1 draws)
    (λ identifier. IsKnown identifier ⊎ FirstFieldIs fields identifier))

-- Under a new name, where this level is the deepest with a free leaf: 30, 29, 28, and `RefusesWanted`. With the two
-- below these are the steps of `bind_new_name`.
abbrev pub RefusesAt : (limit : ℕ) → State → Key → Chance → (level : ℕ) → Result (List ℕ) SignFault → Type 0
RefusesAt limit state key chance level =
    let records = state.records in
    Unless (Of LedgerFull (limit < length records + wanted_count key.secret level))
    (Unless (Of OutOfMemory (chance.has_room ≡ false))
    (Unless (IsUnsound (damaged_at key level records (current_at level records (length records))))
    (RefusesWanted key chance (bottom_of key.secret - level) chance.trees
    (λ identifier. has_identifier records identifier ≡ true))))

-- Under a new name that a file of the key's version can hold: 22, and `RefusesAt`.
abbrev pub RefusesNew : (limit : ℕ) → State → Key → Chance → Result (List ℕ) SignFault → Type 0
RefusesNew limit state key chance =
    Unless (Of Exhausted (HasNoLeaf key.secret state.records))
    (λ answer. (level : ℕ) × (deepest key.secret state.records ≡ Some level)
    × RefusesAt limit state key chance level answer)

-- Under a bound name `RefusesRepeat`; under a new one 33 if it is longer than a file of the key's version can hold, and
-- `RefusesNew`.
abbrev pub RefusesName : (limit : ℕ) → State → Key → (name : List ℕ) → Chance → Option (ℕ × Bound)
    → Result (List ℕ) SignFault → Type 0
RefusesName limit state key name chance (Some (k, bound)) = RefusesRepeat state key k bound chance
RefusesName limit state key name chance None =
    Unless (Of LongName (name_most key.version < length name)) (RefusesNew limit state key chance)

-- A request: 26, 31, and `RefusesName`.
abbrev pub RefusesRequest : (limit : ℕ) → State → Key → (name : List ℕ) → Chance → Result (List ℕ) SignFault → Type 0
RefusesRequest limit state key name chance =
    WhereOpen state (RefusesName limit state key name chance (binding_at state.records name))

-- ---- the other events

-- A retiring is Ok, and records nothing, where no leaf below `upto` is free; else 30, and its append's.
abbrev pub RefusesRecord : (limit : ℕ) → State → (next upto : ℕ) → Fate → Result (Unit {0}) SignFault → Type 0
RefusesRecord limit state next upto fate answer = ((upto ≤ next) × IsOk answer)
    ⊎ ((next < upto)
    × Unless (Of LedgerFull (limit < length state.records + 1)) (AfterAppend fate IsOk) answer)

-- A retiring: 26, 31, 32, and `RefusesRecord`.
abbrev pub RefusesRetire : (limit : ℕ) → State → Key → (upto : ℕ) → Fate → Result (Unit {0}) SignFault → Type 0
RefusesRetire limit state key upto fate =
    let bottom = bottom_of key.secret in
    WhereOpen state
    (Unless (Of RetireRange (leaves_of_current key.secret state.records bottom < upto))
    (RefusesRecord limit state (next_at key.secret state.records bottom) upto fate))

-- A create: why record 0 couldn't be loaded, 50, 23, 29, and its append's.
abbrev pub RefusesCreate : {A : Type 0} → State → Spec → Creation → Result A SignFault → Type 0
RefusesCreate state spec chance =
    Unless (λ fault. chance.failed_load ≡ Some fault)
    (Unless (Of KeyThere (0 < length state.records))
    (Unless (Of RandomFailed (length chance.fields < length (key_sizes spec)))
    (Unless (Of OutOfMemory (chance.has_room ≡ false)) (AfterAppend chance.fate IsOk))))

-- a record isn't legal (44), and all up to it could be loaded
abbrev pub IsIllegalFirst : List Record → Opening → SignFault → Type 0
IsIllegalFirst records chance fault = (k : ℕ) × (first_illegal records ≡ Some k) × (fault ≡ Illegal k)
    × ((slot : ℕ) (other : SignFault) → chance ≡ Some (slot, other) → k < slot)

-- An opening: 44, why a record couldn't be loaded, 40.
abbrev pub RefusesOpening : {A : Type 0} → State → Opening → Result A SignFault → Type 0
RefusesOpening state chance =
    Unless (IsIllegalFirst state.records chance)
    (Unless (λ fault. (slot : ℕ) × (chance ≡ Some (slot, fault)))
    (Unless (Of NoKey (state.records ≡ [])) IsOk))

-- ---- the law

-- Two answers refuse alike: with one fault, or neither does.
abbrev pub RefuseAlike : {A : Type 0} → (one other : Result A SignFault) → Type 0
RefuseAlike one other = (fault : SignFault) → (one ≡ Err fault) ↔ (other ≡ Err fault)

-- Each answer is the refusal of the first cause that applies, or Ok without one; and no other answer is.
pub record RefusalLaw : Type 0 where
  pub request : (limit : ℕ) (state : State) (key : Key) (name : List ℕ) (chance : Chance)
      → the_key state.records ≡ Some key → AreDrawsOf key.secret chance
      → RefusesRequest limit state key name chance (requested limit state name chance).answer
  pub retire : (limit : ℕ) (state : State) (key : Key) (upto : ℕ) (fate : Fate)
      → the_key state.records ≡ Some key
      → RefusesRetire limit state key upto fate (retired limit state upto fate).answer
  pub create : (state : State) (spec : Spec) (chance : Creation) → IsSpec spec
      → AreFields (key_sizes spec) chance.fields → RefusesCreate state spec chance (created state spec chance).answer
  pub opening : (state : State) (chance : Opening) → AllHaveSizes state.records
      → RefusesOpening state chance (opened state chance).answer
  pub one_request : (limit : ℕ) (state : State) (key : Key) (name : List ℕ) (chance : Chance)
      (one other : Result (List ℕ) SignFault) → RefusesRequest limit state key name chance one
      → RefusesRequest limit state key name chance other → RefuseAlike one other
  pub one_retire : (limit : ℕ) (state : State) (key : Key) (upto : ℕ) (fate : Fate)
      (one other : Result (Unit {0}) SignFault) → RefusesRetire limit state key upto fate one
      → RefusesRetire limit state key upto fate other → RefuseAlike one other
  pub one_create : (state : State) (spec : Spec) (chance : Creation) (one other : Result AnyPublic SignFault)
      → RefusesCreate state spec chance one → RefusesCreate state spec chance other → RefuseAlike one other
  pub one_opening : (state : State) (chance : Opening) (one other : Result AnyPublic SignFault)
      → RefusesOpening state chance one → RefusesOpening state chance other → RefuseAlike one other
