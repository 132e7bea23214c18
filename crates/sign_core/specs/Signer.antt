-- What a signer over a store is to its callers, and what its calls are: steps of the world.
--
-- The step speaks of the signer's own list of records, for every store; the store enters by `IsTied` and `GrowsAlike`.
-- What may go wrong stands in fields of a chance. What callers see is tied to the chance by one field of one record
-- (`Signs`, `Creates`, `Opens`, `OpensReplayed`, `Retires`), never by separate clauses.
use Rattle.std.specs.Prelude.{◌≡◌, ◌⊎◌, ℕ, ◌+◌, ◌<◌, ◌≤◌, Bool, true, false, ◌||◌, IsTrue, List, [], ◌∷◌, ◌++◌, length}
use Rattle.std.specs.Prelude.{take, zero, suc, Option, Some, None, Result, Ok, Err}
use Rattle.typecodes.specs.declared.message.Message as message
use Rattle.typecodes.specs.declared.spec.Spec.{Spec}
use Rattle.typecodes.specs.Message.{CantBeRead, ReadWhole}
use Rattle.typecodes.specs.Types.{lms_signature_len_of, xmss_signature_len_of}
use Rattle.hss.specs.Signature.{signature_size as hss_signature_size}
use Rattle.state_file.specs.declared.refused.Refused.{Refused}
use Rattle.state_file.specs.declared.record.Bound.{Bound}
use Rattle.state_file.specs.declared.record.Key.{Key}
use Rattle.state_file.specs.declared.record.Record.{Record}
use Rattle.state_file.specs.declared.record.Secret.{Secret}
use Rattle.state_file.specs.declared.record.Secret.TheVariants.{Lms, Hss, Xmss}
use Rattle.state_file.specs.declared.record.Version.{Version}
use Rattle.state_file.specs.declared.store.Store as store
use Rattle.state_file.specs.Disk.{Counts, LeavesOnly}
use Rattle.state_file.specs.Laws.{IsLegal, bottom_of}
use Rattle.state_file.specs.Store.{AddsLoad, Collects, WhileRunning}
pub use Rattle.state_file.specs.Store.{is_fault}
use Rattle.sign_core.specs.declared.key.AnyPublic.{AnyPublic}
use Rattle.sign_core.specs.declared.fault.SignFault.{SignFault}
use Rattle.sign_core.specs.declared.fault.SignFault.TheVariants.{DeviceFailed, NoMemoryToOpen, OutOfMemory}
use Rattle.sign_core.specs.declared.fault.SignFault.TheVariants.{RandomFailed, StoreFailed, Changed, Damaged, Exhausted}
use Rattle.sign_core.specs.declared.fault.SignFault.TheVariants.{Illegal, LedgerFull, LongName, MessageRead, Moved}
use Rattle.sign_core.specs.declared.fault.SignFault.TheVariants.{NoKey, Stopped, Unreadable}
use Rattle.sign_core.specs.declared.source.Source as source
use Rattle.sign_core.specs.Source.{Provides}
use Rattle.sign_core.specs.Records.{binding_at, deepest, the_key, wanted_count}
use Rattle.sign_core.specs.Events.{AreDrawsOf, AreFields, key_sizes}
use Rattle.sign_core.specs.Cuts.{IsBeginning, reached}
use Rattle.sign_core.specs.Textbook.{public_of_key}
use Rattle.sign_core.specs.World.{Chance, Creation, Fate, Opening, Outcome, State, closed_state, created, opened}
use Rattle.sign_core.specs.World.{requested, retired}
use Rattle.sign_core.specs.Caches.{Cached, LacksCache}
use Rattle.sign_core.specs.Ledger.{RunsOutOfMemory, Table}
use Rattle.sign_core.specs.Textbook.{AllHaveSizes}

-- ---- a signer

-- A signer as callers see it: its store, source and records, whether it is open, for how many more records it has
-- memory, and which caches it has.
pub record View (S R : Type 0) : Type 0 where
  pub store : S
  pub random : R
  pub records : List Record
  pub is_open : Bool
  pub spare : ℕ
  pub cached : Cached

-- a signer of these parts, with the ledger's records and memory
abbrev pub view_of : {S R : Type 0} → S → R → Table → (caches : Cached) → (is_open : Bool) → View S R
view_of store random ledger caches is_open = record {
  store = store;
  random = random;
  records = ledger.records;
  is_open = is_open;
  spare = ledger.spare;
  cached = caches;
}

abbrev pub caching : {S R : Type 0} → View S R → Cached → View S R
caching view caches = record view { cached = caches }

abbrev pub state_of : {S R : Type 0} → View S R → State
state_of view = record { records = view.records; is_open = view.is_open }

-- The store runs and has as many records; an honest one has these.
pub record IsTied {S : Type 0} (g : store.Ghosts S) (kept_in : S) (records : List Record) : Type 0 where
  pub running : g.stopped kept_in ≡ false
  pub same_length : length (g.list kept_in) ≡ length records
  pub same : IsTrue (g.honest kept_in) → g.list kept_in ≡ records

-- Its records are legal. While it is open, they are its store's; where it is closed, its store has stopped.
pub record IsSigner {S R : Type 0} (g : store.Ghosts S) (view : View S R) : Type 0 where
  pub legal : IsLegal view.records
  pub sizes : AllHaveSizes view.records
  pub tied : view.is_open ≡ true → IsTied g view.store view.records
  pub shut : view.is_open ≡ false → g.stopped view.store ≡ true

-- ---- what a call does to the store

-- The records that a call adds are added to the store's list, too.
pub record GrowsAlike (old_list new_list old_records new_records : List Record) : Type 0 where
  pub more : List Record
  pub list : new_list ≡ old_list ++ more
  pub records : new_records ≡ old_records ++ more

abbrev pub is_store_failed : SignFault → Bool
is_store_failed StoreFailed = true
is_store_failed _ = false

abbrev pub is_random_failed : SignFault → Bool
is_random_failed RandomFailed = true
is_random_failed _ = false

abbrev pub is_out_of_memory : SignFault → Bool
is_out_of_memory OutOfMemory = true
is_out_of_memory _ = false

-- the device failed while the records were read
abbrev pub is_device_failed : SignFault → Bool
is_device_failed DeviceFailed = true
is_device_failed _ = false

-- the store had stopped before
abbrev pub is_stopped : SignFault → Bool
is_stopped Stopped = true
is_stopped _ = false

-- the slot that an answer 43 names
abbrev pub unreadable_slot : SignFault → List ℕ
unreadable_slot (Unreadable k) = k ∷ []
unreadable_slot _ = []

-- What a call does to its store: the list grows as the records do. A crash at any moment leaves the old records and a
-- beginning of those that the call reached. Each failure of the device is answered.
pub record KeepsStore {S A : Type 0} (g : store.Ghosts S) (old new : S) (records : List Record)
    (outcome : Outcome A) : Type 0 where
  pub list : GrowsAlike (g.list old) (g.list new) records outcome.state.records
  pub moments : WhileRunning (g.honest old) (g.stopped old)
      (LeavesOnly g.moment g.left_since old new (IsBeginning (length records) (reached outcome)))
  pub failures : Counts is_store_failed (g.failures old) (g.failures new) outcome.answer
  pub honest : g.honest new ≡ g.honest old
  pub most : g.most new ≡ g.most old

-- A signer's call ends with this outcome. It loads no record.
pub record Ends {S R A : Type 0} (g : store.Ghosts S) (old new : View S R) (outcome : Outcome A)
    (answer : Result A SignFault) : Type 0 where
  pub answer_is : outcome.answer ≡ answer
  pub records : new.records ≡ outcome.acknowledged
  pub is_open : new.is_open ≡ outcome.state.is_open
  pub store : KeepsStore g old.store new.store old.records outcome
  pub unreadable : g.unreadable new.store ≡ g.unreadable old.store
  pub asked : g.loads new.store ≡ g.loads old.store

-- A crash at any moment of a call that adds nothing leaves the old list.
abbrev pub LeavesOld : {S : Type 0} → store.Ghosts S → (old new : S) → Type 0
LeavesOld g old new = WhileRunning (g.honest old) (g.stopped old)
    (LeavesOnly g.moment g.left_since old new (λ left. left ≡ g.list old))

-- Memory falls by no more than the added records take.
abbrev pub UsesMemory : {S R : Type 0} → (old new : View S R) → Type 0
UsesMemory old new = old.spare + length old.records ≤ new.spare + length new.records

-- a signer that changed at most in its memory and caches
pub record KeepsAll {S R : Type 0} (old new : View S R) : Type 0 where
  pub store : new.store ≡ old.store
  pub random : new.random ≡ old.random
  pub records : new.records ≡ old.records
  pub is_open : new.is_open ≡ old.is_open

-- 25 and 29 can come of an append.
abbrev pub is_of_append : SignFault → Bool
is_of_append StoreFailed = true
is_of_append OutOfMemory = true
is_of_append _ = false

-- Kept holds, unless a record was added or its append failed.
abbrev pub UnlessAppended : {S R A : Type 0} → (old new : View S R) → Result A SignFault → Type 0 → Type 0
UnlessAppended old new answer Kept = new.records ≡ old.records → is_fault is_of_append answer ≡ false → Kept

-- ---- sign

-- the length of a key's signatures in bytes
abbrev pub signature_size : Secret → ℕ
signature_size (Lms secret) = lms_signature_len_of secret.pair
signature_size (Hss levels identifier seed) = hss_signature_size levels
signature_size (Xmss secret) = xmss_signature_len_of secret.tree

-- how many records a new name needs
abbrev pub wanted_total : Secret → Option ℕ → ℕ
wanted_total secret None = 0
wanted_total secret (Some level) = wanted_count secret level

-- Where a request may be refused memory. The output's capacity is too small for the signature; or there is no memory
-- for a new name's records; or a cache is missing. For a new name it is a current tree's, down to the deepest level
-- with a free leaf. For a bound name it is a current tree's that stood before its record.
abbrev pub LacksMemory : {S R : Type 0} → Key → View S R → (level : Option ℕ) → Option (ℕ × Bound) → (capacity : ℕ)
    → Type 0
LacksMemory key view level (Some (k, bound)) capacity = (capacity < signature_size key.secret)
    ⊎ LacksCache key view.records (Some (bottom_of key.secret)) k view.cached
LacksMemory key view level None capacity = (capacity < signature_size key.secret)
    ⊎ (view.spare < wanted_total key.secret level)
    ⊎ LacksCache key view.records level (length view.records) view.cached

-- The message was read whole and gave this text, or can't be read; or it is as it was.
abbrev pub IsRead : {M : Type 0} → message.Ghosts M → (is_read : Bool) → (given : Option (List ℕ)) → M → M → Type 0
IsRead m true (Some text) old new = ReadWhole m.transition m.remaining text old new
IsRead m true None old new = CantBeRead m.transition old new
IsRead m false given old new = new ≡ old

-- A 29 after draws is the store's, which counts it, or is for the cache of a new tree.
abbrev pub RefusesAfterDraws : {A : Type 0} → Result A SignFault → (before after : ℕ) → Type 0
RefusesAfterDraws answer before after =
    Counts is_out_of_memory before after answer ⊎ ((answer ≡ Err OutOfMemory) × (after ≡ before))

-- A 29 is the signer's own, before anything is drawn, or one after draws.
abbrev pub RefusesMemory : {A : Type 0} → (has_room : Bool) → Result A SignFault → (before after : ℕ) → Type 0
RefusesMemory true answer before after = RefusesAfterDraws answer before after
RefusesMemory false answer before after = after ≡ before

-- If memory ran out after a draw, and not in the store, it was for a new tree's cache: at least one tree and the
-- binding weren't recorded yet.
abbrev pub LacksTree : {S R A : Type 0} → store.Ghosts S → (wanted : ℕ) → (old new : View S R) → Result A SignFault
    → Type 0
LacksTree g wanted old new answer = answer ≡ Err OutOfMemory → g.refusals new.store ≡ g.refusals old.store
    → length new.records + 1 < length old.records + wanted

-- Under a new name 22, 26, 28, 30, 31 and 33 come before anything is drawn.
abbrev pub is_before_draws : SignFault → Bool
is_before_draws Exhausted = true
is_before_draws Stopped = true
is_before_draws (Damaged k) = true
is_before_draws LedgerFull = true
is_before_draws Moved = true
is_before_draws LongName = true
is_before_draws _ = false

-- 22, 26, 30, 31 and 33 come before any cache is made, ..
abbrev pub is_before_caches : SignFault → Bool
is_before_caches Exhausted = true
is_before_caches Stopped = true
is_before_caches LedgerFull = true
is_before_caches Moved = true
is_before_caches LongName = true
is_before_caches _ = false

-- .. and so do 21 and 27 under a bound name, whose message is read and compared first.
abbrev pub is_before_repeat : SignFault → Bool
is_before_repeat Changed = true
is_before_repeat MessageRead = true
is_before_repeat fault = is_before_caches fault

-- What an answer leaves as it was, where `wanted` records are needed. 22, 26, 28, 30, 31, 33, and 29 before any draw
-- leave all but memory and caches; a later 29 is the store's, or a new tree's. 22, 26, 30, 31 and 33 leave the caches,
-- too. Each answer leaves the store, unless a record was added or its append failed.
pub record KeepsAtRefusal {S R A : Type 0} (g : store.Ghosts S) (has_room : Bool) (wanted : ℕ) (old new : View S R)
    (answer : Result A SignFault) : Type 0 where
  pub at_once : is_fault is_before_draws answer ≡ true → KeepsAll old new
  pub caches : is_fault is_before_caches answer ≡ true → new.cached ≡ old.cached
  pub unprepared : has_room ≡ false → KeepsAll old new
  pub lacks_tree : has_room ≡ true → LacksTree g wanted old new answer
  pub store : UnlessAppended old new answer (new.store ≡ old.store)

-- Under a bound name only caches change, and not even these where the answer comes before them.
pub record KeepsForRepeat {S R : Type 0} (old new : View S R) (is_early : Bool) : Type 0 where
  pub but_caches : new ≡ caching old new.cached
  pub early : is_early ≡ true → new ≡ old

-- A request is answered by a step of the world, by some chance with the draws of the key's scheme. The source gave the
-- drawn bytes, and memory is refused only where there is too little.
pub record AnswersRequest {S R : Type 0} (g : store.Ghosts S) (r : source.Ghosts R) (old new : View S R)
    (name : List ℕ) (capacity : ℕ) (answer : Result (List ℕ) SignFault) : Type 0 where
  pub key : Key
  pub keyed : the_key old.records ≡ Some key
  pub chance : Chance
  pub outcome : Outcome (List ℕ)
  pub step : requested (g.most old.store) (state_of old) name chance ≡ outcome
  pub ends : Ends g old new outcome answer
  pub possible : AreDrawsOf key.secret chance
  pub source : Provides (r.upcoming old.random) outcome.drawn (r.upcoming new.random)
  pub failures : Counts is_random_failed (r.failures old.random) (r.failures new.random) answer
  pub room : chance.has_room ≡ false
      → LacksMemory key old (deepest key.secret old.records) (binding_at old.records name) capacity
  pub refusals : RefusesMemory chance.has_room answer (g.refusals old.store) (g.refusals new.store)
  pub memory : UsesMemory old new
  pub keeps : let wanted = wanted_total key.secret (deepest key.secret old.records) in
      KeepsAtRefusal g chance.has_room wanted old new answer

-- A call of sign answers a request by such a step, and the message is read or as it was.
pub record Signs {S R M : Type 0} (g : store.Ghosts S) (r : source.Ghosts R) (m : message.Ghosts M)
    (old new : View S R) (name : List ℕ) (before after : M) (capacity : ℕ) (answer : Result (List ℕ) SignFault)
    : Type 0 where
  pub answers : AnswersRequest g r old new name capacity answer
  pub message : IsRead m answers.outcome.is_read answers.chance.given before after

-- ---- retire

-- A call of retire is a step of the world that draws nothing and leaves memory and caches. Unless a record was added or
-- its append failed, it leaves all of the signer.
pub record Retires {S R : Type 0} (g : store.Ghosts S) (old new : View S R) (upto : ℕ)
    (answer : Result (Unit {0}) SignFault) : Type 0 where
  pub fate : Fate
  pub outcome : Outcome (Unit {0})
  pub step : retired (g.most old.store) (state_of old) upto fate ≡ outcome
  pub ends : Ends g old new outcome answer
  pub random : new.random ≡ old.random
  pub cached : new.cached ≡ old.cached
  pub refusals : Counts is_out_of_memory (g.refusals old.store) (g.refusals new.store) answer
  pub spare : new.spare ≡ old.spare
  pub stays : UnlessAppended old new answer (new ≡ old)

-- ---- create and open

-- the store afterwards, in the signer or handed back
abbrev pub store_of_result : {S R : Type 0} → Result (View S R) (Refused (S × R) SignFault) → S
store_of_result (Ok signer) = signer.store
store_of_result (Err refused) = refused.given.0

abbrev pub random_of_result : {S R : Type 0} → Result (View S R) (Refused (S × R) SignFault) → R
random_of_result (Ok signer) = signer.random
random_of_result (Err refused) = refused.given.1

-- A signer answers its public key, and is open on the acknowledged records; or the fault is answered.
abbrev pub IsAnswered : {S R : Type 0} → Result (View S R) (Refused (S × R) SignFault) → Outcome AnyPublic → Type 0
IsAnswered (Ok signer) outcome = (public : AnyPublic) × (outcome.answer ≡ Ok public)
    × (public_of_key (the_key signer.records) ≡ Some public) × (signer.records ≡ outcome.acknowledged)
    × (signer.is_open ≡ true)
IsAnswered (Err refused) outcome = outcome.answer ≡ Err refused.fault

-- why the load of record 0 failed, by the store that it failed on
abbrev pub LoadFails : Option SignFault → List Record → (stopped honest : Bool) → Type 0
LoadFails None list stopped honest = stopped ≡ false
LoadFails (Some Stopped) list stopped honest = stopped ≡ true
LoadFails (Some (Unreadable slot)) list stopped honest =
    (stopped ≡ false) × (honest ≡ false) × (slot ≡ 0) × (0 < length list)
LoadFails (Some StoreFailed) list stopped honest = stopped ≡ false
LoadFails (Some OutOfMemory) list stopped honest = stopped ≡ false
LoadFails (Some _) list stopped honest = ⊥

-- Where record 0 can't be loaded, or is there, the source is as it was.
abbrev pub LeavesSource : {R : Type 0} → (failed_load : Option SignFault) → List Record → (old new : R) → Type 0
LeavesSource (Some fault) list old new = new ≡ old
LeavesSource None [] old new = Unit {0}
LeavesSource None (entry ∷ entries) old new = new ≡ old

-- Making a key in a store is a step of the world by some chance, and its outcome is the answer. It takes no memory of
-- its own. It loads record 0, once, and no other. The store has stopped if it had before, or after a 25; one that had
-- is as it was. After a 43 of k it has reported slot k as unreadable.
pub record MakesKey {S R : Type 0} (g : store.Ghosts S) (r : source.Ghosts R) (version : Version) (spec : Spec)
    (old new : S) (before after : R) (IsAnswer : Outcome AnyPublic → Type 0) : Type 0 where
  pub chance : Creation
  pub of_version : chance.version ≡ version
  pub outcome : Outcome AnyPublic
  pub step : created (closed_state (g.list old)) spec chance ≡ outcome
  pub answer : IsAnswer outcome
  pub store : KeepsStore g old new (g.list old) outcome
  pub stopped : g.stopped new ≡ (is_fault is_store_failed outcome.answer || g.stopped old)
  pub load : LoadFails chance.failed_load (g.list old) (g.stopped old) (g.honest old)
  pub possible : AreFields (key_sizes spec) chance.fields
  pub source : Provides (r.upcoming before) outcome.drawn (r.upcoming after)
  pub leaves : LeavesSource chance.failed_load (g.list old) before after
  pub failures : Counts is_random_failed (r.failures before) (r.failures after) outcome.answer
  pub room : chance.has_room ≡ true
  pub refusals : Counts is_out_of_memory (g.refusals old) (g.refusals new) outcome.answer
  pub unreadable : Collects unreadable_slot (g.unreadable old) (g.unreadable new) outcome.answer
  pub asked : AddsLoad is_stopped 0 (g.loads old) (g.loads new) outcome.answer
  pub stays : g.stopped old ≡ true → new ≡ old

abbrev pub Creates : {S R : Type 0} → store.Ghosts S → source.Ghosts R → Version → Spec → (kept_in : S) → (random : R)
    → Result (View S R) (Refused (S × R) SignFault) → Type 0
Creates g r version spec kept_in random result =
    MakesKey g r version spec kept_in (store_of_result result) random (random_of_result result) (IsAnswered result)

-- the record that couldn't be loaded, and why
abbrev pub StopsOpening : Opening → List Record → (stopped honest : Bool) → Type 0
StopsOpening None list stopped honest = stopped ≡ false
StopsOpening (Some (slot, Stopped)) list stopped honest = (stopped ≡ true) × (slot ≡ 0)
StopsOpening (Some (slot, Unreadable k)) list stopped honest =
    (stopped ≡ false) × (honest ≡ false) × (k ≡ slot) × (slot < length list)
StopsOpening (Some (slot, DeviceFailed)) list stopped honest = (stopped ≡ false) × (slot ≤ length list)
StopsOpening (Some (slot, NoMemoryToOpen)) list stopped honest = (stopped ≡ false) × (slot ≤ length list)
StopsOpening (Some (slot, _)) list stopped honest = ⊥

-- A 46 is the store's, which counts it, or comes where the records run out of memory.
abbrev pub RefusesToOpen : {A : Type 0} → List Record → Result A SignFault → (before after : ℕ) → Type 0
RefusesToOpen records (Err NoMemoryToOpen) before after =
    (after ≡ before + 1) ⊎ ((after ≡ before) × RunsOutOfMemory records)
RefusesToOpen records answer before after = after ≡ before

-- the slots below a number, the last one first
abbrev pub first_slots : ℕ → List ℕ
first_slots zero = []
first_slots (suc n) = n ∷ first_slots n

-- How far an opening goes, by its answer: the loads that it makes, and the records that they give. Ok comes after all
-- records and one more load, which finds their end, unless the store takes no more records. 44 of k comes after record
-- k, a load's refusal after the records before its slot. A 46 that the store doesn't count comes after the record that
-- found no memory.
abbrev pub GoesTo : {A : Type 0} (most : ℕ) → Opening → List Record → (refusals_before refusals_after : ℕ)
    → (loads given : ℕ) → Result A SignFault → Type 0
GoesTo most chance records before after loads given (Ok _) =
    (given ≡ length records) × ((loads ≡ given + 1) ⊎ ((loads ≡ given) × (given ≡ most)))
GoesTo most chance records before after loads given (Err NoKey) = (given ≡ 0) × (loads ≡ 1)
GoesTo most chance records before after loads given (Err Stopped) = (given ≡ 0) × (loads ≡ 0)
GoesTo most chance records before after loads given (Err (Illegal k)) = (given ≡ k + 1) × (loads ≡ given)
GoesTo most chance records before after loads given (Err (Unreadable k)) = (given ≡ k) × (loads ≡ given + 1)
GoesTo most (Some (slot, _)) records before after loads given (Err DeviceFailed) =
    (given ≡ slot) × (loads ≡ given + 1)
GoesTo most (Some (slot, _)) records before after loads given (Err NoMemoryToOpen) =
    ((given ≡ slot) × (loads ≡ given + 1) × (after ≡ before + 1))
    ⊎ ((given ≡ slot + 1) × (loads ≡ given) × (lacks : RunsOutOfMemory records) × (lacks.place ≡ slot))
GoesTo most chance records before after loads given (Err _) = ⊥

-- Opening on the records of a store is a step of the world, and its outcome is the answer. The records are as many as
-- the store's, and an honest store's own. The store has stopped if it had before, or after a 45; one that had is as it
-- was. After a 43 of k it has reported slot k as unreadable.
pub record OpensRecords {S : Type 0} (g : store.Ghosts S) (old new : S) (IsAnswer : Outcome AnyPublic → Type 0)
    : Type 0 where
  pub records : List Record
  pub same_length : length records ≡ length (g.list old)
  pub same : IsTrue (g.honest old) → records ≡ g.list old
  pub chance : Opening
  pub outcome : Outcome AnyPublic
  pub step : opened (closed_state records) chance ≡ outcome
  pub answer : IsAnswer outcome
  pub load : StopsOpening chance (g.list old) (g.stopped old) (g.honest old)
  pub stopped : g.stopped new ≡ (is_fault is_device_failed outcome.answer || g.stopped old)
  pub list : g.list new ≡ g.list old
  pub moments : LeavesOld g old new
  pub failures : Counts is_device_failed (g.failures old) (g.failures new) outcome.answer
  pub refusals : RefusesToOpen records outcome.answer (g.refusals old) (g.refusals new)
  pub unreadable : Collects unreadable_slot (g.unreadable old) (g.unreadable new) outcome.answer
  pub honest : g.honest new ≡ g.honest old
  pub most : g.most new ≡ g.most old
  pub stays : g.stopped old ≡ true → new ≡ old

-- Opening by loads asks for slot after slot from 0 on, and ends at the first refusal (`GoesTo`).
pub record LoadsAll {S : Type 0} (g : store.Ghosts S) (old new : S) (IsAnswer : Outcome AnyPublic → Type 0)
    : Type 0 where
  pub opening : OpensRecords g old new IsAnswer
  pub loads : ℕ
  pub given : ℕ
  pub asked : g.loads new ≡ first_slots loads ++ g.loads old
  pub gave : g.given new ≡ g.given old ++ take given opening.records
  pub order : GoesTo (g.most old) opening.chance opening.records (g.refusals old) (g.refusals new) loads given
      opening.outcome.answer

-- A call of open loads the records, and draws nothing.
pub record Opens {S R : Type 0} (g : store.Ghosts S) (kept_in : S) (random : R)
    (result : Result (View S R) (Refused (S × R) SignFault)) : Type 0 where
  pub loads : LoadsAll g kept_in (store_of_result result) (IsAnswered result)
  pub same_random : random_of_result result ≡ random

-- What stops an opening on records that were read before: nothing, or want of memory for one of them.
abbrev pub LacksMemoryAt : Opening → List Record → Type 0
LacksMemoryAt None records = Unit {0}
LacksMemoryAt (Some (slot, NoMemoryToOpen)) records = (lacks : RunsOutOfMemory records) × (lacks.place ≡ slot)
LacksMemoryAt (Some (slot, _)) records = ⊥

-- A call of open_replayed opens on the store's own records. It leaves the store, so it loads none, and draws nothing.
pub record OpensReplayed {S R : Type 0} (g : store.Ghosts S) (kept_in : S) (random : R)
    (result : Result (View S R) (Refused (S × R) SignFault)) : Type 0 where
  pub opening : OpensRecords g kept_in (store_of_result result) (IsAnswered result)
  pub own : opening.records ≡ g.list kept_in
  pub memory : LacksMemoryAt opening.chance opening.records
  pub same_store : store_of_result result ≡ kept_in
  pub same_random : random_of_result result ≡ random
