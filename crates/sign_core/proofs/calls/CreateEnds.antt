-- Each end of a create is a step of the world.
use Rattle.std.proofs.Common.{◌≡◌, ◌⊎◌, ℕ, ◌+◌, ◌≤◌, Bool, true, List, [], ◌∷◌, ◌++◌, length, Some, None, Result, Ok, Err, refl, sym, ap, ◌∙◌}
use Rattle.std.proofs.Common.{subst, arith, append-nil, inl, inr, IsTrue, true≢false, ◌||◌}
use Rattle.std.proofs.lemmas.Bool.Decides.{nat_tests}
use Rattle.std.specs.Prelude.{Option, nat_le, if◌then◌else◌}
use Rattle.std.specs.List.{concat}
use Rattle.typecodes.specs.declared.spec.Spec.{Spec}
use Rattle.typecodes.specs.Spec.{IsSpec}
use Rattle.state_file.specs.declared.record.Record.{Record}
use Rattle.state_file.specs.declared.record.Record.TheVariants.{Key as KeyRecord}
use Rattle.state_file.specs.declared.record.Secret.{Secret}
use Rattle.state_file.specs.declared.store.Store as store
use Rattle.state_file.specs.Disk.{Counts, LeavesOnly}
use Rattle.state_file.specs.Store.{AddsLoad, Collects, WhileRunning}
use Rattle.state_file.proofs.Moments.{combined}
use Rattle.sign_core.specs.declared.key.AnyPublic.{AnyPublic}
use Rattle.sign_core.specs.declared.fault.SignFault.{SignFault}
use Rattle.sign_core.specs.declared.fault.SignFault.TheVariants.{RandomRepeated, MessageRead, Moved, RetireRange, LongName, NoKey, Illegal, DeviceFailed, NoMemoryToOpen}
use Rattle.sign_core.specs.declared.fault.SignFault.TheVariants.{Changed, Exhausted, RandomFailed, StoreFailed, Stopped, Damaged, OutOfMemory, LedgerFull}
use Rattle.sign_core.specs.declared.fault.SignFault.TheVariants.{Unreadable, KeyThere}
use Rattle.sign_core.specs.declared.source.Source as source
use Rattle.sign_core.specs.Source.{Provides}
use Rattle.sign_core.specs.Cuts.{IsBeginning}
use Rattle.state_file.specs.declared.refused.Refused.{Refused}
use Rattle.sign_core.specs.inner.Signer.{DrawsSecret, HoldsParts, IsTakenUp, LooksForKey}
use Rattle.sign_core.proofs.calls.StoreFaults.{IsAppended}
use Rattle.sign_core.specs.Ledger.{Table}
use Rattle.sign_core.specs.Records.{the_key}
use Rattle.sign_core.specs.Signer.{Creates, IsAnswered, KeepsStore, LeavesOld, LeavesSource, LoadFails, MakesKey, View}
use Rattle.sign_core.specs.Signer.{is_fault, is_store_failed, is_random_failed, is_out_of_memory, is_stopped, unreadable_slot}
use Rattle.sign_core.specs.World.{Creation, Fate, Outcome, acked, answered, appended, closed_state, created, cut, cut_new, cut_old, drawing}
use Rattle.sign_core.proofs.steps.Cases.{begun}
use Rattle.sign_core.specs.World.{new_key, no_memory, open_state, refused, secret_of_fields}
use Rattle.sign_core.proofs.steps.Cases.{published}
use Rattle.sign_core.specs.Textbook.{any_public_of, public_of_key}
use Rattle.sign_core.proofs.calls.AppendMoments.{moments_kept, moments_left}
use Rattle.sign_core.proofs.calls.SecretDraws.{provides_none}
use Rattle.sign_core.proofs.records.Sizes.{spec_public}
use Rattle.state_file.specs.declared.record.Version.{Version}

-- ---- refused before the append

keeps_old : {S A : Type 0} (g : store.Ghosts S) (old new : S) (bytes : List ℕ) (fault : SignFault) → g.list new ≡ g.list old → LeavesOld g old new
    → Counts {A = A} is_store_failed (g.failures old) (g.failures new) (Err fault) → g.honest new ≡ g.honest old → g.most new ≡ g.most old
    → KeepsStore g old new (g.list old) (drawing bytes (refused {A = A} (closed_state (g.list old)) fault))
keeps_old g old new bytes fault same leaves failures honest most = record {
  list = record { more = []; list = same ∙ sym (append-nil _); records = sym (append-nil _) };
  moments = moments_kept g old new (g.list old) [] _ leaves (λ _. refl) refl;
  failures = failures;
  honest = honest;
  most = most;
}

-- a source that is as it was, and one that is drawn from where no record stands
untouched : {R : Type 0} (failed : Option SignFault) (list : List Record) (random : R) → LeavesSource failed list random random
untouched (Some fault) list random = refl
untouched None [] random = tt
untouched None (first ∷ rest) random = refl

drawn_from : {R : Type 0} (list : List Record) (before after : R) → length list ≡ 0 → LeavesSource None list before after
drawn_from [] before after none = tt
drawn_from (first ∷ rest) before after none = absurd (omega (arith, none))

-- a create that ends at its look for a key
refused_first : {S R : Type 0} (g : store.Ghosts S) (r : source.Ghosts R) (version : Version) (spec : Spec) (old new : S) (random : R) (fault : SignFault)
    (failed : Option SignFault) → LooksForKey {A = Unit {0}} g old new (Err fault) → LoadFails failed (g.list old) (g.stopped old) (g.honest old)
    → created (closed_state (g.list old)) spec (record { version = version; failed_load = failed; fields = []; has_room = true; fate = acked })
    ≡ refused (closed_state (g.list old)) fault
    → Counts {A = AnyPublic} is_store_failed (g.failures old) (g.failures new) (Err fault)
    → Counts {A = AnyPublic} is_random_failed (r.failures random) (r.failures random) (Err fault)
    → MakesKey g r version spec old new random random (IsTakenUp (Err fault))
refused_first g r version spec old new random fault failed is load step failures unfailed = record {
  chance = record { version = version; failed_load = failed; fields = []; has_room = true; fate = acked };
  of_version = refl;
  outcome = refused (closed_state (g.list old)) fault;
  step = step;
  answer = refl;
  store = keeps_old g old new [] fault is.list is.moments failures is.honest is.most;
  stopped = is.stopped;
  load = load;
  possible = tt;
  source = provides_none (r.upcoming random);
  leaves = untouched failed (g.list old) random;
  failures = unfailed;
  room = refl;
  refusals = is.refusals;
  unreadable = is.unreadable;
  asked = is.asked;
  stays = is.stays;
}

there_step : (version : Version) (list : List Record) (spec : Spec) → 1 ≤ length list
    → created (closed_state list) spec (record { version = version; failed_load = None; fields = []; has_room = true; fate = acked }) ≡ refused (closed_state list) KeyThere
there_step version list spec some =
    let chance : Creation = record { version = version; failed_load = None; fields = []; has_room = true; fate = acked } in
    let state = closed_state list in
    let there : nat_le 1 (length list) ≡ true = grind (arith, nat_tests) in
    ap (λ (is : Bool). if is then refused {A = AnyPublic} state KeyThere else drawing [] (begun state chance (secret_of_fields spec []))) there

pub looked : {S R : Type 0} (g : store.Ghosts S) (r : source.Ghosts R) (version : Version) (spec : Spec) (old new : S) (random : R) (fault : SignFault)
    → LooksForKey {A = Unit {0}} g old new (Err fault) → MakesKey g r version spec old new random random (IsTakenUp (Err fault))
looked g r version spec old new random KeyThere is =
    refused_first g r version spec old new random KeyThere None is is.finds.0 (there_step version (g.list old) spec is.finds.1) is.finds.2 refl
looked g r version spec old new random Stopped is = refused_first g r version spec old new random Stopped (Some Stopped) is is.finds.0 refl is.finds.1 refl
looked g r version spec old new random (Unreadable slot) is =
    refused_first g r version spec old new random (Unreadable slot) (Some (Unreadable slot)) is (is.finds.0, is.finds.1, is.finds.2, is.finds.3) refl is.finds.4 refl
looked g r version spec old new random StoreFailed is =
    refused_first g r version spec old new random StoreFailed (Some StoreFailed) is is.finds.0 refl is.finds.1 refl
looked g r version spec old new random OutOfMemory is =
    refused_first g r version spec old new random OutOfMemory (Some OutOfMemory) is is.finds.0 refl is.finds.1 refl
looked g r version spec old new random Changed is = absurd is.finds
looked g r version spec old new random Exhausted is = absurd is.finds
looked g r version spec old new random RandomFailed is = absurd is.finds
looked g r version spec old new random LedgerFull is = absurd is.finds
looked g r version spec old new random RandomRepeated is = absurd is.finds
looked g r version spec old new random MessageRead is = absurd is.finds
looked g r version spec old new random Moved is = absurd is.finds
looked g r version spec old new random RetireRange is = absurd is.finds
looked g r version spec old new random LongName is = absurd is.finds
looked g r version spec old new random NoKey is = absurd is.finds
looked g r version spec old new random DeviceFailed is = absurd is.finds
looked g r version spec old new random NoMemoryToOpen is = absurd is.finds
looked g r version spec old new random (Damaged k) is = absurd is.finds
looked g r version spec old new random (Illegal k) is = absurd is.finds

empty_step : (version : Version) (list : List Record) (spec : Spec) (fields : List (List ℕ)) (fate : Fate) (secret : Option Secret) → length list ≡ 0
    → secret_of_fields spec fields ≡ secret
    → created (closed_state list) spec (record { version = version; failed_load = None; fields = fields; has_room = true; fate = fate })
    ≡ drawing (concat fields) (begun (closed_state list) (record { version = version; failed_load = None; fields = fields; has_room = true; fate = fate }) secret)
empty_step version [] spec fields fate secret none is =
    ap (λ s. drawing (concat fields) (begun (closed_state []) (record { version = version; failed_load = None; fields = fields; has_room = true; fate = fate }) s)) is
empty_step version (first ∷ rest) spec fields fate secret none is = absurd (omega (arith, none))

undrawn_random : {S R : Type 0} (g : store.Ghosts S) (r : source.Ghosts R) (version : Version) (spec : Spec) (old mid : S) (before after : R)
    → LooksForKey {A = Unit {0}} g old mid (Ok tt) → DrawsSecret r spec before after (Err RandomFailed)
    → MakesKey g r version spec old mid before after (IsTakenUp (Err RandomFailed))
undrawn_random g r version spec old mid before after is draws = record {
  chance = record { version = version; failed_load = None; fields = draws.fields; has_room = true; fate = acked };
  of_version = refl;
  outcome = drawing (concat draws.fields) (refused (closed_state (g.list old)) RandomFailed);
  step = empty_step version (g.list old) spec draws.fields acked None is.finds.1 draws.drawn;
  answer = refl;
  store = keeps_old g old mid (concat draws.fields) RandomFailed is.list is.moments is.finds.3 is.honest is.most;
  stopped = is.stopped;
  load = is.finds.0;
  possible = draws.possible;
  source = subst (λ bytes. Provides (r.upcoming before) bytes (r.upcoming after)) (sym (append-nil (concat draws.fields))) draws.source;
  leaves = drawn_from (g.list old) before after is.finds.1;
  failures = draws.failures;
  room = refl;
  refusals = is.refusals;
  unreadable = is.unreadable;
  asked = is.asked;
  stays = λ stopped. absurd (true≢false (sym stopped ∙ is.finds.0));
}

pub undrawn : {S R : Type 0} (g : store.Ghosts S) (r : source.Ghosts R) (version : Version) (spec : Spec) (old mid : S) (before after : R) (fault : SignFault)
    → LooksForKey {A = Unit {0}} g old mid (Ok tt) → DrawsSecret r spec before after (Err fault)
    → MakesKey g r version spec old mid before after (IsTakenUp (Err fault))
undrawn g r version spec old mid before after RandomFailed is draws = undrawn_random g r version spec old mid before after is draws
undrawn g r version spec old mid before after Changed is draws = absurd draws.drawn
undrawn g r version spec old mid before after Exhausted is draws = absurd draws.drawn
undrawn g r version spec old mid before after StoreFailed is draws = absurd draws.drawn
undrawn g r version spec old mid before after OutOfMemory is draws = absurd draws.drawn
undrawn g r version spec old mid before after LedgerFull is draws = absurd draws.drawn
undrawn g r version spec old mid before after Stopped is draws = absurd draws.drawn
undrawn g r version spec old mid before after KeyThere is draws = absurd draws.drawn
undrawn g r version spec old mid before after RandomRepeated is draws = absurd draws.drawn
undrawn g r version spec old mid before after MessageRead is draws = absurd draws.drawn
undrawn g r version spec old mid before after Moved is draws = absurd draws.drawn
undrawn g r version spec old mid before after RetireRange is draws = absurd draws.drawn
undrawn g r version spec old mid before after LongName is draws = absurd draws.drawn
undrawn g r version spec old mid before after NoKey is draws = absurd draws.drawn
undrawn g r version spec old mid before after DeviceFailed is draws = absurd draws.drawn
undrawn g r version spec old mid before after NoMemoryToOpen is draws = absurd draws.drawn
undrawn g r version spec old mid before after (Damaged k) is draws = absurd draws.drawn
undrawn g r version spec old mid before after (Unreadable k) is draws = absurd draws.drawn
undrawn g r version spec old mid before after (Illegal k) is draws = absurd draws.drawn

-- ---- the append

-- The store after the look for a key and the append of a Key: a crash left the old list, or the Key as well.
pub record HasAppended {S A : Type 0} (g : store.Ghosts S) (old mid new : S) (entry : Record) (answer : Result A SignFault) : Type 0 where
  pub looked : LooksForKey {A = Unit {0}} g old mid (Ok tt)
  pub appended : IsAppended g mid new entry answer

honest_mid : {S A : Type 0} {g : store.Ghosts S} {old mid new : S} {entry : Record} {answer : Result A SignFault} → HasAppended g old mid new entry answer
    → IsTrue (g.honest old) → IsTrue (g.honest mid)
honest_mid has honest = subst IsTrue (sym has.looked.honest) honest

both_moments : {S A : Type 0} (g : store.Ghosts S) (old mid new : S) (entry : Record) (answer : Result A SignFault) (all : List Record)
    → HasAppended g old mid new entry answer → all ≡ g.list old ++ entry ∷ []
    → WhileRunning (g.honest old) (g.stopped old) (LeavesOnly g.moment g.left_since old new (IsBeginning (length (g.list old)) all))
both_moments g old mid new entry answer all has is honest running =
    combined g.moment g.left_since old mid new _ (moments_kept g old mid (g.list old) (entry ∷ []) all has.looked.moments (λ _. refl) is honest running)
    (moments_left g mid new entry (g.list old) all has.appended.moments (λ _. has.looked.list) is (honest_mid has honest) has.looked.finds.2)

old_moments : {S A : Type 0} (g : store.Ghosts S) (old mid new : S) (entry : Record) (answer : Result A SignFault)
    → HasAppended g old mid new entry answer → LeavesOld g mid new → (all : List Record) → all ≡ g.list old ++ []
    → WhileRunning (g.honest old) (g.stopped old) (LeavesOnly g.moment g.left_since old new (IsBeginning (length (g.list old)) all))
old_moments g old mid new entry answer has leaves all is honest running =
    combined g.moment g.left_since old mid new _ (moments_kept g old mid (g.list old) [] all has.looked.moments (λ _. refl) is honest running)
    (moments_kept g mid new (g.list old) [] all leaves (λ _. has.looked.list) is (honest_mid has honest) has.looked.finds.2)

-- a key whose append has this fate, with its public key where it is acknowledged
made_by_fate : {S R : Type 0} (g : store.Ghosts S) (r : source.Ghosts R) (version : Version) (spec : Spec) (old mid new : S) (before after : R) (secret : Secret) (fate : Fate)
    (outcome : Outcome AnyPublic) (answer : Result (Unit {0}) SignFault) (IsAnswer : Outcome AnyPublic → Type 0)
    → HasAppended g old mid new (KeyRecord (new_key version secret)) answer → (draws : DrawsSecret r spec before after (Ok secret))
    → appended (closed_state (g.list old)) (KeyRecord (new_key version secret)) fate (λ records. published records (any_public_of (new_key version secret))) ≡ outcome
    → outcome.drawn ≡ [] → IsAnswer (drawing (concat draws.fields) outcome) → KeepsStore g old new (g.list old) (drawing (concat draws.fields) outcome)
    → g.stopped new ≡ (is_fault is_store_failed outcome.answer || g.stopped old)
    → Counts is_random_failed (r.failures before) (r.failures after) outcome.answer
    → Counts is_out_of_memory (g.refusals old) (g.refusals new) outcome.answer
    → Collects unreadable_slot (g.unreadable old) (g.unreadable new) outcome.answer
    → AddsLoad is_stopped 0 (g.loads old) (g.loads new) outcome.answer
    → MakesKey g r version spec old new before after IsAnswer
made_by_fate g r version spec old mid new before after secret fate outcome answer IsAnswer has draws step undrawn is keeps stopped failures refusals unreadable asked = record {
  chance = record { version = version; failed_load = None; fields = draws.fields; has_room = true; fate = fate };
  of_version = refl;
  outcome = drawing (concat draws.fields) outcome;
  step = empty_step version (g.list old) spec draws.fields fate (Some secret) has.looked.finds.1 draws.drawn ∙ ap (drawing (concat draws.fields)) step;
  answer = is;
  store = keeps;
  stopped = stopped;
  load = has.looked.finds.0;
  possible = draws.possible;
  source = subst (λ bytes. Provides (r.upcoming before) bytes (r.upcoming after))
      (sym (ap (λ bytes. concat draws.fields ++ bytes) undrawn ∙ append-nil (concat draws.fields))) draws.source;
  leaves = drawn_from (g.list old) before after has.looked.finds.1;
  failures = failures;
  room = refl;
  refusals = refusals;
  unreadable = unreadable;
  asked = asked;
  stays = λ before. absurd (true≢false (sym before ∙ has.looked.finds.0));
}

alone : (list : List Record) (entry : Record) → length list ≡ 0 → list ++ entry ∷ [] ≡ entry ∷ []
alone [] entry none = refl
alone (first ∷ rest) entry none = absurd (omega (arith, none))

pub made : {S R : Type 0} (g : store.Ghosts S) (r : source.Ghosts R) (version : Version) (spec : Spec) (old mid new : S) (before after : R) (secret : Secret)
    (table : Table) → table.records ≡ KeyRecord (new_key version secret) ∷ [] → IsSpec spec
    → DrawsSecret r spec before after (Ok secret) → HasAppended {A = Unit {0}} g old mid new (KeyRecord (new_key version secret)) (Ok tt)
    → MakesKey g r version spec old new before after (IsTakenUp (Ok table))
made g r version spec old mid new before after secret table records can draws has =
    let entry = KeyRecord (new_key version secret) in
    let list = g.list old ++ entry ∷ [] in
    let (public, is) = spec_public spec draws.fields secret can draws.drawn in
    let loaded = has.looked in
    let stored = has.appended in
    made_by_fate g r version spec old mid new before after secret acked (answered (open_state list) public) (Ok tt) (IsTakenUp (Ok table)) has draws
    (ap (published list) is) refl
    (public, refl, ap (λ l. public_of_key (the_key l)) records ∙ is, records ∙ sym (alone (g.list old) entry loaded.finds.1))
    (record {
      list = record { more = entry ∷ []; list = stored.stored.0 ∙ ap (λ l. l ++ entry ∷ []) loaded.list; records = refl };
      moments = both_moments g old mid new entry (Ok tt) _ has (append-nil _);
      failures = stored.stored.2 ∙ loaded.finds.3;
      honest = stored.honest ∙ loaded.honest;
      most = stored.most ∙ loaded.most;
    }) (stored.stored.1 ∙ sym loaded.finds.0) draws.failures (stored.refusals ∙ loaded.refusals) (stored.unreadable ∙ loaded.unreadable) (stored.asked ∙ loaded.asked)

made_cut : {S R : Type 0} (g : store.Ghosts S) (r : source.Ghosts R) (version : Version) (spec : Spec) (old mid new : S) (before after : R) (secret : Secret)
    → (draws : DrawsSecret r spec before after (Ok secret)) → (has : HasAppended {A = Unit {0}} g old mid new (KeyRecord (new_key version secret)) (Err StoreFailed))
    → (g.list new ≡ g.list mid) ⊎ (g.list new ≡ g.list mid ++ KeyRecord (new_key version secret) ∷ [])
    → MakesKey g r version spec old new before after (IsTakenUp (Err StoreFailed))
made_cut g r version spec old mid new before after secret draws has (inl same) =
    let entry = KeyRecord (new_key version secret) in
    let loaded = has.looked in
    let stored = has.appended in
    made_by_fate g r version spec old mid new before after secret cut_old (cut (g.list old) entry (g.list old)) (Err StoreFailed) (IsTakenUp (Err StoreFailed)) has draws
    refl refl refl
    (record {
      list = record { more = []; list = same ∙ loaded.list ∙ sym (append-nil _); records = sym (append-nil _) };
      moments = both_moments g old mid new entry (Err StoreFailed) _ has refl;
      failures = stored.stored.2 ∙ ap (λ n. n + 1) loaded.finds.3;
      honest = stored.honest ∙ loaded.honest;
      most = stored.most ∙ loaded.most;
    }) stored.stored.1 draws.failures (stored.refusals ∙ loaded.refusals) (stored.unreadable ∙ loaded.unreadable) (stored.asked ∙ loaded.asked)
made_cut g r version spec old mid new before after secret draws has (inr more) =
    let entry = KeyRecord (new_key version secret) in
    let loaded = has.looked in
    let stored = has.appended in
    made_by_fate g r version spec old mid new before after secret cut_new (cut (g.list old) entry (g.list old ++ entry ∷ [])) (Err StoreFailed)
    (IsTakenUp (Err StoreFailed)) has draws refl refl refl
    (record {
      list = record { more = entry ∷ []; list = more ∙ ap (λ l. l ++ entry ∷ []) loaded.list; records = refl };
      moments = both_moments g old mid new entry (Err StoreFailed) _ has refl;
      failures = stored.stored.2 ∙ ap (λ n. n + 1) loaded.finds.3;
      honest = stored.honest ∙ loaded.honest;
      most = stored.most ∙ loaded.most;
    }) stored.stored.1 draws.failures (stored.refusals ∙ loaded.refusals) (stored.unreadable ∙ loaded.unreadable) (stored.asked ∙ loaded.asked)

pub unmade : {S R : Type 0} (g : store.Ghosts S) (r : source.Ghosts R) (version : Version) (spec : Spec) (old mid new : S) (before after : R) (secret : Secret) (fault : SignFault)
    → DrawsSecret r spec before after (Ok secret) → HasAppended {A = Unit {0}} g old mid new (KeyRecord (new_key version secret)) (Err fault)
    → MakesKey g r version spec old new before after (IsTakenUp (Err fault))
unmade g r version spec old mid new before after secret StoreFailed draws has =
    made_cut g r version spec old mid new before after secret draws has has.appended.stored.0
unmade g r version spec old mid new before after secret OutOfMemory draws has =
    let entry = KeyRecord (new_key version secret) in
    let loaded = has.looked in
    let stored = has.appended in
    made_by_fate g r version spec old mid new before after secret no_memory (refused (closed_state (g.list old)) OutOfMemory) (Err OutOfMemory)
    (IsTakenUp (Err OutOfMemory)) has draws refl refl refl
    (record {
      list = record { more = []; list = stored.stored.0 ∙ loaded.list ∙ sym (append-nil _); records = sym (append-nil _) };
      moments = old_moments g old mid new entry (Err OutOfMemory) has (stored.refused refl) _ refl;
      failures = stored.stored.2 ∙ loaded.finds.3;
      honest = stored.honest ∙ loaded.honest;
      most = stored.most ∙ loaded.most;
    }) (stored.stored.1 ∙ sym loaded.finds.0) draws.failures (stored.refusals ∙ ap (λ n. n + 1) loaded.refusals)
    (stored.unreadable ∙ loaded.unreadable) (stored.asked ∙ loaded.asked)
unmade g r version spec old mid new before after secret Changed draws has = absurd has.appended.stored
unmade g r version spec old mid new before after secret Exhausted draws has = absurd has.appended.stored
unmade g r version spec old mid new before after secret LedgerFull draws has = absurd has.appended.stored
unmade g r version spec old mid new before after secret Stopped draws has = absurd has.appended.stored
unmade g r version spec old mid new before after secret KeyThere draws has = absurd has.appended.stored
unmade g r version spec old mid new before after secret RandomRepeated draws has = absurd has.appended.stored
unmade g r version spec old mid new before after secret MessageRead draws has = absurd has.appended.stored
unmade g r version spec old mid new before after secret Moved draws has = absurd has.appended.stored
unmade g r version spec old mid new before after secret RetireRange draws has = absurd has.appended.stored
unmade g r version spec old mid new before after secret LongName draws has = absurd has.appended.stored
unmade g r version spec old mid new before after secret NoKey draws has = absurd has.appended.stored
unmade g r version spec old mid new before after secret DeviceFailed draws has = absurd has.appended.stored
unmade g r version spec old mid new before after secret NoMemoryToOpen draws has = absurd has.appended.stored
unmade g r version spec old mid new before after secret (Damaged k) draws has = absurd has.appended.stored
unmade g r version spec old mid new before after secret (Unreadable k) draws has = absurd has.appended.stored
unmade g r version spec old mid new before after secret (Illegal k) draws has = absurd has.appended.stored
unmade g r version spec old mid new before after secret RandomFailed draws has = absurd has.appended.stored

-- ---- the signer of a new key

-- another answer of the same outcome
made_with : {S R : Type 0} (g : store.Ghosts S) (r : source.Ghosts R) (version : Version) (spec : Spec) (old new : S) (before after : R)
    (P Q : Outcome AnyPublic → Type 0) → ((outcome : Outcome AnyPublic) → P outcome → Q outcome)
    → MakesKey g r version spec old new before after P → MakesKey g r version spec old new before after Q
made_with g r version spec old new before after P Q to makes = record {
  chance = makes.chance;
  of_version = makes.of_version;
  outcome = makes.outcome;
  step = makes.step;
  answer = to makes.outcome makes.answer;
  store = makes.store;
  stopped = makes.stopped;
  load = makes.load;
  possible = makes.possible;
  source = makes.source;
  leaves = makes.leaves;
  failures = makes.failures;
  room = makes.room;
  refusals = makes.refusals;
  unreadable = makes.unreadable;
  asked = makes.asked;
  stays = makes.stays;
}

pub held_new : {S R : Type 0} (g : store.Ghosts S) (r : source.Ghosts R) (version : Version) (spec : Spec) (old new : S) (before after : R)
    (made : Result Table SignFault) (result : Result (View S R) (Refused (S × R) SignFault))
    → MakesKey g r version spec old new before after (IsTakenUp made) → HoldsParts new after made result → Creates g r version spec old before result
held_new {S = S} {R = R} g r version spec old new before after made result makes holds =
    subst (λ (p : S × R). MakesKey g r version spec old p.0 before p.1 (IsAnswered result)) (λ i. (sym holds.store_is i, sym holds.random_is i))
    (made_with g r version spec old new before after (IsTakenUp made) (IsAnswered result) holds.answer makes)
