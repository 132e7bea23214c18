-- Each end of a call of sign is a step of the world.
use Rattle.std.proofs.Common.{◌≡◌, ◌∙◌, ℕ, ◌+◌, ◌-◌, ◌<◌, ◌≤◌, Bool, true, false, not, List, [], ◌++◌, length, Option, Some, None, Result, Ok, Err, refl}
use Rattle.std.proofs.Common.{sym, ap, ap₂, subst, inl, arith, true≢false, append-nil}
use Rattle.std.specs.Prelude.{take, nat_lt, if◌then◌else◌, option_map, OnOk}
use Rattle.std.specs.Option.{ok_or}
use Rattle.std.proofs.Math.Seq.{take-length}
use Rattle.std.proofs.lemmas.Bool.Decides.{nat_tests}
use Rattle.std.proofs.lemmas.Option.{none-some, same_Some}
use Rattle.typecodes.specs.declared.message.Message as message
use Rattle.state_file.specs.declared.record.Bound.{Bound}
use Rattle.state_file.specs.declared.record.Key.{Key}
use Rattle.state_file.specs.declared.record.Record.{Record}
use Rattle.state_file.specs.declared.store.Store as store
use Rattle.state_file.specs.Disk.{Counts}
use Rattle.state_file.specs.Laws.{bottom_of, levels_of}
use Rattle.state_file.proofs.Moments.{started}
use Rattle.sign_core.specs.declared.fault.SignFault.{SignFault}
use Rattle.sign_core.specs.declared.fault.SignFault.TheVariants.{RandomRepeated, MessageRead, Moved, RetireRange, LongName, NoKey, Illegal, DeviceFailed, NoMemoryToOpen}
use Rattle.sign_core.specs.declared.fault.SignFault.TheVariants.{Changed, Exhausted, RandomFailed, StoreFailed, Stopped, Damaged, OutOfMemory, LedgerFull}
use Rattle.sign_core.specs.declared.fault.SignFault.TheVariants.{Unreadable, KeyThere}
use Rattle.sign_core.specs.declared.source.Source as source
use Rattle.sign_core.specs.declared.ledger.Binding.{Binding}
use Rattle.sign_core.specs.Source.{Provides}
use Rattle.sign_core.specs.Records.{are_same, binding_at, deepest, has_moved, the_key, wanted_count, is_long}
use Rattle.sign_core.specs.Cuts.{IsBeginning}
use Rattle.sign_core.specs.inner.Bind.{HasPrepared, Prepares}
use Rattle.sign_core.specs.Caches.{Cached}
use Rattle.sign_core.specs.inner.Signer.{Hinders}
use Rattle.sign_core.specs.Signer.{IsRead, IsSigner, IsTied, KeepsAll, KeepsForRepeat, KeepsStore, LacksMemory, LacksTree, RefusesMemory, wanted_total, Signs, View, is_out_of_memory}
use Rattle.sign_core.specs.Signer.{is_before_caches, is_before_repeat, is_fault, is_random_failed, is_store_failed, signature_size, state_of}
use Rattle.sign_core.specs.inner.Signing.{CanBind, BindsBelow, Does, IsBindingOf, IsReady, Repeats, repeat_chance}
use Rattle.sign_core.specs.Signing.{UnderKey, answered_value}
use Rattle.sign_core.specs.Ledger.{kept_of}
use Rattle.sign_core.specs.Events.{AreDrawsOf}
use Rattle.sign_core.specs.Signer.{KeepsAtRefusal}
use Rattle.sign_core.specs.World.{Chance, Outcome, State, reading, refused, requested}
use Rattle.sign_core.specs.inner.Cases.{requested_binding}
use Rattle.sign_core.proofs.steps.Cases.{bound_level, bound_sound, repeated, repeated_sound, requested_key}
use Rattle.sign_core.specs.Textbook.{damaged_at, digest_at, current_at}
use Rattle.sign_core.proofs.calls.AppendMoments.{LeavesItsList}
use Rattle.sign_core.proofs.calls.RefusedCalls.{after_caches, before_repeat, keeps_at_all, keeps_after_draws, same_view}

-- A new name, where there is room, and this level is the deepest with a free leaf.
pub record Binds {S R M : Type 0} (g : store.Ghosts S) (r : source.Ghosts R) (m : message.Ghosts M) (name : List ℕ)
    (level : ℕ) (old new : View S R) (before after : M) (answer : Result (List ℕ) SignFault) (key : Key) : Type 0 where
  pub chance : Chance
  pub outcome : Outcome (List ℕ)
  pub step : bound_sound (state_of old) key name chance level
      (damaged_at key level old.records (current_at level old.records (length old.records))) ≡ outcome
  pub possible : AreDrawsOf key.secret chance
  pub room : chance.has_room ≡ true
  pub does : Does g r m old new before after chance.given outcome answer
  pub keeps : KeepsAtRefusal g true (levels_of key.secret - level) old new answer
  pub not_before_caches : is_fault is_before_caches answer ≡ false

-- ---- requests, by what refuses them

request_by : (limit : ℕ) → State → Key → (name : List ℕ) → Chance → (closed moved : Bool) → Option (ℕ × Bound) → Outcome (List ℕ)
request_by limit state key name chance closed moved found =
    if closed then refused state Stopped
    else (if moved then refused state Moved else requested_binding limit state key name chance found)

request_by_is : (limit : ℕ) (state : State) (key : Key) (name : List ℕ) (chance : Chance) (closed moved : Bool) (found : Option (ℕ × Bound))
    → the_key state.records ≡ Some key → not state.is_open ≡ closed → has_moved state.records ≡ moved → binding_at state.records name ≡ found
    → requested limit state name chance ≡ request_by limit state key name chance closed moved found
unfolding request_by
request_by_is limit state key name chance closed moved found keyed shut gone bound =
    ap (requested_key limit state name chance) keyed ∙ (λ i. request_by limit state key name chance (shut i) (gone i) (bound i))

anew : (state : State) → Key → (name : List ℕ) → Chance → (level : ℕ) → (full lacking : Bool) → Outcome (List ℕ)
anew state key name chance level full lacking =
    if full then refused state LedgerFull
    else (if lacking then refused state OutOfMemory
    else bound_sound state key name chance level
    (damaged_at key level state.records (current_at level state.records (length state.records))))

-- a new name, where this level is the deepest with a free leaf
anew_is : (limit : ℕ) (state : State) (key : Key) (name : List ℕ) (chance : Chance) (level : ℕ) (full lacking : Bool) → the_key state.records ≡ Some key
    → state.is_open ≡ true → has_moved state.records ≡ false → binding_at state.records name ≡ None → is_long key name ≡ false
    → deepest key.secret state.records ≡ Some level → nat_lt limit (length state.records + wanted_count key.secret level) ≡ full → not chance.has_room ≡ lacking
    → requested limit state name chance ≡ anew state key name chance level full lacking
unfolding request_by anew
anew_is limit state key name chance level full lacking keyed opened stays unbound short at is_full is_lacking =
    request_by_is limit state key name chance false false None keyed (ap not opened) stays unbound
    ∙ ap (λ long. if long then refused state LongName else bound_level limit state key name chance (deepest key.secret state.records)) short
    ∙ ap (bound_level limit state key name chance) at
    ∙ (λ i. anew state key name chance level (is_full i) (is_lacking i))

-- ---- calls that leave all as it was

abbrev pub kept : State → Result (List ℕ) SignFault → (is_read : Bool) → Outcome (List ℕ)
kept state answer is_read =
    record { state = state; answer = answer; acknowledged = state.records; failed = None; drawn = []; is_read = is_read }

-- a 29 before draws is the signer's own, or its store's
abbrev pub CountsEarly : (has_room : Bool) → Result (List ℕ) SignFault → (before after : ℕ) → Type 0
CountsEarly true answer before after = Counts is_out_of_memory before after answer
CountsEarly false answer before after = after ≡ before

refuses_early : (has_room : Bool) (answer : Result (List ℕ) SignFault) (n : ℕ) → CountsEarly has_room answer n n → RefusesMemory has_room answer n n
refuses_early true answer n counts = inl counts
refuses_early false answer n same = same

calm_refuses : (has_room : Bool) (answer : Result (List ℕ) SignFault) → CountsEarly has_room answer 0 0 → has_room ≡ true → answer ≡ Err OutOfMemory → ⊥
calm_refuses true answer counts room is =
    let more = subst (λ (a : Result (List ℕ) SignFault). Counts is_out_of_memory 0 0 a) is counts in
    omega (arith, more)
calm_refuses false answer counts room is = absurd (true≢false (sym room))

-- no failure and no refusal of others is counted with the answer
pub record IsCalm (has_room : Bool) (answer : Result (List ℕ) SignFault) : Type 0 where
  pub store : (n : ℕ) → Counts is_store_failed n n answer
  pub random : (n : ℕ) → Counts is_random_failed n n answer
  pub memory : (n : ℕ) → CountsEarly has_room answer n n

beginning_kept : (records left all : List Record) → left ≡ records → all ≡ records ++ [] → IsBeginning (length records) all left
beginning_kept records left all is same = record {
  count = length records;
  enough = omega arith;
  beginning = is ∙ sym (ap (take (length records)) (same ∙ append-nil records) ∙ take-length records);
}

tied_running : {S R : Type 0} (g : store.Ghosts S) (v : View S R) → IsSigner g v → g.stopped v.store ≡ false → (b : Bool) → v.is_open ≡ b
    → IsTied g v.store v.records
tied_running g v signer running true is = signer.tied is
tied_running g v signer running false is = absurd (true≢false (sym (signer.shut is) ∙ running))

provides_nothing : (known : Option (List ℕ)) → Provides known [] known
provides_nothing None = refl
provides_nothing (Some upcoming) = refl

kept_store : {S R : Type 0} (g : store.Ghosts S) (v : View S R) (answer : Result (List ℕ) SignFault) (is_read : Bool) → IsSigner g v → LeavesItsList g v.store
    → ((n : ℕ) → Counts is_store_failed n n answer) → KeepsStore g v.store v.store v.records (kept (state_of v) answer is_read)
kept_store g v answer is_read signer only failures = record {
  list = record { more = []; list = sym (append-nil _); records = sym (append-nil _) };
  moments = λ honest running. started g.moment g.left_since v.store _ (λ left since. beginning_kept v.records left _ (only left honest running since
      ∙ (tied_running g v signer running v.is_open refl).same honest) refl);
  failures = failures _;
  honest = refl;
  most = refl;
}

calm_by : (has_room : Bool) (fault : SignFault) → is_store_failed fault ≡ false → is_random_failed fault ≡ false → is_out_of_memory fault ≡ false
    → IsCalm has_room (Err fault)
calm_by true fault store random memory = record {
  store = λ n. sym (ap (λ b. if b then n + 1 else n) store);
  random = λ n. sym (ap (λ b. if b then n + 1 else n) random);
  memory = λ n. sym (ap (λ b. if b then n + 1 else n) memory);
}
calm_by false fault store random memory = record {
  store = λ n. sym (ap (λ b. if b then n + 1 else n) store);
  random = λ n. sym (ap (λ b. if b then n + 1 else n) random);
  memory = λ n. refl;
}

-- a repeat leaves the state, and its answer is no failure
repeated_by : (state : State) (key : Key) (k : ℕ) (bound : Bound) (other has_room : Bool) (damaged : Option ℕ)
    → let outcome = reading (if other then refused state Changed
    else (if not has_room then refused state OutOfMemory else repeated_sound state key k bound damaged)) in
    (outcome ≡ kept state outcome.answer true) × IsCalm has_room outcome.answer
repeated_by state key k bound true has_room damaged = (refl, calm_by has_room Changed refl refl refl)
repeated_by state key k bound false false damaged = (refl, record { store = λ n. refl; random = λ n. refl; memory = λ n. refl })
repeated_by state key k bound false true (Some slot) = (refl, calm_by true (Damaged slot) refl refl refl)
repeated_by state key k bound false true None = (refl, record { store = λ n. refl; random = λ n. refl; memory = λ n. refl })

repeated_kept : (state : State) (key : Key) (k : ℕ) (bound : Bound) (has_room : Bool) (given : Option (List ℕ))
    → let outcome = repeated state key k bound (repeat_chance has_room given) given in
    (outcome ≡ kept state outcome.answer true) × IsCalm has_room outcome.answer
repeated_kept state key k bound has_room None = (refl, calm_by has_room MessageRead refl refl refl)
repeated_kept state key k bound has_room (Some message) =
    repeated_by state key k bound (not (are_same (digest_at key state.records k bound.leaf bound.randomizer message) bound.digest)) has_room
    (damaged_at key (bottom_of key.secret) state.records (current_at (bottom_of key.secret) state.records k))

some_mapped : {A B : Type 0} (f : A → B) (found : Option A) (b : B) → option_map f found ≡ Some b → (a : A) × (found ≡ Some a)
some_mapped f None b is = absurd (none-some _ is)
some_mapped f (Some a) b is = (a, refl)

pub is_none : {A : Type 0} (found : Option A) → ((x : A) → found ≡ Some x → ⊥) → found ≡ None
is_none None other = refl
is_none (Some x) other = absurd (other x refl)

pub none_mapped : {A B : Type 0} (f : A → B) (found : Option A) → option_map f found ≡ None → found ≡ None
none_mapped f None is = refl
none_mapped f (Some a) is = absurd (cc)

module _ {S R M : Type 0} (g : store.Ghosts S) (r : source.Ghosts R) (m : message.Ghosts M) where
  -- a call that leaves all but memory and caches
  pub left_signs : (old new : View S R) (name : List ℕ) (before after : M) (capacity : ℕ) (key : Key) (answer : Result (List ℕ) SignFault)
      (has_room is_read : Bool) (given : Option (List ℕ)) → KeepsAll old new
      → (is_fault is_before_caches answer ≡ true → new.cached ≡ old.cached) → old.spare ≤ new.spare → IsSigner g old → LeavesItsList g old.store → the_key old.records ≡ Some key
      → requested (g.most old.store) (state_of old) name (repeat_chance has_room given) ≡ kept (state_of old) answer is_read
      → IsRead m is_read given before after
      → (has_room ≡ false → LacksMemory key old (deepest key.secret old.records) (binding_at old.records name) capacity)
      → IsCalm has_room answer → Signs g r m old new name before after capacity answer
  left_signs old new name before after capacity key answer has_room is_read given keeps caches spare signer only keyed step read room calm = record {
    answers = record {
      key = key;
      keyed = keyed;
      chance = repeat_chance has_room given;
      outcome = kept (state_of old) answer is_read;
      step = step;
      ends = record {
        answer_is = refl;
        records = keeps.records;
        is_open = keeps.is_open;
        store = subst (λ s. KeepsStore g old.store s old.records (kept (state_of old) answer is_read)) (sym keeps.store)
            (kept_store g old answer is_read signer only calm.store);
        unreadable = ap g.unreadable keeps.store;
        asked = ap g.loads keeps.store;
      };
      possible = record { trees = tt; bound = tt };
      source = subst (λ s. Provides (r.upcoming old.random) [] (r.upcoming s)) (sym keeps.random)
          (provides_nothing (r.upcoming old.random));
      failures = subst (λ s. Counts is_random_failed (r.failures old.random) (r.failures s) answer) (sym keeps.random)
          (calm.random (r.failures old.random));
      room = room;
      refusals = subst (λ s. RefusesMemory has_room answer (g.refusals old.store) (g.refusals s)) (sym keeps.store)
          (refuses_early has_room answer (g.refusals old.store) (calm.memory (g.refusals old.store)));
      memory = omega (arith, spare, ap length keeps.records);
      keeps = keeps_at_all g has_room (wanted_total key.secret (deepest key.secret old.records)) old new answer keeps caches
          (calm_refuses has_room answer (calm.memory 0));
    };
    message = read;
  }

  pub hindered_signs : (v : View S R) (name : List ℕ) (before : M) (capacity : ℕ) (key : Key) (fault : SignFault) → IsSigner g v → LeavesItsList g v.store
      → the_key v.records ≡ Some key → Hinders v.is_open (has_moved v.records) fault → Signs g r m v v name before before capacity (Err fault)
  unfolding request_by
  hindered_signs v name before capacity key Stopped signer only keyed why =
      left_signs v v name before before capacity key (Err Stopped) true false None (same_view v) (λ _. refl) (omega arith) signer only keyed
      (request_by_is (g.most v.store) (state_of v) key name (repeat_chance true None) true (has_moved v.records) (binding_at v.records name) keyed (ap not why) refl refl)
      refl (λ lacking. absurd (true≢false lacking)) (record { store = λ n. refl; random = λ n. refl; memory = λ n. refl })
  hindered_signs v name before capacity key Moved signer only keyed why =
      left_signs v v name before before capacity key (Err Moved) true false None (same_view v) (λ _. refl) (omega arith) signer only keyed
      (request_by_is (g.most v.store) (state_of v) key name (repeat_chance true None) false true (binding_at v.records name) keyed (ap not why.0) why.1 refl)
      refl (λ lacking. absurd (true≢false lacking)) (record { store = λ n. refl; random = λ n. refl; memory = λ n. refl })
  hindered_signs v name before capacity key Changed signer only keyed why = absurd why
  hindered_signs v name before capacity key Exhausted signer only keyed why = absurd why
  hindered_signs v name before capacity key RandomFailed signer only keyed why = absurd why
  hindered_signs v name before capacity key StoreFailed signer only keyed why = absurd why
  hindered_signs v name before capacity key OutOfMemory signer only keyed why = absurd why
  hindered_signs v name before capacity key LedgerFull signer only keyed why = absurd why
  hindered_signs v name before capacity key KeyThere signer only keyed why = absurd why
  hindered_signs v name before capacity key RandomRepeated signer only keyed why = absurd why
  hindered_signs v name before capacity key MessageRead signer only keyed why = absurd why
  hindered_signs v name before capacity key RetireRange signer only keyed why = absurd why
  hindered_signs v name before capacity key LongName signer only keyed why = absurd why
  hindered_signs v name before capacity key NoKey signer only keyed why = absurd why
  hindered_signs v name before capacity key DeviceFailed signer only keyed why = absurd why
  hindered_signs v name before capacity key NoMemoryToOpen signer only keyed why = absurd why
  hindered_signs v name before capacity key (Damaged k) signer only keyed why = absurd why
  hindered_signs v name before capacity key (Unreadable k) signer only keyed why = absurd why
  hindered_signs v name before capacity key (Illegal k) signer only keyed why = absurd why

  pub long_signs : (v : View S R) (name : List ℕ) (before : M) (capacity : ℕ) (key : Key) → IsSigner g v → LeavesItsList g v.store
      → the_key v.records ≡ Some key → v.is_open ≡ true → has_moved v.records ≡ false → binding_at v.records name ≡ None → is_long key name ≡ true
      → Signs g r m v v name before before capacity (Err LongName)
  unfolding request_by
  long_signs v name before capacity key signer only keyed opened stays unbound long =
      left_signs v v name before before capacity key (Err LongName) true false None (same_view v) (λ _. refl) (omega arith) signer only keyed
      (request_by_is (g.most v.store) (state_of v) key name (repeat_chance true None) false false None keyed (ap not opened) stays unbound
      ∙ ap (λ test. if test then refused (state_of v) LongName
      else bound_level (g.most v.store) (state_of v) key name (repeat_chance true None) (deepest key.secret v.records)) long)
      refl (λ lacking. absurd (true≢false lacking)) (record { store = λ n. refl; random = λ n. refl; memory = λ n. refl })

  pub exhausted_signs : (v : View S R) (name : List ℕ) (before : M) (capacity : ℕ) (key : Key) → IsSigner g v → LeavesItsList g v.store
      → the_key v.records ≡ Some key → v.is_open ≡ true → has_moved v.records ≡ false → binding_at v.records name ≡ None → is_long key name ≡ false
      → deepest key.secret v.records ≡ None
      → Signs g r m v v name before before capacity (Err Exhausted)
  unfolding request_by
  exhausted_signs v name before capacity key signer only keyed opened stays unbound short none =
      left_signs v v name before before capacity key (Err Exhausted) true false None (same_view v) (λ _. refl) (omega arith) signer only keyed
      (request_by_is (g.most v.store) (state_of v) key name (repeat_chance true None) false false None keyed (ap not opened) stays unbound
      ∙ ap (λ long. if long then refused (state_of v) LongName
      else bound_level (g.most v.store) (state_of v) key name (repeat_chance true None) (deepest key.secret v.records)) short
      ∙ ap (bound_level (g.most v.store) (state_of v) key name (repeat_chance true None)) none)
      refl (λ lacking. absurd (true≢false lacking)) (record { store = λ n. refl; random = λ n. refl; memory = λ n. refl })

  -- the store or memory has no room
  pub unprepared_signs : (old new : View S R) (name : List ℕ) (before : M) (capacity room level : ℕ) (key : Key) (fault : SignFault) → IsSigner g old
      → LeavesItsList g old.store → the_key old.records ≡ Some key → old.is_open ≡ true → has_moved old.records ≡ false → binding_at old.records name ≡ None
      → is_long key name ≡ false → deepest key.secret old.records ≡ Some level → KeepsAll old new → (is_before_caches fault ≡ true → new.cached ≡ old.cached) → old.spare ≤ new.spare
      → HasPrepared {A = Unit {0}} (g.most old.store) level key old new capacity room (Err fault)
      → Signs g r m old new name before before capacity (Err fault)
  unfolding anew
  unprepared_signs old new name before capacity room level key LedgerFull signer only keyed opened stays unbound short at keeps caches spare why =
      let full : nat_lt (g.most old.store) (length old.records + wanted_count key.secret level) ≡ true = grind (arith, nat_tests) in
      left_signs old new name before before capacity key (Err LedgerFull) true false None keeps caches spare signer only keyed
      (anew_is (g.most old.store) (state_of old) key name (repeat_chance true None) level true false keyed opened stays unbound short at full refl)
      refl (λ lacking. absurd (true≢false lacking)) (record { store = λ n. refl; random = λ n. refl; memory = λ n. refl })
  unprepared_signs old new name before capacity room level key OutOfMemory signer only keyed opened stays unbound short at keeps caches spare why =
      let fits : length old.records + wanted_count key.secret level ≤ g.most old.store = why.0 in
      let full : nat_lt (g.most old.store) (length old.records + wanted_count key.secret level) ≡ false = grind (arith, nat_tests) in
      left_signs old new name before before capacity key (Err OutOfMemory) false false None keeps caches spare signer only keyed
      (anew_is (g.most old.store) (state_of old) key name (repeat_chance false None) level false true keyed opened stays unbound short at full refl)
      refl
      (λ _. subst (λ found. LacksMemory key old (deepest key.secret old.records) found capacity) (sym unbound)
      (subst (λ l. LacksMemory key old l None capacity) (sym at) why.1))
      (record { store = λ n. refl; random = λ n. refl; memory = λ n. refl })
  unprepared_signs old new name before capacity room level key Changed signer only keyed opened stays unbound short at keeps caches spare why = absurd why
  unprepared_signs old new name before capacity room level key Exhausted signer only keyed opened stays unbound short at keeps caches spare why = absurd why
  unprepared_signs old new name before capacity room level key RandomFailed signer only keyed opened stays unbound short at keeps caches spare why = absurd why
  unprepared_signs old new name before capacity room level key StoreFailed signer only keyed opened stays unbound short at keeps caches spare why = absurd why
  unprepared_signs old new name before capacity room level key Stopped signer only keyed opened stays unbound short at keeps caches spare why = absurd why
  unprepared_signs old new name before capacity room level key Moved signer only keyed opened stays unbound short at keeps caches spare why = absurd why
  unprepared_signs old new name before capacity room level key KeyThere signer only keyed opened stays unbound short at keeps caches spare why = absurd why
  unprepared_signs old new name before capacity room level key RandomRepeated signer only keyed opened stays unbound short at keeps caches spare why = absurd why
  unprepared_signs old new name before capacity room level key MessageRead signer only keyed opened stays unbound short at keeps caches spare why = absurd why
  unprepared_signs old new name before capacity room level key RetireRange signer only keyed opened stays unbound short at keeps caches spare why = absurd why
  unprepared_signs old new name before capacity room level key LongName signer only keyed opened stays unbound short at keeps caches spare why = absurd why
  unprepared_signs old new name before capacity room level key NoKey signer only keyed opened stays unbound short at keeps caches spare why = absurd why
  unprepared_signs old new name before capacity room level key DeviceFailed signer only keyed opened stays unbound short at keeps caches spare why = absurd why
  unprepared_signs old new name before capacity room level key NoMemoryToOpen signer only keyed opened stays unbound short at keeps caches spare why = absurd why
  unprepared_signs old new name before capacity room level key (Damaged k) signer only keyed opened stays unbound short at keeps caches spare why = absurd why
  unprepared_signs old new name before capacity room level key (Unreadable k) signer only keyed opened stays unbound short at keeps caches spare why = absurd why
  unprepared_signs old new name before capacity room level key (Illegal k) signer only keyed opened stays unbound short at keeps caches spare why = absurd why

  -- ---- a name that is bound

  pub repeats_signs : (v new : View S R) (name : List ℕ) (before after : M) (capacity : ℕ) (key : Key) (binding : Binding)
      (answer : Result (List ℕ) SignFault) → IsSigner g v → LeavesItsList g v.store → the_key v.records ≡ Some key → v.is_open ≡ true
      → has_moved v.records ≡ false → IsBindingOf v.records binding key name → Repeats m (state_of v) v.cached before after capacity answer key name
      → KeepsForRepeat v new (is_fault is_before_repeat answer) → Signs g r m v new name before after capacity answer
  unfolding request_by
  repeats_signs v new name before after capacity key binding answer signer only keyed opened stays is repeats kept_all =
      let ((k, bound), found) = some_mapped (kept_of key.secret v.records) (binding_at v.records name) binding is in
      let chance = repeat_chance repeats.has_room repeats.given in
      let whole = repeated_kept (state_of v) key k bound repeats.has_room repeats.given in
      let limit = g.most v.store in
      let answer_is : (repeated (state_of v) key k bound chance repeats.given).answer ≡ answer =
      sym (ap (λ f. (requested_binding limit (state_of v) key name chance f).answer) found) ∙ repeats.step limit in
      let same = kept_all.but_caches in
      let keeps : KeepsAll v new = record {
        store = ap (λ w. w.store) same;
        random = ap (λ w. w.random) same;
        records = ap (λ w. w.records) same;
        is_open = ap (λ w. w.is_open) same;
      } in
      let spare : new.spare ≡ v.spare = ap (λ w. w.spare) same in
      left_signs v new name before after capacity key answer repeats.has_room true repeats.given keeps
      (λ early. ap (λ w. w.cached) (kept_all.early (before_repeat answer early))) (omega (arith, spare)) signer only keyed
      (request_by_is limit (state_of v) key name chance false false (Some (k, bound)) keyed (ap not opened) stays found
      ∙ whole.0 ∙ ap (λ a. kept (state_of v) a true) answer_is)
      repeats.message
      (λ lacking. subst (λ f. LacksMemory key v (deepest key.secret v.records) f capacity) (sym found) (repeats.room k bound found lacking))
      (subst (IsCalm repeats.has_room) answer_is whole.1)

  -- ---- a new name

  same_but : (old mid : View S R) → KeepsAll old mid
      → mid ≡ record { store = old.store; random = old.random; records = old.records; is_open = old.is_open; spare = mid.spare; cached = mid.cached }
  same_but old mid keeps = λ i. record {
    store = keeps.store i;
    random = keeps.random i;
    records = keeps.records i;
    is_open = keeps.is_open i;
    spare = mid.spare;
    cached = mid.cached;
  }

  -- `KeepsAll` doesn't depend on the old memory and caches
  kept_of_other : (old new : View S R) (spare : ℕ) (cached : Cached)
      → KeepsAll (record { store = old.store; random = old.random; records = old.records; is_open = old.is_open; spare = spare; cached = cached }) new → KeepsAll old new
  kept_of_other old new spare cached keeps =
      record { store = keeps.store; random = keeps.random; records = keeps.records; is_open = keeps.is_open }

  pub binds_signs : (old mid new : View S R) (name : List ℕ) (before after : M) (capacity level : ℕ) (key : Key) (answer : Result (List ℕ) SignFault)
      → the_key old.records ≡ Some key → old.is_open ≡ true → has_moved old.records ≡ false → binding_at old.records name ≡ None
      → is_long key name ≡ false → deepest key.secret old.records ≡ Some level → KeepsAll old mid → old.spare ≤ mid.spare → IsReady (g.most old.store) (levels_of key.secret - level) mid
      → Binds g r m name level mid new before after answer key → Signs g r m old new name before after capacity answer
  unfolding anew
  binds_signs old mid new name before after capacity level key answer keyed opened stays unbound short at keeps spare ready mid_binds =
      let is = same_but old mid keeps in
      let b = subst (λ v. Binds g r m name level v new before after answer key) is mid_binds in
      let fits = (subst (IsReady (g.most old.store) (levels_of key.secret - level)) is ready).within_limit in
      let full : nat_lt (g.most old.store) (length old.records + wanted_count key.secret level) ≡ false = grind (arith, nat_tests) in
      record {
        answers = record {
          key = key;
          keyed = keyed;
          chance = b.chance;
          outcome = b.outcome;
          step = anew_is (g.most old.store) (state_of old) key name b.chance level false false keyed opened stays unbound short
              at full (ap not b.room) ∙ b.step;
          ends = record {
            answer_is = b.does.ends.answer_is;
            records = b.does.ends.records;
            is_open = b.does.ends.is_open;
            store = b.does.ends.store;
            unreadable = b.does.ends.unreadable;
            asked = b.does.ends.asked;
          };
          possible = b.possible;
          source = b.does.source;
          failures = b.does.failures;
          room = λ lacking. absurd (true≢false (sym b.room ∙ lacking));
          refusals = subst (λ h. RefusesMemory h answer (g.refusals old.store) (g.refusals new.store)) (sym b.room)
              b.does.refusals;
          memory = omega (arith, spare, b.does.memory);
          keeps = record {
            at_once = λ early. kept_of_other old new mid.spare mid.cached (b.keeps.at_once early);
            caches = λ early. absurd (true≢false (sym early ∙ b.not_before_caches));
            unprepared = λ lacking. absurd (true≢false (sym b.room ∙ lacking));
            lacks_tree = λ room. subst (λ l. LacksTree g (wanted_total key.secret l) old new answer) (sym at)
                (b.keeps.lacks_tree refl);
            store = b.keeps.store;
          };
        };
        message = b.does.message;
      }

  pub damaged_binds : (v : View S R) (name : List ℕ) (before : M) (level : ℕ) (key : Key) (slot : ℕ) → IsSigner g v → LeavesItsList g v.store
      → damaged_at key level v.records (current_at level v.records (length v.records)) ≡ Some slot
      → Binds g r m name level v v before before (Err (Damaged slot)) key
  damaged_binds v name before level key slot signer only damaged = record {
    chance = repeat_chance true None;
    outcome = kept (state_of v) (Err (Damaged slot)) false;
    step = ap (bound_sound (state_of v) key name (repeat_chance true None) level) damaged;
    possible = record { trees = tt; bound = tt };
    room = refl;
    does = record {
      ends = record {
        answer_is = refl;
        records = refl;
        is_open = refl;
        store = kept_store g v (Err (Damaged slot)) false signer only (λ n. refl);
        unreadable = refl;
        asked = refl;
      };
      more = [];
      grown = sym (append-nil _);
      source = provides_nothing (r.upcoming v.random);
      failures = refl;
      message = refl;
      refusals = inl refl;
      memory = omega arith;
      stays = λ _ _. refl;
    };
    keeps = keeps_at_all g true (levels_of key.secret - level) v v (Err (Damaged slot)) (same_view v) (λ _. refl) (λ _ is. cc (is));
    not_before_caches = refl;
  }

  -- the current trees down to a level are sound, and the records below it are made
  pub binds_below_binds : (old new : View S R) (name : List ℕ) (before after : M) (level : ℕ) (key : Key) (answer : Result (List ℕ) SignFault)
      → damaged_at key level old.records (current_at level old.records (length old.records)) ≡ None
      → BindsBelow g r m name (bottom_of key.secret - level) old new before after answer key → old.is_open ≡ true → level < levels_of key.secret
      → Binds g r m name level old new before after answer key
  binds_below_binds old new name before after level key answer sound binds_below opened within = record {
    chance = record { has_room = true; trees = binds_below.trees; bound = binds_below.bound; given = binds_below.given };
    outcome = binds_below.outcome;
    step = ap (bound_sound (state_of old) key name (record { has_room = true; trees = binds_below.trees; bound = binds_below.bound; given = binds_below.given }) level)
        sound ∙ binds_below.step binds_below.trees;
    possible = record { trees = binds_below.trees_possible; bound = binds_below.bound_possible };
    room = refl;
    does = binds_below.does;
    keeps = keeps_after_draws g r m (levels_of key.secret - level) old new before after _ _ _ binds_below.not_before_draws
        (λ is same. let within_limit = binds_below.lacks_tree is same in omega (arith, within_limit, within)) binds_below.does;
    not_before_caches = after_caches answer binds_below.not_before_draws;
  }

-- ---- what a call answered

-- the deepest level with a free leaf, along equal records
pub deepest_after : (records other : List Record) (key own : Key) (level : ℕ) → other ≡ records → the_key records ≡ Some key → the_key other ≡ Some own
    → deepest key.secret records ≡ Some level → deepest own.secret other ≡ Some level
deepest_after records other key own level same keyed is at =
    let own_is : own ≡ key = same_Some own key (sym is ∙ ap the_key same ∙ keyed) in
    ap₂ (λ (k : Key) l. deepest k.secret l) own_is same ∙ at

-- Once there is room for its records and its signature, the name can be bound.
pub can_bind : {S R A : Type 0} (most : S → ℕ) (v mid : View S R) (name : List ℕ) (level size capacity room : ℕ) (x : A) → KeepsAll v mid
    → binding_at v.records name ≡ None → UnderKey v.records (λ key. is_long key name ≡ false)
    → UnderKey v.records (Prepares (most v.store) level v mid capacity room (Ok x)) → size ≡ room
    → UnderKey mid.records (λ key. CanBind (most mid.store) (levels_of key.secret - level) name size mid)
can_bind most v mid name level size capacity room x keeps unbound fits prepares same key keyed =
    let made = prepares key (ap the_key (sym keeps.records) ∙ keyed) in
    record {
      ready = subst (λ s. IsReady (most s) (levels_of key.secret - level) mid) (sym keeps.store) made.does.0;
      unbound = ap (λ l. binding_at l name) keeps.records ∙ unbound;
      fits = λ own is. fits own (ap the_key (sym keeps.records) ∙ is);
      room = λ own is. same ∙ made.does.1 ∙ ap (λ k. signature_size k.secret) (same_Some key own (sym keyed ∙ is));
    }

fault_in : Result ℕ SignFault → SignFault
fault_in (Ok level) = Exhausted
fault_in (Err fault) = fault

pub none_fault : (found : Option ℕ) (fault : SignFault) → ok_or found Exhausted ≡ Err fault → (found ≡ None) × (fault ≡ Exhausted)
unfolding fault_in
none_fault None fault is = (refl, sym (ap fault_in is))
none_fault (Some level) fault is = absurd (cc)

pub some_level : (found : Option ℕ) (level : ℕ) → ok_or found Exhausted ≡ Ok level → found ≡ Some level
some_level None level is = absurd (cc)
some_level (Some other) level is = ap_ok is
  where
    ap_ok : {a b : ℕ} → ◌≡◌ {A = Result ℕ SignFault} (Ok a) (Ok b) → Some a ≡ Some b
    ap_ok same = cc

-- ---- an output that is emptied at a fault

pub same_answer : {A : Type 0} (signed result : Result A SignFault) (old new : List ℕ) → result ≡ signed → OnOk result (new ≡ old)
    → answered_value signed old ≡ answered_value result new
same_answer {A = A} signed result old new same stays = ap (λ r. answered_value r old) (sym same) ∙ by result stays
  where
    by : (r : Result A SignFault) → OnOk r (new ≡ old) → answered_value r old ≡ answered_value r new
    by (Ok a) is = ap Ok (sym is)
    by (Err fault) is = refl
