-- Each end of an opening is a step of the world.
use Rattle.std.proofs.Common.{◌≡◌, ◌⊎◌, ℕ, zero, suc, ◌+◌, ◌<◌, ◌≤◌, Bool, true, false, List, [], ◌∷◌, ◌++◌, length, Some, None, Ok, Err, refl, sym}
use Rattle.std.proofs.Common.{Result, ap, ◌∙◌, subst, arith, inl, inr, IsTrue, true≢false, take, drop, ◌||◌}
use Rattle.std.proofs.lemmas.Bool.Decides.{nat_tests}
use Rattle.std.proofs.lemmas.List.{append-nil, append_assoc, take-append-drop, take_all, take_at}
use Rattle.std.specs.Option.{ok_or, option_or}
use Rattle.std.specs.Prelude.{IfErr, Option, cond, nat_lt, slice_get, if◌then◌else◌}
use Rattle.state_file.specs.declared.record.Key.{Key}
use Rattle.state_file.specs.declared.record.Record.{Record}
use Rattle.state_file.specs.declared.record.Record.TheVariants.{Key as KeyRecord, Extend as ExtendRecord, Bound as BoundRecord, Retire, Moved as MovedRecord}
use Rattle.state_file.specs.declared.store.Store as store
use Rattle.state_file.specs.Disk.{Counts}
use Rattle.state_file.specs.Laws.{IsLegal}
use Rattle.state_file.specs.Store.{IsRecordAt, is_key}
use Rattle.state_file.proofs.Moments.{combined, started, weaker}
use Rattle.sign_core.specs.declared.key.AnyPublic.{AnyPublic}
use Rattle.sign_core.specs.declared.fault.SignFault.{SignFault}
use Rattle.sign_core.specs.declared.fault.SignFault.TheVariants.{RandomRepeated, MessageRead, Moved, RetireRange, LongName, NoKey, Illegal, DeviceFailed, NoMemoryToOpen}
use Rattle.sign_core.specs.declared.fault.SignFault.TheVariants.{Changed, Exhausted, RandomFailed, StoreFailed, Stopped, Damaged, OutOfMemory, LedgerFull}
use Rattle.sign_core.specs.declared.fault.SignFault.TheVariants.{Unreadable, KeyThere}
use Rattle.sign_core.specs.Records.{can_follow, first_illegal, next_illegal, the_key}
use Rattle.sign_core.specs.Textbook.{public_of_key}
use Rattle.state_file.specs.declared.refused.Refused.{Refused}
use Rattle.sign_core.specs.inner.Signer.{HoldsParts, IsTakenUp, LoadsRecord, TakesUpLoaded}
use Rattle.sign_core.specs.Signer.{IsAnswered, Opens, View}
use Rattle.sign_core.specs.Signer.{IsTied, LeavesOld, LoadsAll, RefusesToOpen, StopsOpening, is_device_failed, unreadable_slot}
use Rattle.sign_core.specs.Signer.{GoesTo, first_slots}
use Rattle.sign_core.specs.inner.Ledger.{LacksRoom}
use Rattle.sign_core.specs.Ledger.{RunsOutOfMemory, Table}
use Rattle.sign_core.specs.World.{Outcome, answered, closed_state, open_state, opened, refused}
use Rattle.sign_core.proofs.steps.Cases.{opened_illegal, opened_key, published}
use Rattle.sign_core.specs.Textbook.{HasSizes, SecretHasSizes, any_public_of}
use Rattle.sign_core.proofs.calls.AppendMoments.{LeavesItsList, length_one_more, some_records}
use Rattle.sign_core.proofs.records.CanFollow.{key_stays}
use Rattle.sign_core.proofs.records.FirstIllegal.{first_illegal_appended, first_illegal_after, illegal_after, legal_from_none}
use Rattle.sign_core.proofs.records.Lists.{take_with_next}
use Rattle.sign_core.proofs.records.Sizes.{public_made}

-- ---- what was loaded

-- Calls that read a store and don't fail leave all of it as it was.
pub record IsUnchanged {S : Type 0} (g : store.Ghosts S) (old now : S) : Type 0 where
  pub list : g.list now ≡ g.list old
  pub moments : LeavesOld g old now
  pub stopped : g.stopped now ≡ g.stopped old
  pub failures : g.failures now ≡ g.failures old
  pub refusals : g.refusals now ≡ g.refusals old
  pub unreadable : g.unreadable now ≡ g.unreadable old
  pub honest : g.honest now ≡ g.honest old
  pub most : g.most now ≡ g.most old
  pub stays : g.stopped old ≡ true → now ≡ old

-- The first k records of a store, if it is honest.
pub record Begins {S : Type 0} (g : store.Ghosts S) (old : S) (records : List Record) (k : ℕ) : Type 0 where
  pub same_length : length records ≡ k
  pub inside : k ≤ length (g.list old)
  pub same : IsTrue (g.honest old) → records ≡ take k (g.list old)

-- They were loaded, each could follow those before it, and nothing failed.
pub record HasLoaded {S : Type 0} (g : store.Ghosts S) (old now : S) (records : List Record) (k loads : ℕ) : Type 0 where
  pub kept : IsUnchanged g old now
  pub begins : Begins g old records k
  pub legal : first_illegal records ≡ None
  pub running : 0 < k → g.stopped old ≡ false
  pub asked : g.loads now ≡ first_slots loads ++ g.loads old
  pub gave : g.given now ≡ g.given old ++ records

-- What was taken up: these records, with their key's sizes.
pub record IsLoadedTo {S : Type 0} (g : store.Ghosts S) (old now : S) (table : Table) (k loads : ℕ) : Type 0 where
  pub loaded : HasLoaded g old now table.records k loads
  pub some : 0 < k
  pub keyed : the_key table.records ≡ Some table.key
  pub sizes : SecretHasSizes table.key.secret

pub none_loaded : {S : Type 0} (g : store.Ghosts S) (old : S)
    → LeavesItsList g old
    → HasLoaded g old old [] 0 0
none_loaded g old only = record {
  kept = record {
    list = refl;
    moments = λ honest running. started g.moment g.left_since old _ (λ left since. only left honest running since);
    stopped = refl;
    failures = refl;
    refusals = refl;
    unreadable = refl;
    honest = refl;
    most = refl;
    stays = λ _. refl;
  };
  begins = record { same_length = refl; inside = omega arith; same = λ honest. refl };
  legal = refl;
  running = λ some. absurd (omega (arith, some));
  asked = refl;
  gave = sym (append-nil (g.given old));
}

-- the loads and records with one more
asked_more : {S : Type 0} (g : store.Ghosts S) (old now next : S) (k : ℕ) → g.loads now ≡ first_slots k ++ g.loads old
    → g.loads next ≡ k ∷ g.loads now → g.loads next ≡ first_slots (k + 1) ++ g.loads old
asked_more g old now next k before more =
    let here : suc k ≡ k + 1 = omega arith in
    more ∙ ap (λ l. k ∷ l) before ∙ ap (λ n. first_slots n ++ g.loads old) here

gave_more : {S : Type 0} (g : store.Ghosts S) (old now next : S) (records : List Record) (entry : Record) → g.given now ≡ g.given old ++ records
    → g.given next ≡ g.given now ++ entry ∷ [] → g.given next ≡ g.given old ++ (records ++ entry ∷ [])
gave_more g old now next records entry before more =
    more ∙ ap (λ l. l ++ entry ∷ []) before ∙ append_assoc (g.given old) records (entry ∷ [])

gave_whole : {S : Type 0} (g : store.Ghosts S) (old next : S) (records more : List Record) (k : ℕ) → length records ≡ k → g.given next ≡ g.given old ++ records
    → g.given next ≡ g.given old ++ take k (records ++ more)
gave_whole g old next records more k long gave = gave ∙ ap (λ l. g.given old ++ l) (sym (take_at records more k long))

-- the moments of one load more
later_moments : {S : Type 0} (g : store.Ghosts S) (old now next : S) → IsUnchanged g old now → LeavesOld g now next → LeavesOld g old next
later_moments g old now next kept leaves honest running =
    combined g.moment g.left_since old now next _ (kept.moments honest running)
    (weaker g.moment g.left_since now next _ _ (λ left same. same ∙ kept.list) (leaves (subst IsTrue (sym kept.honest) honest) (kept.stopped ∙ running)))

-- a load that finds a record, or the end
kept_found : {S : Type 0} (g : store.Ghosts S) (old now next : S) (k : ℕ) (found : Option Record) → IsUnchanged g old now → LoadsRecord g now next k (Ok found)
    → g.stopped now ≡ false → g.stopped next ≡ false → g.failures next ≡ g.failures now → IsUnchanged g old next
kept_found g old now next k found kept loads was is failures = record {
  list = loads.list ∙ kept.list;
  moments = later_moments g old now next kept loads.moments;
  stopped = is ∙ sym was ∙ kept.stopped;
  failures = failures ∙ kept.failures;
  refusals = loads.refusals ∙ kept.refusals;
  unreadable = loads.unreadable ∙ kept.unreadable;
  honest = loads.honest ∙ kept.honest;
  most = loads.most ∙ kept.most;
  stays = λ before. absurd (true≢false (sym before ∙ sym kept.stopped ∙ was));
}

pub kept_some : {S : Type 0} (g : store.Ghosts S) (old now next : S) (k : ℕ) (entry : Record) → IsUnchanged g old now
    → LoadsRecord g now next k (Ok (Some entry)) → IsUnchanged g old next
kept_some g old now next k entry kept loads = kept_found g old now next k (Some entry) kept loads loads.loads.0 loads.loads.3 loads.loads.4

pub kept_none : {S : Type 0} (g : store.Ghosts S) (old now next : S) (k : ℕ) → IsUnchanged g old now → LoadsRecord g now next k (Ok None) → IsUnchanged g old next
kept_none g old now next k kept loads = kept_found g old now next k None kept loads loads.loads.0 loads.loads.2 loads.loads.3

-- in an honest store the record is the list's
record_at : (honest : Bool) (list : List Record) (k : ℕ) (entry : Record) → IsRecordAt honest list k entry → IsTrue honest → slice_get list k ≡ Some entry
record_at true list k entry at is = at
record_at false list k entry at is = absurd (true≢false (sym is))

pub begins_more : {S : Type 0} (g : store.Ghosts S) (old now next : S) (records : List Record) (k : ℕ) (entry : Record) → IsUnchanged g old now
    → Begins g old records k → LoadsRecord g now next k (Ok (Some entry)) → Begins g old (records ++ entry ∷ []) (k + 1)
begins_more g old now next records k entry kept begins loads = record {
  same_length = length_one_more records entry ∙ ap (λ n. n + 1) begins.same_length;
  inside = omega (arith, loads.loads.1, ap length kept.list);
  same = λ honest.
      let here : suc k ≡ k + 1 = omega arith in
      let at = record_at _ _ k entry loads.loads.2 (subst IsTrue (sym kept.honest) honest) in
      ap (λ l. l ++ entry ∷ []) (begins.same honest)
      ∙ sym (take_with_next (g.list old) k entry (ap (λ l. slice_get l k) (sym kept.list) ∙ at)) ∙ ap (λ n. take n (g.list old)) here;
}

-- ---- the whole list that an opening goes over

-- the records that were loaded, and the store's from there on
abbrev pub whole : {S : Type 0} → store.Ghosts S → S → List Record → ℕ → List Record
whole g old records k = records ++ drop k (g.list old)

length_whole : (records list : List Record) (k : ℕ) → length records ≡ k → k ≤ length list → length (records ++ drop k list) ≡ length list
length_whole [] list zero is inside = refl
length_whole [] list (suc k) is inside = absurd (omega (arith, is))
length_whole (first ∷ rest) list zero is inside = absurd (omega (arith, is))
length_whole (first ∷ rest) [] (suc k) is inside = absurd (omega (arith, inside))
length_whole (first ∷ rest) (other ∷ list) (suc k) is inside = omega (arith, length_whole rest list k (omega (arith, is)) (omega (arith, inside)))

pub whole_long : {S : Type 0} (g : store.Ghosts S) (old : S) (records : List Record) (k : ℕ) → Begins g old records k
    → length (whole g old records k) ≡ length (g.list old)
whole_long g old records k begins = length_whole records (g.list old) k begins.same_length begins.inside

pub whole_same : {S : Type 0} (g : store.Ghosts S) (old : S) (records : List Record) (k : ℕ) → Begins g old records k → IsTrue (g.honest old)
    → whole g old records k ≡ g.list old
whole_same g old records k begins honest = ap (λ l. l ++ drop k (g.list old)) (begins.same honest) ∙ take-append-drop k (g.list old)

-- ---- refusals

-- the first fault comes before any record that isn't legal
pub stops : (all : List Record) (k : ℕ) (fault : SignFault) (illegal : Option ℕ) → ((j : ℕ) → illegal ≡ Some j → k ≤ j)
    → opened_illegal (closed_state all) (Some (k, fault)) illegal ≡ refused (closed_state all) fault
stops all k fault None later = refl
stops all k fault (Some j) later =
    let after = later j refl in
    let not : nat_lt j k ≡ false = grind (arith, nat_tests) in
    ap (λ (b : Bool). refused {A = AnyPublic} (closed_state all) (if b then Illegal j else fault)) not

stopped_step : {S : Type 0} (g : store.Ghosts S) (old now : S) (records : List Record) (k : ℕ) (fault : SignFault) → HasLoaded g old now records k k
    → opened (closed_state (whole g old records k)) (Some (k, fault)) ≡ refused (closed_state (whole g old records k)) fault
stopped_step g old now records k fault has =
    stops (whole g old records k) k fault (first_illegal (whole g old records k))
    (λ j is. omega (arith, has.begins.same_length, illegal_after records (drop k (g.list old)) j has.legal is))

-- an opening that a fault ends at a place
pub stopped_at : {S : Type 0} (g : store.Ghosts S) (old now next : S) (records : List Record) (k loads : ℕ) (fault : SignFault) → HasLoaded g old now records k k
    → StopsOpening (Some (k, fault)) (g.list old) (g.stopped old) (g.honest old)
    → g.stopped next ≡ (is_device_failed fault || g.stopped old) → g.list next ≡ g.list old → LeavesOld g old next
    → Counts {A = AnyPublic} is_device_failed (g.failures old) (g.failures next) (Err fault)
    → RefusesToOpen {A = AnyPublic} (whole g old records k) (Err fault) (g.refusals old) (g.refusals next)
    → g.unreadable next ≡ unreadable_slot fault ++ g.unreadable old → g.honest next ≡ g.honest old → g.most next ≡ g.most old
    → (g.stopped old ≡ true → next ≡ old) → g.loads next ≡ first_slots loads ++ g.loads old → g.given next ≡ g.given now
    → GoesTo {A = AnyPublic} (g.most old) (Some (k, fault)) (whole g old records k) (g.refusals old) (g.refusals next) loads k (Err fault)
    → LoadsAll g old next (IsTakenUp (Err fault))
stopped_at g old now next records k loads fault has load stopped list moments failures refusals unreadable honest most stays asked gave order = record {
  opening = record {
    records = whole g old records k;
    same_length = whole_long g old records k has.begins;
    same = whole_same g old records k has.begins;
    chance = Some (k, fault);
    outcome = refused (closed_state (whole g old records k)) fault;
    step = stopped_step g old now records k fault has;
    answer = refl;
    load = load;
    stopped = stopped;
    list = list;
    moments = moments;
    failures = failures;
    refusals = refusals;
    unreadable = unreadable;
    honest = honest;
    most = most;
    stays = stays;
  };
  loads = loads;
  given = k;
  asked = asked;
  gave = gave_whole g old next records (drop k (g.list old)) k has.begins.same_length (gave ∙ has.gave);
  order = order;
}

-- another load of a store that has stopped
later_stays : {S : Type 0} (g : store.Ghosts S) (old now next : S) → IsUnchanged g old now → (g.stopped now ≡ true → next ≡ now) → g.stopped old ≡ true → next ≡ old
later_stays g old now next kept stays before = stays (kept.stopped ∙ before) ∙ kept.stays before

-- only the first load can find a store that has stopped
first_place : {S : Type 0} (g : store.Ghosts S) (old now : S) (records : List Record) (k : ℕ) → HasLoaded g old now records k k → g.stopped now ≡ true → k ≡ 0
first_place g old now records zero has stopped = refl
first_place g old now records (suc k) has stopped = absurd (true≢false (sym stopped ∙ has.kept.stopped ∙ has.running (omega arith)))

pub unloaded : {S : Type 0} (g : store.Ghosts S) (old now next : S) (records : List Record) (k : ℕ) (fault : SignFault) → HasLoaded g old now records k k
    → LoadsRecord g now next k (Err fault) → LoadsAll g old next (IsTakenUp (Err fault))
unloaded g old now next records k Stopped has loads =
    stopped_at g old now next records k k Stopped has
    (sym has.kept.stopped ∙ loads.loads.0, first_place g old now records k has loads.loads.0) (loads.stopped ∙ has.kept.stopped) (loads.list ∙ has.kept.list)
    (later_moments g old now next has.kept loads.moments) (loads.loads.1 ∙ has.kept.failures) (loads.refusals ∙ has.kept.refusals)
    (loads.unreadable ∙ has.kept.unreadable) (loads.honest ∙ has.kept.honest) (loads.most ∙ has.kept.most)
    (later_stays g old now next has.kept loads.stays) (loads.asked ∙ has.asked) loads.gave
    (first_place g old now records k has loads.loads.0, first_place g old now records k has loads.loads.0)
unloaded g old now next records k (Unreadable slot) has loads =
    stopped_at g old now next records k (k + 1) (Unreadable slot) has
    (sym has.kept.stopped ∙ loads.loads.0, sym has.kept.honest ∙ loads.loads.1, loads.loads.2, omega (arith, loads.loads.3, ap length has.kept.list))
    (loads.stopped ∙ has.kept.stopped) (loads.list ∙ has.kept.list)
    (later_moments g old now next has.kept loads.moments) (loads.loads.4 ∙ has.kept.failures) (loads.refusals ∙ has.kept.refusals)
    (loads.unreadable ∙ ap (λ l. slot ∷ l) has.kept.unreadable) (loads.honest ∙ has.kept.honest) (loads.most ∙ has.kept.most)
    (later_stays g old now next has.kept loads.stays) (asked_more g old now next k has.asked loads.asked) loads.gave
    (sym loads.loads.2, refl)
unloaded g old now next records k DeviceFailed has loads =
    stopped_at g old now next records k (k + 1) DeviceFailed has (sym has.kept.stopped ∙ loads.loads.0, has.begins.inside) loads.stopped (loads.list ∙ has.kept.list)
    (later_moments g old now next has.kept loads.moments) (loads.loads.1 ∙ ap (λ n. n + 1) has.kept.failures) (loads.refusals ∙ has.kept.refusals)
    (loads.unreadable ∙ has.kept.unreadable) (loads.honest ∙ has.kept.honest) (loads.most ∙ has.kept.most)
    (later_stays g old now next has.kept loads.stays) (asked_more g old now next k has.asked loads.asked) loads.gave
    (refl, refl)
unloaded g old now next records k NoMemoryToOpen has loads =
    stopped_at g old now next records k (k + 1) NoMemoryToOpen has (sym has.kept.stopped ∙ loads.loads.0, has.begins.inside) (loads.stopped ∙ has.kept.stopped)
    (loads.list ∙ has.kept.list) (later_moments g old now next has.kept loads.moments) (loads.loads.1 ∙ has.kept.failures)
    (inl (loads.refusals ∙ ap (λ n. n + 1) has.kept.refusals)) (loads.unreadable ∙ has.kept.unreadable) (loads.honest ∙ has.kept.honest) (loads.most ∙ has.kept.most)
    (later_stays g old now next has.kept loads.stays) (asked_more g old now next k has.asked loads.asked) loads.gave
    (inl (refl, refl, loads.refusals ∙ ap (λ n. n + 1) has.kept.refusals))
unloaded g old now next records k Changed has loads = absurd loads.loads
unloaded g old now next records k Exhausted has loads = absurd loads.loads
unloaded g old now next records k RandomFailed has loads = absurd loads.loads
unloaded g old now next records k StoreFailed has loads = absurd loads.loads
unloaded g old now next records k OutOfMemory has loads = absurd loads.loads
unloaded g old now next records k LedgerFull has loads = absurd loads.loads
unloaded g old now next records k KeyThere has loads = absurd loads.loads
unloaded g old now next records k RandomRepeated has loads = absurd loads.loads
unloaded g old now next records k MessageRead has loads = absurd loads.loads
unloaded g old now next records k Moved has loads = absurd loads.loads
unloaded g old now next records k RetireRange has loads = absurd loads.loads
unloaded g old now next records k LongName has loads = absurd loads.loads
unloaded g old now next records k NoKey has loads = absurd loads.loads
unloaded g old now next records k (Damaged slot) has loads = absurd loads.loads
unloaded g old now next records k (Illegal slot) has loads = absurd loads.loads

-- a record that was loaded, and can't follow
illegal_step : (records more : List Record) (entry : Record) (k : ℕ) → length records ≡ k → first_illegal records ≡ None
    → can_follow (the_key records) records entry ≡ false
    → opened (closed_state ((records ++ entry ∷ []) ++ more)) None ≡ refused (closed_state ((records ++ entry ∷ []) ++ more)) (Illegal k)
illegal_step records more entry k long legal not =
    let all = (records ++ entry ∷ []) ++ more in
    let here : first_illegal (records ++ entry ∷ []) ≡ Some k =
    first_illegal_appended records entry ∙ (λ i. option_or (legal i) (cond (not i) None (Some (long i)))) in
    ap (opened_illegal (closed_state all) None) (first_illegal_after (records ++ entry ∷ []) more
    ∙ ap (λ o. option_or o (next_illegal all (length (records ++ entry ∷ [])) more)) here)

pub illegal_at : {S : Type 0} (g : store.Ghosts S) (old now next : S) (records : List Record) (k : ℕ) (entry : Record) → HasLoaded g old now records k k
    → LoadsRecord g now next k (Ok (Some entry)) → can_follow (the_key records) records entry ≡ false → LoadsAll g old next (IsTakenUp (Err (Illegal k)))
illegal_at g old now next records k entry has loads not =
    let begins = begins_more g old now next records k entry has.kept has.begins loads in
    let kept = kept_some g old now next k entry has.kept loads in record {
      opening = record {
        records = whole g old (records ++ entry ∷ []) (k + 1);
        same_length = whole_long g old (records ++ entry ∷ []) (k + 1) begins;
        same = whole_same g old (records ++ entry ∷ []) (k + 1) begins;
        chance = None;
        outcome = refused (closed_state (whole g old (records ++ entry ∷ []) (k + 1))) (Illegal k);
        step = illegal_step records (drop (k + 1) (g.list old)) entry k has.begins.same_length has.legal not;
        answer = refl;
        load = sym has.kept.stopped ∙ loads.loads.0;
        stopped = kept.stopped;
        list = kept.list;
        moments = kept.moments;
        failures = kept.failures;
        refusals = kept.refusals;
        unreadable = kept.unreadable;
        honest = kept.honest;
        most = kept.most;
        stays = kept.stays;
      };
      loads = k + 1;
      given = k + 1;
      asked = asked_more g old now next k has.asked loads.asked;
      gave = gave_whole g old next (records ++ entry ∷ []) (drop (k + 1) (g.list old)) (k + 1) begins.same_length (gave_more g old now next records entry has.gave loads.gave);
      order = (refl, refl);
    }

-- ---- records that are taken up

key_follows : (table : Table) (entry : Record) (b : Bool) → the_key table.records ≡ Some table.key → can_follow (Some table.key) table.records entry ≡ b
    → can_follow (the_key table.records) table.records entry ≡ b
key_follows table entry b keyed is = ap (λ key. can_follow key table.records entry) keyed ∙ is

record_there : (records more : List Record) (entry : Record) (k : ℕ) → length records ≡ k → slice_get ((records ++ entry ∷ []) ++ more) k ≡ Some entry
record_there [] more entry zero long = refl
record_there [] more entry (suc k) long = absurd (omega (arith, long))
record_there (first ∷ rest) more entry zero long = absurd (omega (arith, long))
record_there (first ∷ rest) more entry (suc k) long = record_there rest more entry k (omega (arith, long))

legal_with : (records : List Record) (entry : Record) → first_illegal records ≡ None → can_follow (the_key records) records entry ≡ true
    → first_illegal (records ++ entry ∷ []) ≡ None
legal_with records entry legal follows =
    first_illegal_appended records entry ∙ (λ i. option_or (legal i) (cond (follows i) None (Some (length records))))

-- a record that could follow, without memory for it
unroomed : {S : Type 0} (g : store.Ghosts S) (old now next : S) (table : Table) (k : ℕ) (entry : Record) → IsLoadedTo g old now table k k
    → LoadsRecord g now next k (Ok (Some entry)) → can_follow (the_key table.records) table.records entry ≡ true → LacksRoom entry table
    → LoadsAll g old next (IsTakenUp (Err NoMemoryToOpen))
unroomed g old now next table k entry is loads follows lacking =
    let more = drop (k + 1) (g.list old) in
    let records = table.records ++ entry ∷ [] in
    let begins = begins_more g old now next table.records k entry is.loaded.kept is.loaded.begins loads in
    let legal = legal_with table.records entry is.loaded.legal follows in
    let kept = kept_some g old now next k entry is.loaded.kept loads in
    let lacks : RunsOutOfMemory (whole g old records (k + 1)) = record {
      place = k;
      entry = entry;
      stands = record_there table.records more entry k is.loaded.begins.same_length;
      legal = subst IsLegal (sym (take_at records more (k + 1) begins.same_length)) (legal_from_none records (omega (arith, begins.same_length)) legal);
      later = is.some;
      lacking = elim lacking [ inl (takes, none) ↦ inl takes | inr full ↦ inr (sym is.loaded.begins.same_length ∙ full) ];
    } in record {
      opening = record {
        records = whole g old records (k + 1);
        same_length = whole_long g old records (k + 1) begins;
        same = whole_same g old records (k + 1) begins;
        chance = Some (k, NoMemoryToOpen);
        outcome = refused (closed_state (whole g old records (k + 1))) NoMemoryToOpen;
        step = stops (records ++ more) k NoMemoryToOpen (first_illegal (records ++ more))
            (λ j at. omega (arith, begins.same_length, illegal_after records more j legal at));
        answer = refl;
        load = (is.loaded.running is.some, is.loaded.begins.inside);
        stopped = kept.stopped;
        list = kept.list;
        moments = kept.moments;
        failures = kept.failures;
        refusals = inr (kept.refusals, lacks);
        unreadable = kept.unreadable;
        honest = kept.honest;
        most = kept.most;
        stays = kept.stays;
      };
      loads = k + 1;
      given = k + 1;
      asked = asked_more g old now next k is.loaded.asked loads.asked;
      gave = gave_whole g old next records more (k + 1) begins.same_length (gave_more g old now next table.records entry is.loaded.gave loads.gave);
      order = inr (refl, refl, lacks, refl);
    }

-- a record that isn't taken up
pub untaken : {S : Type 0} (g : store.Ghosts S) (old now next : S) (table left : Table) (k : ℕ) (entry : Record) (fault : SignFault)
    → IsLoadedTo g old now table k k → LoadsRecord g now next k (Ok (Some entry)) → TakesUpLoaded {A = Unit {0}} table left entry (Err fault)
    → LoadsAll g old next (IsTakenUp (Err fault))
untaken g old now next table left k entry (Illegal slot) is loads takes =
    let same : k ≡ slot = sym is.loaded.begins.same_length ∙ sym takes.1 in
    subst (λ n. LoadsAll g old next (IsTakenUp (Err (Illegal n)))) same
    (illegal_at g old now next table.records k entry is.loaded loads (key_follows table entry false is.keyed takes.0))
untaken g old now next table left k entry NoMemoryToOpen is loads takes =
    unroomed g old now next table k entry is loads (key_follows table entry true is.keyed takes.0) takes.1
untaken g old now next table left k entry Changed is loads takes = absurd takes
untaken g old now next table left k entry Exhausted is loads takes = absurd takes
untaken g old now next table left k entry RandomFailed is loads takes = absurd takes
untaken g old now next table left k entry StoreFailed is loads takes = absurd takes
untaken g old now next table left k entry OutOfMemory is loads takes = absurd takes
untaken g old now next table left k entry LedgerFull is loads takes = absurd takes
untaken g old now next table left k entry Stopped is loads takes = absurd takes
untaken g old now next table left k entry DeviceFailed is loads takes = absurd takes
untaken g old now next table left k entry KeyThere is loads takes = absurd takes
untaken g old now next table left k entry RandomRepeated is loads takes = absurd takes
untaken g old now next table left k entry MessageRead is loads takes = absurd takes
untaken g old now next table left k entry Moved is loads takes = absurd takes
untaken g old now next table left k entry RetireRange is loads takes = absurd takes
untaken g old now next table left k entry LongName is loads takes = absurd takes
untaken g old now next table left k entry NoKey is loads takes = absurd takes
untaken g old now next table left k entry (Damaged slot) is loads takes = absurd takes
untaken g old now next table left k entry (Unreadable slot) is loads takes = absurd takes

pub taken : {S : Type 0} (g : store.Ghosts S) (old now next : S) (table after : Table) (k : ℕ) (entry : Record) → IsLoadedTo g old now table k k
    → LoadsRecord g now next k (Ok (Some entry)) → TakesUpLoaded {A = Unit {0}} table after entry (Ok tt) → IsLoadedTo g old next after (k + 1) (k + 1)
taken g old now next table after k entry is loads takes =
    let follows = key_follows table entry true is.keyed takes.0 in record {
      loaded = subst (λ l. HasLoaded g old next l (k + 1) (k + 1)) (sym takes.2) (record {
        kept = kept_some g old now next k entry is.loaded.kept loads;
        begins = begins_more g old now next table.records k entry is.loaded.kept is.loaded.begins loads;
        legal = legal_with table.records entry is.loaded.legal follows;
        running = λ _. is.loaded.running is.some;
        asked = asked_more g old now next k is.loaded.asked loads.asked;
        gave = gave_more g old now next table.records entry is.loaded.gave loads.gave;
      });
      some = omega arith;
      keyed = ap the_key takes.2 ∙ key_stays table.records (entry ∷ []) (some_records table.records table.key is.keyed) ∙ is.keyed ∙ ap Some (sym takes.1);
      sizes = subst (λ key. SecretHasSizes key.secret) (sym takes.1) is.sizes;
    }

pub key_taken : {S : Type 0} (g : store.Ghosts S) (old next : S) (table : Table) (key : Key)
    → LeavesItsList g old
    → LoadsRecord g old next 0 (Ok (Some (KeyRecord key))) → HasSizes (KeyRecord key) → table.key ≡ key → table.records ≡ KeyRecord key ∷ []
    → IsLoadedTo g old next table 1 1
key_taken g old next table key only loads sizes same records =
    let start = none_loaded g old only in record {
      loaded = subst (λ l. HasLoaded g old next l 1 1) (sym records) (record {
        kept = kept_some g old old next 0 (KeyRecord key) start.kept loads;
        begins = begins_more g old old next [] 0 (KeyRecord key) start.kept start.begins loads;
        legal = refl;
        running = λ _. loads.loads.0;
        asked = loads.asked;
        gave = loads.gave;
      });
      some = omega arith;
      keyed = ap the_key records ∙ ap Some (sym same);
      sizes = subst (λ k. SecretHasSizes k.secret) (sym same) sizes.0;
    }

-- ---- the end

pub published_step : (records : List Record) (key : Key) (public : AnyPublic) → first_illegal records ≡ None → the_key records ≡ Some key
    → any_public_of key ≡ Some public → opened (closed_state records) None ≡ answered (open_state records) public
published_step records key public legal keyed is =
    ap (opened_illegal (closed_state records) None) legal ∙ ap (opened_key records) keyed ∙ ap (published records) is

pub all_taken : {S : Type 0} (g : store.Ghosts S) (old now : S) (table : Table) (k loads : ℕ) → IsLoadedTo g old now table k loads → length (g.list old) ≤ k
    → (loads ≡ k + 1) ⊎ ((loads ≡ k) × (k ≡ g.most old)) → LoadsAll g old now (IsTakenUp (Ok table))
all_taken g old now table k loads is end last =
    let (public, made) = public_made table.key.secret table.key.root is.sizes in
    let begins = is.loaded.begins in
    let kept = is.loaded.kept in record {
      opening = record {
        records = table.records;
        same_length = omega (arith, begins.same_length, begins.inside, end);
        same = λ honest. begins.same honest ∙ take_all k (g.list old) end;
        chance = None;
        outcome = answered (open_state table.records) public;
        step = published_step table.records table.key public is.loaded.legal is.keyed made;
        answer = (public, refl, ap public_of_key is.keyed ∙ made, refl);
        load = is.loaded.running is.some;
        stopped = kept.stopped;
        list = kept.list;
        moments = kept.moments;
        failures = kept.failures;
        refusals = kept.refusals;
        unreadable = kept.unreadable;
        honest = kept.honest;
        most = kept.most;
        stays = kept.stays;
      };
      loads = loads;
      given = k;
      asked = is.loaded.asked;
      gave = is.loaded.gave ∙ ap (λ l. g.given old ++ l) (sym (take_all k table.records (omega (arith, begins.same_length))));
      order = (sym begins.same_length, last);
    }

pub all_tied : {S : Type 0} (g : store.Ghosts S) (old now : S) (table : Table) (k loads : ℕ) → IsLoadedTo g old now table k loads → length (g.list old) ≤ k
    → IsTied g now table.records
all_tied g old now table k loads is end =
    let begins = is.loaded.begins in
    let kept = is.loaded.kept in record {
      running = kept.stopped ∙ is.loaded.running is.some;
      same_length = omega (arith, ap length kept.list, begins.same_length, begins.inside, end);
      same = λ honest. kept.list ∙ sym (begins.same (subst IsTrue kept.honest honest) ∙ take_all k (g.list old) end);
    }

pub end_found : {S : Type 0} (g : store.Ghosts S) (old now next : S) (table : Table) (k : ℕ) → IsLoadedTo g old now table k k
    → LoadsRecord g now next k (Ok None) → IsLoadedTo g old next table k (k + 1) × (length (g.list old) ≤ k)
end_found g old now next table k is loads = (
  record {
    loaded = record {
      kept = kept_none g old now next k is.loaded.kept loads;
      begins = is.loaded.begins;
      legal = is.loaded.legal;
      running = is.loaded.running;
      asked = asked_more g old now next k is.loaded.asked loads.asked;
      gave = loads.gave ∙ is.loaded.gave;
    };
    some = is.some;
    keyed = is.keyed;
    sizes = is.sizes;
  },
  omega (arith, loads.loads.1, ap length is.loaded.kept.list),
)

-- ---- record 0

not_first : (entry : Record) → is_key entry ≡ false → can_follow (the_key []) [] entry ≡ false
not_first (KeyRecord key) not = absurd (true≢false not)
not_first (ExtendRecord extend) not = refl
not_first (BoundRecord bound) not = refl
not_first (Retire upto) not = refl
not_first MovedRecord not = refl

pub key_refused : {S : Type 0} (g : store.Ghosts S) (old next : S) (entry : Record) (found : Option Key)
    → LeavesItsList g old
    → LoadsRecord g old next 0 (Ok (Some entry)) → (found ≡ None → is_key entry ≡ false)
    → IfErr (ok_or found (Illegal 0)) (λ fault. LoadsAll g old next (IsTakenUp (Err fault)))
key_refused g old next entry (Some key) only loads other = tt
key_refused g old next entry None only loads other =
    illegal_at g old old next [] 0 entry (none_loaded g old only) loads (not_first entry (other refl))

no_records : (list : List Record) → length list ≤ 0 → [] ≡ list
no_records [] within_limit = refl
no_records (entry ∷ entries) within_limit = absurd (omega (arith, within_limit))

pub none_there : {S : Type 0} (g : store.Ghosts S) (old next : S) → LeavesItsList g old → LoadsRecord g old next 0 (Ok None)
    → LoadsAll g old next (IsTakenUp (Err NoKey))
none_there g old next only loads =
    let kept = kept_none g old old next 0 (none_loaded g old only).kept loads in
    let empty = no_records (g.list old) loads.loads.1 in record {
      opening = record {
        records = [];
        same_length = ap length empty;
        same = λ honest. empty;
        chance = None;
        outcome = refused (closed_state []) NoKey;
        step = refl;
        answer = refl;
        load = loads.loads.0;
        stopped = kept.stopped;
        list = kept.list;
        moments = kept.moments;
        failures = kept.failures;
        refusals = kept.refusals;
        unreadable = kept.unreadable;
        honest = kept.honest;
        most = kept.most;
        stays = kept.stays;
      };
      loads = 1;
      given = 0;
      asked = loads.asked;
      gave = loads.gave ∙ sym (append-nil (g.given old));
      order = (refl, refl);
    }

-- ---- the signer of the records

-- another answer of the same outcome
loaded_with : {S : Type 0} (g : store.Ghosts S) (old new : S) (P Q : Outcome AnyPublic → Type 0)
    → ((outcome : Outcome AnyPublic) → P outcome → Q outcome) → LoadsAll g old new P → LoadsAll g old new Q
loaded_with g old new P Q to loads =
    let opens = loads.opening in record {
      opening = record {
        records = opens.records;
        same_length = opens.same_length;
        same = opens.same;
        chance = opens.chance;
        outcome = opens.outcome;
        step = opens.step;
        answer = to opens.outcome opens.answer;
        load = opens.load;
        stopped = opens.stopped;
        list = opens.list;
        moments = opens.moments;
        failures = opens.failures;
        refusals = opens.refusals;
        unreadable = opens.unreadable;
        honest = opens.honest;
        most = opens.most;
        stays = opens.stays;
      };
      loads = loads.loads;
      given = loads.given;
      asked = loads.asked;
      gave = loads.gave;
      order = loads.order;
    }

pub held_old : {S R : Type 0} (g : store.Ghosts S) (old new : S) (random : R) (ledger : Result Table SignFault)
    (result : Result (View S R) (Refused (S × R) SignFault)) → LoadsAll g old new (IsTakenUp ledger) → HoldsParts new random ledger result
    → Opens g old random result
held_old g old new random ledger result loads holds = record {
  loads = subst (λ s. LoadsAll g old s (IsAnswered result)) (sym holds.store_is)
      (loaded_with g old new (IsTakenUp ledger) (IsAnswered result) holds.answer loads);
  same_random = holds.random_is;
}
