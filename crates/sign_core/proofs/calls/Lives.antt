-- The lives of one disk are runs of the world.
use Rattle.std.proofs.Common.{◌≡◌, ◌∙◌, refl, sym, ap, subst, ℕ, zero, suc, ◌≤◌, ◌⊎◌, inl, inr, true, false, IsTrue, true≢false, if◌then◌else◌, ◌&&◌}
use Rattle.std.proofs.Common.{List, [], ◌∷◌, ◌++◌, length, take, Option, Some, None, Result, Ok, Err, append-nil, arith}
use Rattle.std.proofs.lemmas.Bool.{cases_Bool}
use Rattle.std.proofs.lemmas.List.{length_push}
use Rattle.state_file.specs.declared.disk.Disk as disk
use Rattle.state_file.specs.declared.record.Record.{Record}
use Rattle.state_file.specs.declared.record.Record.TheVariants.{Moved}
use Rattle.state_file.specs.declared.store.Store as store
use Rattle.state_file.specs.declared.store.file_store.FileStore.{FileStore}
use Rattle.state_file.specs.Disk.{MayLeave, settled}
use Rattle.state_file.specs.File.{HasNoKey, LeftLists, SpellsRecords, StandsFor}
use Rattle.state_file.specs.FileStore.{disk_of, records_of}
use Rattle.state_file.specs.inner.FileStore.{kept_leaves, stands_one, synced_left}
use Rattle.state_file.specs.Format.{PreparesPlace}
use Rattle.state_file.specs.Opening.{ContentKind, OpensAs, damaged, no_key, no_key_file, spelled, unknown_version}
use Rattle.state_file.proofs.Adding.{prepared_no_key}
use Rattle.state_file.proofs.Contents.{some_opening, standing}
use Rattle.sign_core.specs.declared.fault.SignFault.{SignFault}
use Rattle.sign_core.specs.Calls.{AreLastingCalls, Call, IsCall, IsLastingCall, IsRun, events_of, reached_records, store_after_calls}
use Rattle.sign_core.specs.Lives.{AreLives, IsAtStart, IsLeftByRun, IsLife, IsStoreOn, IsTriedOn, Life, LivesLaw, IsServingLife, disk_at_end, fails, life_handed, all_handed, CanMigrate, LedTo}
use Rattle.sign_core.specs.Lives.{contents_left, all_contents_left, serves, world_left, world_found}
use Rattle.sign_core.specs.Cuts.{IsBeginning, IsLeftBy}
use Rattle.sign_core.specs.Events.{IsEvent}
use Rattle.sign_core.specs.Once.{IsOnce}
use Rattle.sign_core.specs.SignerCalls.{world_of}
use Rattle.sign_core.specs.World.{Event, Handed, World, after, beginning, closed_state, create, newly_handed, reopen, request, requested, retire, run, stop, migrate}
use Rattle.sign_core.specs.World.{Migration, carried_over, migrated_list, sealed}
use Rattle.sign_core.specs.Records.{can_move}
use Rattle.state_file.specs.Carried.{carried, with_moved}
use Rattle.sign_core.proofs.calls.RunsOfCalls.{all_both, run_both, stop_left}
use Rattle.sign_core.proofs.law.KeptByRuns.{kept_by_run}
use Rattle.sign_core.proofs.law.Once.{once}
use Rattle.sign_core.proofs.law.SignedOpen.{signed_open}
use Rattle.sign_core.proofs.records.Parts.{migrated_key}

-- ---- which list a content stands for

pub spelled_stands : (records : List Record) (content : List ℕ) → SpellsRecords content records → StandsFor records content
spelled_stands [] content spells = let first = spells.first.1 in absurd (cc (first))
spelled_stands (entry ∷ entries) content spells = spells

-- a content that opens as something else than records, or no key, stands for no list
abbrev StandsForNone : List ℕ → Type 0
StandsForNone content = (other : List Record) → StandsFor other content → ⊥

stands_by : (content : List ℕ) (kind : ContentKind) → OpensAs content kind → ((list : List Record) × StandsFor list content) ⊎ StandsForNone content
stands_by content (spelled records) is = inl (records, spelled_stands records content is)
stands_by content no_key is = inl ([], is)
stands_by content no_key_file is = inr (λ other stands. elim (standing other content no_key_file stands is) [ inl a ↦ cc | inr b ↦ cc ])
stands_by content unknown_version is = inr (λ other stands. elim (standing other content unknown_version stands is) [ inl a ↦ cc | inr b ↦ cc ])
stands_by content (damaged k) is = inr (λ other stands. elim (standing other content (damaged k) stands is) [ inl a ↦ cc | inr b ↦ cc ])

list_or_none : (content : List ℕ) → ((list : List Record) × StandsFor list content) ⊎ StandsForNone content
list_or_none content = let (kind, is) = some_opening content in stands_by content kind is

-- If each list that is left has P, and some list doesn't, a content that is left stands for a list.
pub one_left : (P : List Record → Type 0) (other : List Record) → (P other → ⊥) → (since : ℕ → List ℕ → Type 0) (t : ℕ) (content : List ℕ)
    → since t content → ((list : List Record) → LeftLists since t list → P list) → (list : List Record) × StandsFor list content × P list
one_left P other never since t content is each = elim (list_or_none content) [
  | inl (list, stands) ↦ (list, stands, each list (content, is, inl stands))
  | inr none ↦ absurd (never (each other (content, is, inr none)))
]

pub longer : List Record → List Record
longer all = all ++ Moved ∷ []

pub not_longer : (all : List Record) → longer all ≡ all → ⊥
unfolding longer
not_longer all same = omega (arith, ap length same, length_push all Moved)

take_few : (n : ℕ) (xs : List Record) → length (take n xs) ≤ length xs
take_few zero xs = omega arith
take_few (suc n) [] = omega arith
take_few (suc n) (x ∷ xs) = let rest = take_few n xs in omega (arith, rest)

not_beginning : (least : ℕ) (all : List Record) → IsBeginning least all (longer all) → ⊥
unfolding longer
not_beginning least all begins = omega (arith, ap length begins.beginning, length_push all Moved, take_few begins.count all)

-- ---- runs

pub runs_on : (limit : ℕ) (a b c : World) → IsRun limit a b → IsRun limit b c → IsRun limit a c
runs_on limit a b c first later = record {
  events = first.events ++ later.events;
  possible = all_both first.events later.events first.possible later.possible;
  leads = run_both limit a first.events later.events ∙ ap (λ w. run limit w later.events) first.leads ∙ later.leads;
}

pub no_run : (limit : ℕ) (world : World) → IsRun limit world world
no_run limit world = record { events = []; possible = tt; leads = refl }

pub one_event : (limit : ℕ) (world : World) (event : Event) → IsEvent event → IsRun limit world (after limit world event)
one_event limit world event can = record { events = event ∷ []; possible = (can, tt); leads = refl }

pub by_stop : (limit : ℕ) (world : World) → IsRun limit world (world_of (closed_state world.state.records) world.handed)
by_stop limit world = record { events = stop ∷ []; possible = (tt, tt); leads = refl }

left_run : (limit : ℕ) (world : World) (list : List Record) → IsLeftBy limit world list → IsRun limit world (world_of (closed_state list) world.handed)
left_run limit world list by = record { events = by.events; possible = by.possible; leads = by.leads }

pub run_once : (limit : ℕ) (world : World) → IsRun limit beginning world → IsOnce limit world
run_once limit world by = subst (IsOnce limit) by.leads (once limit (run limit beginning by.events) (kept_by_run limit by.events by.possible))

-- ---- an event after which no signer is open hands nothing out

silent : (handed : List Handed) (name : List ℕ) (given : Option (List ℕ)) (answer : Result (List ℕ) SignFault)
    → ((signature : List ℕ) → answer ≡ Ok signature → ⊥) → handed ++ newly_handed name given answer ≡ handed
silent handed name (Some message) (Ok signature) never = absurd (never signature refl)
silent handed name None (Ok signature) never = append-nil handed
silent handed name (Some message) (Err fault) never = append-nil handed
silent handed name None (Err fault) never = append-nil handed

hands_nothing : (limit : ℕ) (world : World) (event : Event) → (after limit world event).state.is_open ≡ false
    → (after limit world event).handed ≡ world.handed
hands_nothing limit world (create spec chance) closed = refl
hands_nothing limit world (reopen chance) closed = refl
hands_nothing limit world (request name chance) closed =
    silent world.handed name chance.given (requested limit world.state name chance).answer
    (λ signature is. true≢false (sym (signed_open limit world.state name signature chance is) ∙ closed))
hands_nothing limit world (retire upto fate) closed = refl
hands_nothing limit world (migrate fate) closed = refl
hands_nothing limit world stop closed = refl

-- ---- calls on a store over the disk

-- what an honest disk promises of moments
pub record KeepsTime {D : Type 0} (d : disk.Ghosts D) : Type 0 where
  pub shows : (on : D) → IsTrue (d.honest on) → MayLeave (d.state on) (d.state on).content
  pub counts_now : (on : D) (t : ℕ) (c : List ℕ) → IsTrue (d.honest on) → t ≤ d.moment on → MayLeave (d.state on) c → d.left_since on t c
  pub only_now : (on : D) (c : List ℕ) → IsTrue (d.honest on) → d.left_since on (d.moment on) c → MayLeave (d.state on) c

-- the store's moments and lists are its disk's
pub record IsTiedToDisk {D : Type 0} (d : disk.Ghosts D) (g : store.Ghosts (FileStore D d)) : Type 0 where
  pub lists : (old new : FileStore D d) (list : List Record) → LeftLists (d.left_since (disk_of new)) (d.moment (disk_of old)) list
      → g.left_since new (g.moment old) list
  pub later : (old new : FileStore D d) → g.moment old ≤ g.moment new → d.moment (disk_of old) ≤ d.moment (disk_of new)
  pub honest : (old new : FileStore D d) → g.honest new ≡ g.honest old → d.honest (disk_of new) ≡ d.honest (disk_of old)

module _ {D : Type 0} (d : disk.Ghosts D) (g : store.Ghosts (FileStore D d)) (time : KeepsTime d) (tied : IsTiedToDisk d g) (limit : ℕ) where
  -- what a crash right now leaves of the store's disk, a run from the first world leaves
  abbrev pub LeavesRuns : (first now : World) → FileStore D d → Type 0
  LeavesRuns first now store = (content : List ℕ) → d.left_since (disk_of store) (d.moment (disk_of store)) content
      → IsLeftByRun limit first now.handed content

  pub in_call : (first now : World) (old : FileStore D d) (call : Call (FileStore D d)) (content : List ℕ) → IsRun limit first now
      → LeavesRuns first now old → IsCall g.moment g.left_since limit now old call
      → d.left_since (disk_of call.store) (d.moment (disk_of old)) content → IsLeftByRun limit first now.handed content
  in_call first now old call content runs was is since =
      let all = reached_records limit now call.event in
      let begins = IsBeginning (length now.state.records) all in
      elim is.leaves as (λ u. IsLeftByRun limit first now.handed content) [
        | inl leaves ↦
            let (list, stands, left) = one_left begins (longer all) (not_beginning (length now.state.records) all) (d.left_since (disk_of call.store))
            (d.moment (disk_of old)) content since (λ list lists. leaves.each list (tied.lists old call.store list lists)) in
            record {
              records = list;
              stands = stands;
              runs = runs_on limit first now _ runs (left_run limit now list (stop_left limit now call.event list is.possible left));
            }
        | inr same ↦ was content (subst (λ s. d.left_since (disk_of s) (d.moment (disk_of old)) content) same since)
      ]

  -- a crash right after a call, with an open signer
  open_call : (first now : World) (old : FileStore D d) (call : Call (FileStore D d)) → IsRun limit first now
      → IsLastingCall g limit now old call → (after limit now call.event).state.is_open ≡ true → LeavesRuns first (after limit now call.event) call.store
  open_call first now old call runs is opens content since =
      let left = after limit now call.event in
      let records = left.state.records in
      let (list, stands, same) = one_left (λ l. l ≡ records) (longer records) (not_longer records) (d.left_since (disk_of call.store))
      (d.moment (disk_of call.store)) content since (λ list lists. is.lasts opens list (tied.lists call.store call.store list lists)) in
      record {
        records = list;
        stands = stands;
        runs = subst (λ l. IsRun limit first (world_of (closed_state l) left.handed)) (sym same)
            (runs_on limit first left _ (runs_on limit first now left runs (one_event limit now call.event is.is_call.possible)) (by_stop limit left));
      }

  -- .. and without one
  closed_call : (first now : World) (old : FileStore D d) (call : Call (FileStore D d)) → IsTrue (d.honest (disk_of call.store)) → IsRun limit first now
      → LeavesRuns first now old → IsLastingCall g limit now old call → (after limit now call.event).state.is_open ≡ false
      → LeavesRuns first (after limit now call.event) call.store
  closed_call first now old call honest runs was is closed content since =
      let earlier : d.moment (disk_of old) ≤ d.moment (disk_of call.store) = elim is.is_call.leaves [
        | inl leaves ↦ tied.later old call.store leaves.later
        | inr same ↦ subst (λ s. d.moment (disk_of old) ≤ d.moment (disk_of s)) (sym same) (omega arith)
      ] in
      let since_old = time.counts_now (disk_of call.store) (d.moment (disk_of old)) content honest earlier
      (time.only_now (disk_of call.store) content honest since) in
      subst (λ handed. IsLeftByRun limit first handed content) (sym (hands_nothing limit now call.event closed))
      (in_call first now old call content runs was is.is_call since_old)

  -- what calls lead to
  pub record HasServed (first now : World) (store : FileStore D d) : Type 0 where
    pub honest : IsTrue (d.honest (disk_of store))
    pub runs : IsRun limit first now
    pub leaves : LeavesRuns first now store

  pub one_call : (first now : World) (old : FileStore D d) (call : Call (FileStore D d)) → HasServed first now old → IsLastingCall g limit now old call
      → HasServed first (after limit now call.event) call.store
  one_call first now old call served is =
      let honest = subst IsTrue (sym (tied.honest old call.store is.honest)) served.honest in
      record {
        honest = honest;
        runs = runs_on limit first now _ served.runs (one_event limit now call.event is.is_call.possible);
        leaves = elim (cases_Bool (after limit now call.event).state.is_open) [
          | inl opens ↦ open_call first now old call served.runs is opens
          | inr closed ↦ closed_call first now old call honest served.runs served.leaves is closed
        ];
      }

  all_calls : (first now : World) (old : FileStore D d) (calls : List (Call (FileStore D d))) → HasServed first now old
      → AreLastingCalls g limit now old calls → HasServed first (run limit now (events_of calls)) (store_after_calls old calls)
  all_calls first now old [] served are = served
  all_calls first now old (call ∷ calls) served are =
      all_calls first (after limit now call.event) call.store calls (one_call first now old call served are.0) are.1

  -- ---- one life

  pub has_first : (on : D) (store : FileStore D d) → IsTrue (d.honest on) → IsStoreOn d on store → IsTrue (d.honest (disk_of store))
  has_first on store honest (inl opened) = subst IsTrue (sym opened.honest) honest
  has_first on store honest (inr prepared) = subst IsTrue (sym prepared.honest) honest

  leaves_first : (on : D) (store : FileStore D d) (content : List ℕ) → IsTrue (d.honest (disk_of store)) → IsStoreOn d on store
      → MayLeave (d.state (disk_of store)) content → StandsFor (records_of store) content
  leaves_first on store content honest (inl opened) may = kept_leaves store.records store.tag (d.state store.disk) content (store.kept honest opened.running) may
  leaves_first on store content honest (inr prepared) may =
      kept_leaves store.records store.tag (d.state store.disk) content (store.kept honest prepared.running) may

  pub served_first : (on : D) (store : FileStore D d) (handed : List Handed) → IsTrue (d.honest on) → IsStoreOn d on store
      → HasServed (world_found store handed) (world_found store handed) store
  served_first on store handed honest is =
      let own = has_first on store honest is in
      record {
        honest = own;
        runs = no_run limit (world_found store handed);
        leaves = λ content since. record {
          records = records_of store;
          stands = leaves_first on store content own is (time.only_now (disk_of store) content own since);
          runs = no_run limit (world_found store handed);
        };
      }

  finds_no_key : (content : List ℕ) (store : FileStore D d) → PreparesPlace content (d.state (disk_of store)) → HasNoKey content
  finds_no_key content store prepares = elim prepares.1 [ inl short ↦ inl short.0 | inr closed ↦ inr closed.1 ]

  pub finds : (on : D) (store : FileStore D d) (records : List Record) → IsStoreOn d on store → StandsFor records (d.state on).content
      → records_of store ≡ records
  finds on store records (inl opened) stands =
      stands_one (records_of store) records (d.state on).content (spelled_stands (records_of store) (d.state on).content opened.records) stands
  finds on store records (inr prepared) stands =
      prepared.records ∙ stands_one [] records (d.state on).content (finds_no_key (d.state on).content store prepared.prepares) stands

  -- ---- lives one after the other

  -- runs lead to each content that may be left
  abbrev LeavesByRuns : (List ℕ → Type 0) → List Handed → Type 0
  LeavesByRuns before handed = (content : List ℕ) → before content → IsLeftByRun limit beginning handed content

  -- the run to the world in which a life's calls begin
  run_to : (before : List ℕ → Type 0) (handed : List Handed) (on : D) (store : FileStore D d) → LeavesByRuns before handed → IsAtStart d before on
      → IsStoreOn d on store → IsRun limit beginning (world_found store handed)
  run_to before handed on store known begins is =
      let was = known (d.state on).content (begins.holds (d.state on).content (time.shows on begins.honest)) in
      subst (λ l. IsRun limit beginning (world_of (closed_state l) handed)) (sym (finds on store was.records is was.stands)) was.runs

  after_service : (before : List ℕ → Type 0) (handed : List Handed) (on : D) (store : FileStore D d) (calls : List (Call (FileStore D d)))
      (last : Call (FileStore D d)) → IsAtStart d before on → IsServingLife d g limit handed on store calls last
      → HasServed (world_found store handed) (world_left limit store calls handed) (store_after_calls store calls)
  after_service before handed on store calls last begins is =
      all_calls (world_found store handed) (world_found store handed) store calls (served_first on store handed begins.honest is.is_store) is.each

  failed : (before : List ℕ → Type 0) (handed : List Handed) (old new : D) (content : List ℕ) → LeavesByRuns before handed → IsAtStart d before old
      → IsTriedOn d old new → d.left_since new (d.moment old) content → IsLeftByRun limit beginning handed content
  failed before handed old new content known begins (inl leaves) since = known content (begins.holds content (leaves.each content since))
  failed before handed old new content known begins (inr leaves) since = elim (leaves.each content since) [
    | inl may ↦ known content (begins.holds content may)
    | inr (short, changes) ↦
        let was = known (d.state old).content (begins.holds (d.state old).content (time.shows old begins.honest)) in
        let none : was.records ≡ [] = stands_one was.records [] (d.state old).content was.stands (inl short) in
        record {
          records = [];
          stands = prepared_no_key (d.state old).content content short changes;
          runs = subst (λ l. IsRun limit beginning (world_of (closed_state l) handed)) none was.runs;
        }
  ]

  one_life : (before : List ℕ → Type 0) (handed : List Handed) (life : Life D d) → LeavesByRuns before handed → IsLife d g limit before handed life
      → LeavesByRuns (contents_left d life) (life_handed limit handed life)
  one_life before handed (fails old new) known is content since = failed before handed old new content known is.0 is.1 since
  one_life before handed (serves on store calls last) known is content since =
      let served = after_service before handed on store calls last is.0 is.1 in
      let left = in_call (world_found store handed) (world_left limit store calls handed) (store_after_calls store calls) last content served.runs served.leaves
      is.1.is_last since in
      record {
        records = left.records;
        stands = left.stands;
        runs = runs_on limit beginning (world_found store handed) _ (run_to before handed on store known is.0 is.1.is_store) left.runs;
      }

  all_lives : (before : List ℕ → Type 0) (handed : List Handed) (lives : List (Life D d)) → LeavesByRuns before handed
      → AreLives d g limit before handed lives → LeavesByRuns (all_contents_left d before lives) (all_handed limit handed lives)
  all_lives before handed [] known are = known
  all_lives before handed (life ∷ lives) known are =
      all_lives (contents_left d life) (life_handed limit handed life) lives (one_life before handed life known are.0) are.1

none_led : (limit : ℕ) (content : List ℕ) → HasNoKey content → LedTo limit [] content
none_led limit content none = record { records = []; stands = none; runs = no_run limit beginning }

start_without : {D : Type 0} (d : disk.Ghosts D) (limit : ℕ) (on : D) → IsAtStart d HasNoKey on → IsAtStart d (LedTo limit []) on
start_without d limit on is = record { honest = is.honest; holds = λ content may. none_led limit content (is.holds content may) }

without_key : {D : Type 0} (d : disk.Ghosts D) (g : store.Ghosts (FileStore D d)) (limit : ℕ) (lives : List (Life D d)) → AreLives d g limit HasNoKey [] lives
    → AreLives d g limit (LedTo limit []) [] lives
without_key d g limit [] are = tt
without_key d g limit (fails old new ∷ lives) are = ((start_without d limit old are.0.0, are.0.1), are.1)
without_key d g limit (serves on store calls last ∷ lives) are = ((start_without d limit on are.0.0, are.0.1), are.1)

left_without_key : {D : Type 0} (d : disk.Ghosts D) (limit : ℕ) (lives : List (Life D d)) (content : List ℕ) → all_contents_left d HasNoKey lives content
    → all_contents_left d (LedTo limit []) lives content
left_without_key d limit [] content left = none_led limit content left
left_without_key d limit (life ∷ lives) content left = left

migrated_run : (limit : ℕ) (handed : List Handed) (records : List Record) (fate : Migration) → IsRun limit beginning (world_of (closed_state records) handed)
    → CanMigrate records → IsRun limit beginning (world_of (closed_state (migrated_list records fate)) handed)
migrated_run limit handed records fate is (key, keyed, one) =
    let event : Event = migrate fate in
    let leads : after limit (world_of (closed_state records) handed) event ≡ world_of (closed_state (migrated_list records fate)) handed =
    ap (λ found. world_of (migrated_key (closed_state records) fate found) handed) keyed
    ∙ ap (λ version. world_of (if can_move version && true then closed_state (migrated_list records fate) else closed_state records) handed) one in
    runs_on limit beginning (world_of (closed_state records) handed) _ is (subst (IsRun limit (world_of (closed_state records) handed)) leads
    (one_event limit (world_of (closed_state records) handed) event tt))

pub migrates : (limit : ℕ) (handed : List Handed) (records : List Record) (content moved : List ℕ) → IsLeftByRun limit beginning handed content
    → StandsFor records content → CanMigrate records → StandsFor (carried records) moved ⊎ StandsFor (with_moved records) moved
    → IsLeftByRun limit beginning handed moved
migrates limit handed records content moved left stands can there =
    let same : left.records ≡ records = stands_one left.records records content left.stands stands in
    let was : IsRun limit beginning (world_of (closed_state records) handed) = subst (λ l. IsRun limit beginning (world_of (closed_state l) handed)) same left.runs in
    elim there as (λ u. IsLeftByRun limit beginning handed moved) [
      | inl over ↦ record { records = carried records; stands = over; runs = migrated_run limit handed records carried_over was can }
      | inr last ↦ record { records = with_moved records; stands = last; runs = migrated_run limit handed records sealed was can }
    ]

-- ---- what a life may begin with

after_power : {D : Type 0} (d : disk.Ghosts D) (before : List ℕ → Type 0) (on : D) (content : List ℕ) → IsTrue (d.honest on)
    → d.state on ≡ settled content → before content → IsAtStart d before on
after_power d before on content honest same left = record {
  honest = honest;
  holds = λ other may. subst before (sym (synced_left content other (subst (λ s. MayLeave s other) same may))) left;
}

no_earlier : {D : Type 0} (d : disk.Ghosts D) (g : store.Ghosts (FileStore D d)) (tied : IsTiedToDisk d g) (limit : ℕ) (world : World) (old : FileStore D d)
    (call : Call (FileStore D d)) → IsCall g.moment g.left_since limit world old call → d.moment (disk_of old) ≤ d.moment (disk_of call.store)
no_earlier d g tied limit world old call is = elim is.leaves [
  | inl leaves ↦ tied.later old call.store leaves.later
  | inr same ↦ subst (λ s. d.moment (disk_of old) ≤ d.moment (disk_of s)) (sym same) (omega arith)
]

tried_later : {D : Type 0} (d : disk.Ghosts D) (old new : D) → IsTriedOn d old new → d.moment old ≤ d.moment new
tried_later d old new (inl leaves) = leaves.later
tried_later d old new (inr leaves) = leaves.later

goes_on : {D : Type 0} (d : disk.Ghosts D) (g : store.Ghosts (FileStore D d)) → KeepsTime d → (tied : IsTiedToDisk d g) → (limit : ℕ) (before : List ℕ → Type 0)
    (handed : List Handed) (life : Life D d) → IsTrue (d.honest (disk_at_end life)) → IsLife d g limit before handed life
    → IsAtStart d (contents_left d life) (disk_at_end life)
goes_on d g time tied limit before handed (fails old new) honest is = record {
  honest = honest;
  holds = λ content may. time.counts_now new (d.moment old) content honest (tried_later d old new is.1) may;
}
goes_on d g time tied limit before handed (serves on store calls last) honest is = record {
  honest = honest;
  holds = λ content may.
      let ended = store_after_calls store calls in
      time.counts_now (disk_of last.store) (d.moment (disk_of ended)) content honest
      (no_earlier d g tied limit (world_left limit store calls handed) ended last is.1.is_last) may;
}

known_led : (limit : ℕ) (handed : List Handed) (content : List ℕ) → LedTo limit handed content → IsLeftByRun limit beginning handed content
known_led limit handed content led = led

pub lives_law : {D : Type 0} (d : disk.Ghosts D) (g : store.Ghosts (FileStore D d)) → KeepsTime d → IsTiedToDisk d g → LivesLaw d g
lives_law d g time tied = record {
  without_key = without_key d g;
  left_without_key = left_without_key d;
  migrates = migrates;
  after_power = λ limit handed lives on content honest same left. after_power d (all_contents_left d (LedTo limit handed) lives) on content honest same left;
  goes_on = λ limit handed lives life honest is.
      goes_on d g time tied limit (all_contents_left d (LedTo limit handed) lives) (all_handed limit handed lives) life honest is;
  finds = λ on store records is stands. finds d g time tied 0 on store records is stands;
  leaves = λ limit handed lives content are left. all_lives d g time tied limit (LedTo limit handed) handed lives (known_led limit handed) are content left;
  once = λ limit handed lives content records are left stands.
      let by = all_lives d g time tied limit (LedTo limit handed) handed lives (known_led limit handed) are content left in
      let same : by.records ≡ records = stands_one by.records records content by.stands stands in
      subst (λ l. IsOnce limit (world_of (closed_state l) (all_handed limit handed lives))) same (run_once limit _ by.runs);
  once_after = λ limit handed lives on store calls last are is.
      let all = all_handed limit handed lives in
      let left = all_contents_left d (LedTo limit handed) lives in
      let known = all_lives d g time tied limit (LedTo limit handed) handed lives (known_led limit handed) are in
      let start = run_to d g time tied limit left all on store known is.0 is.1.is_store in
      let served = after_service d g time tied limit left all on store calls last is.0 is.1 in
      run_once limit (world_left limit store calls all) (runs_on limit beginning (world_found store all) _ start served.runs);
}
