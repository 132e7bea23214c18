-- All records of a new name are an Extend, and then all records from there.
use Rattle.std.proofs.Common.{◌≡◌, ◌∙◌, inl, inr, ℕ, suc, ◌+◌, ◌-◌, ◌≤◌, Bool, true, false, List, [], ◌∷◌, ◌++◌, length, take, Option, Some, None, Result, Ok, Err, refl, sym, ap, subst, append_assoc, append-nil, arith, IsTrue}
use Rattle.std.specs.Prelude.{if◌then◌else◌}
use Rattle.std.specs.Option.{option_to_list}
use Rattle.std.proofs.lemmas.List.{take-append-le, take_all, take_at, length_push}
use Rattle.std.proofs.lemmas.Bool.{cases_lt}
use Rattle.typecodes.specs.declared.message.Message as message
use Rattle.state_file.proofs.Moments.{combined, weaker}
use Rattle.state_file.specs.Disk.{Counts}
use Rattle.state_file.specs.Laws.{bottom_of}
use Rattle.state_file.specs.declared.record.Key.{Key}
use Rattle.state_file.specs.declared.record.Extend.{Extend}
use Rattle.state_file.specs.declared.record.Record.{Record}
use Rattle.state_file.specs.declared.record.Record.TheVariants.{Extend as ExtendRecord}
use Rattle.state_file.specs.declared.store.Store as store
use Rattle.sign_core.specs.declared.source.Source as source
use Rattle.sign_core.specs.declared.fault.SignFault.{SignFault}
use Rattle.sign_core.specs.declared.fault.SignFault.TheVariants.{OutOfMemory, RandomFailed, RandomRepeated, StoreFailed}
use Rattle.sign_core.specs.Source.{Provides}
use Rattle.sign_core.specs.Records.{binding_at, has_identifier, has_moved, the_key, next_at}
use Rattle.sign_core.specs.Cuts.{IsBeginning, reached}
use Rattle.sign_core.specs.Signer.{Ends, GrowsAlike, IsRead, KeepsStore, RefusesAfterDraws, UsesMemory, View, is_out_of_memory, is_random_failed, is_store_failed}
use Rattle.sign_core.specs.inner.Signing.{Does, Extends, BindsBelow, IsReady}
use Rattle.sign_core.specs.Textbook.{Trees, trees_of}
use Rattle.sign_core.specs.World.{Chance, Draw, Fate, Outcome, acked, answered, appended, cut_new, cut_old, drawing, no_memory}
use Rattle.sign_core.specs.World.{open_state, refused}
use Rattle.sign_core.specs.inner.Cases.{extended, bound_trees}
use Rattle.sign_core.proofs.steps.Cases.{extended_identifier, extended_seed}
use Rattle.sign_core.proofs.steps.TreeDraws.{gives_both}
use Rattle.sign_core.proofs.records.Bindings.{binding_other}
use Rattle.sign_core.proofs.steps.NewRecords.{drawing_twice}
use Rattle.sign_core.proofs.records.Unchanged.{key_stays, last_is}

-- ---- a draw of a new tree

-- A draw, for anything that comes after it: the tree is recorded, and this comes; or it is refused.
pub data ComesOfDraw (records : List Record) (comes : (List Record → Outcome (List ℕ)) → Outcome (List ℕ)) : Type 0 where
  recorded : (extend : Extend) (bytes : List ℕ)
      → ((next : List Record → Outcome (List ℕ)) → comes next ≡ drawing bytes (next (records ++ ExtendRecord extend ∷ [])))
      → ComesOfDraw records comes
  ended : (fault : SignFault) (outcome : Outcome (List ℕ)) → outcome.answer ≡ Err fault → outcome.acknowledged ≡ records → outcome.is_read ≡ false
      → ((next : List Record → Outcome (List ℕ)) → comes next ≡ outcome) → ComesOfDraw records comes

by_fate : (records : List Record) (extend : Extend) (bytes : List ℕ) (fate : Fate)
    → ComesOfDraw records (λ next. drawing bytes (appended (open_state records) (ExtendRecord extend) fate next))
by_fate records extend bytes acked = recorded extend bytes (λ next. refl)
by_fate records extend bytes cut_old = ended StoreFailed _ refl refl refl (λ next. refl)
by_fate records extend bytes cut_new = ended StoreFailed _ refl refl refl (λ next. refl)
by_fate records extend bytes no_memory = ended OutOfMemory _ refl refl refl (λ next. refl)

along : (records : List Record) (comes others : (List Record → Outcome (List ℕ)) → Outcome (List ℕ)) → ((next : List Record → Outcome (List ℕ)) → others next ≡ comes next)
    → ComesOfDraw records comes → ComesOfDraw records others
along records comes others same (recorded extend bytes is) = recorded extend bytes (λ next. same next ∙ is next)
along records comes others same (ended fault outcome answer kept unread is) = ended fault outcome answer kept unread (λ next. same next ∙ is next)

by_fields : (records : List Record) (trees : Trees) (level leaf : ℕ) (identifier : List ℕ) (fields : List (List ℕ)) (fate : Fate)
    → ComesOfDraw records (λ next. drawing identifier (extended_seed (open_state records) trees level leaf identifier fields fate next))
by_fields records trees level leaf identifier [] fate = ended RandomFailed _ refl refl refl (λ next. refl)
by_fields records trees level leaf identifier (seed ∷ []) fate = ended RandomFailed _ refl refl refl (λ next. refl)
by_fields records trees level leaf identifier (seed ∷ randomizer ∷ []) fate =
    along records _ _ (λ next. drawing_twice identifier (seed ++ randomizer) _) (by_fate records _ (identifier ++ (seed ++ randomizer)) fate)
by_fields records trees level leaf identifier (seed ∷ randomizer ∷ other ∷ rest) fate = ended RandomFailed _ refl refl refl (λ next. refl)

by_fresh : (records : List Record) (trees : Trees) (level leaf : ℕ) (identifier : List ℕ) (fields : List (List ℕ)) (fate : Fate) (stands : Bool)
    → ComesOfDraw records (λ next. drawing identifier (if stands then refused (open_state records) RandomRepeated
    else extended_seed (open_state records) trees level leaf identifier fields fate next))
by_fresh records trees level leaf identifier fields fate true = ended RandomRepeated _ refl refl refl (λ next. refl)
by_fresh records trees level leaf identifier fields fate false = by_fields records trees level leaf identifier fields fate

by_first : (records : List Record) (trees : Trees) (level leaf : ℕ) (fields : List (List ℕ)) (fate : Fate)
    → ComesOfDraw records (λ next. extended_identifier (open_state records) trees level leaf fields fate next)
by_first records trees level leaf [] fate = ended RandomFailed _ refl refl refl (λ next. refl)
by_first records trees level leaf (identifier ∷ fields) fate =
    by_fresh records trees level leaf identifier fields fate (has_identifier records identifier)

pub by_trees : (records : List Record) (key : Key) (level : ℕ) (found : Option Trees) (draw : Draw)
    → ComesOfDraw records (extended (open_state records) key level found draw)
by_trees records key level None draw = ended RandomFailed _ refl refl refl (λ next. refl)
by_trees records key level (Some trees) draw = by_first records trees level (next_at key.secret records (level - 1)) draw.fields draw.fate

-- ---- the store

-- `GrowsAlike` twice
grows_twice : (old_list mid_list new_list old_records mid_records new_records : List Record) → GrowsAlike old_list mid_list old_records mid_records
    → GrowsAlike mid_list new_list mid_records new_records → GrowsAlike old_list new_list old_records new_records
grows_twice old_list mid_list new_list old_records mid_records new_records first second = record {
  more = first.more ++ second.more;
  list = second.list ∙ ap (λ l. l ++ second.more) first.list ∙ append_assoc old_list first.more second.more;
  records = second.records ∙ ap (λ l. l ++ second.more) first.records ∙ append_assoc old_records first.more second.more;
}

-- a beginning of some records is a beginning of a longer list
beginning_of_more : (least : ℕ) (records more all left : List Record) → least ≤ length records → all ≡ records ++ more
    → IsBeginning least records left → IsBeginning least all left
beginning_of_more least records more all left within is begins = elim (cases_lt begins.count (length records)) [
  | inl low ↦ record {
    count = begins.count;
    enough = begins.enough;
    beginning = begins.beginning ∙ sym (ap (take begins.count) is ∙ take-append-le begins.count records more (omega (arith, low)));
  }
  | inr high ↦ record {
    count = length records;
    enough = within;
    beginning = begins.beginning ∙ take_all begins.count records high ∙ sym (ap (take (length records)) is ∙ take_at records more (length records) refl);
  }
]

beginning_at_least : (least fewer : ℕ) (all left : List Record) → fewer ≤ least → IsBeginning least all left → IsBeginning fewer all left
beginning_at_least least fewer all left low begins =
    record { count = begins.count; enough = omega (arith, low, begins.enough); beginning = begins.beginning }

-- counts where the first call counts none
counts_on : {A : Type 0} (is_counted : SignFault → Bool) (before mid after : ℕ) (answer : Result A SignFault) → mid ≡ before
    → Counts is_counted mid after answer → Counts is_counted before after answer
counts_on is_counted before mid after answer same counts = subst (λ (n : ℕ). Counts is_counted n after answer) same counts

abbrev after_extend : List Record → Extend → (bytes : List ℕ) → Outcome (List ℕ)
after_extend records extend bytes = drawing bytes (answered (open_state (records ++ ExtendRecord extend ∷ [])) [])

-- `KeepsStore` for a recorded Extend and for what follows makes one for both.
keeps_after : {S : Type 0} (g : store.Ghosts S) (old mid new : S) (records mid_records more : List Record) (extend : Extend) (bytes : List ℕ)
    (outcome : Outcome (List ℕ)) → g.stopped mid ≡ false → mid_records ≡ records ++ ExtendRecord extend ∷ [] → outcome.acknowledged ≡ mid_records ++ more
    → KeepsStore g old mid records (after_extend records extend bytes) → KeepsStore g mid new mid_records outcome
    → KeepsStore g old new records (drawing bytes outcome)
keeps_after g old mid new records mid_records more extend bytes outcome running is grown first second =
    let failed : List Record = option_to_list outcome.failed in
    let some : List Record = (records ++ ExtendRecord extend ∷ []) ++ [] in
    let same : mid_records ≡ some = is ∙ sym (append-nil (records ++ ExtendRecord extend ∷ [])) in
    let all : reached outcome ≡ some ++ (more ++ failed) =
    ap (λ l. l ++ failed) grown ∙ append_assoc mid_records more failed ∙ ap (λ l. l ++ (more ++ failed)) same in
    let longer : length records ≤ length mid_records = omega (arith, ap length is, length_push records (ExtendRecord extend)) in
    let within : length records ≤ length some = omega (arith, longer, ap length same) in record {
      list = grows_twice _ _ _ _ mid_records _ (record {
        more = first.list.more;
        list = first.list.list;
        records = is ∙ first.list.records;
      }) second.list;
      moments = λ honest was. combined g.moment g.left_since old mid new (IsBeginning (length records) (reached outcome))
          (weaker g.moment g.left_since old mid (IsBeginning (length records) some) (IsBeginning (length records) (reached outcome))
          (λ left begins. beginning_of_more (length records) some (more ++ failed) (reached outcome) left within all begins) (first.moments honest was))
          (weaker g.moment g.left_since mid new (IsBeginning (length mid_records) (reached outcome)) (IsBeginning (length records) (reached outcome))
          (λ left begins. beginning_at_least (length mid_records) (length records) (reached outcome) left longer begins)
          (second.moments (subst IsTrue (sym first.honest) honest) running));
      failures = counts_on is_store_failed (g.failures old) (g.failures mid) (g.failures new) outcome.answer first.failures second.failures;
      honest = second.honest ∙ first.honest;
      most = second.most ∙ first.most;
    }

length_front : (records more : List Record) → length records ≤ length (records ++ more)
length_front [] more = omega arith
length_front (first ∷ rest) more = omega (arith, length_front rest more)

-- `Does` for a recorded Extend and for what follows makes one for both.
does_after : {S R M : Type 0} (g : store.Ghosts S) (r : source.Ghosts R) (m : message.Ghosts M) (old mid new : View S R) (before after : M)
    (given : Option (List ℕ)) (extend : Extend) (bytes : List ℕ) (outcome : Outcome (List ℕ)) (answer : Result (List ℕ) SignFault)
    → g.stopped mid.store ≡ false → Ends g old mid (after_extend old.records extend bytes) (Ok [])
    → Provides (r.upcoming old.random) (bytes ++ []) (r.upcoming mid.random)
    → r.failures mid.random ≡ r.failures old.random → g.refusals mid.store ≡ g.refusals old.store → UsesMemory old mid
    → Does g r m mid new before after given outcome answer → Does g r m old new before after given (drawing bytes outcome) answer
does_after g r m old mid new before after given extend bytes outcome answer running first gave failures refusals memory second =
    let drawn : Provides (r.upcoming old.random) bytes (r.upcoming mid.random) =
    subst (λ (b : List ℕ). Provides (r.upcoming old.random) b (r.upcoming mid.random)) (append-nil bytes) gave in record {
      ends = record {
        answer_is = second.ends.answer_is;
        records = second.ends.records;
        is_open = second.ends.is_open;
        store = keeps_after g old.store mid.store new.store old.records mid.records second.more extend bytes outcome running first.records second.grown
            first.store second.ends.store;
        unreadable = second.ends.unreadable ∙ first.unreadable;
        asked = second.ends.asked ∙ first.asked;
      };
      more = ExtendRecord extend ∷ second.more;
      grown = second.grown ∙ ap (λ l. l ++ second.more) first.records ∙ append_assoc old.records (ExtendRecord extend ∷ []) second.more;
      source = gives_both (r.upcoming old.random) bytes (r.upcoming mid.random) outcome.drawn (r.upcoming new.random) drawn second.source;
      failures = counts_on is_random_failed (r.failures old.random) (r.failures mid.random) (r.failures new.random) answer failures second.failures;
      message = second.message;
      refusals = elim second.refusals [
        | inl counts ↦ inl (counts_on is_out_of_memory (g.refusals old.store) (g.refusals mid.store) (g.refusals new.store) answer refusals counts)
        | inr (is, same) ↦ inr (is, same ∙ refusals)
      ];
      memory = omega (arith, memory, second.memory);
      stays = λ same none. absurd (omega (
        arith,
        ap length same,
        ap length (second.ends.records ∙ second.grown),
        ap length first.records,
        length_push old.records (ExtendRecord extend),
        length_front mid.records second.more,
      ));
    }

-- an answer is Ok only where the store was refused no memory
once : {S R : Type 0} (g : store.Ghosts S) (old mid : View S R) → RefusesAfterDraws {A = List ℕ} (Ok []) (g.refusals old.store) (g.refusals mid.store)
    → g.refusals mid.store ≡ g.refusals old.store
once g old mid (inl counts) = counts
once g old mid (inr (is, same)) = same

-- ---- one level more

ok≢err : {A : Type 0} (a : A) (fault : SignFault) → Ok a ≡ Err fault → ⊥
ok≢err a fault same = cc

message_kept : {M : Type 0} (m : message.Ghosts M) (is_read : Bool) (given : Option (List ℕ)) (old : M) → is_read ≡ false → IsRead m is_read given old old
message_kept m true given old unread = absurd (cc)
message_kept m false (Some text) old unread = refl
message_kept m false None old unread = refl

-- the step of the world, where an Extend is recorded and the others come after it
step_after : (key : Key) (name : List ℕ) (chance : Chance) (below level : ℕ) (draw : Draw) (draws : List Draw) (records mid_records : List Record)
    (extend : Extend) (bytes : List ℕ) (outcome : Outcome (List ℕ)) → level ≡ bottom_of key.secret - below
    → mid_records ≡ records ++ ExtendRecord extend ∷ []
    → ((next : List Record → Outcome (List ℕ)) → extended (open_state records) key level (trees_of key.secret) draw next
    ≡ drawing bytes (next (records ++ ExtendRecord extend ∷ [])))
    → bound_trees key name chance below draws mid_records ≡ outcome
    → bound_trees key name chance (suc below) (draw ∷ draws) records ≡ drawing bytes outcome
step_after key name chance below level draw draws records mid_records extend bytes outcome at is comes step =
    ap (λ l. extended (open_state records) key l (trees_of key.secret) draw (bound_trees key name chance below draws)) (sym at)
    ∙ comes (bound_trees key name chance below draws)
    ∙ ap (λ l. drawing bytes (bound_trees key name chance below draws l)) (sym is)
    ∙ ap (drawing bytes) step

pub binds_below_after : {S R M : Type 0} (g : store.Ghosts S) (r : source.Ghosts R) (m : message.Ghosts M) (name : List ℕ) (key : Key) (below level : ℕ)
    (old mid new : View S R) (before after : M) (answer : Result (List ℕ) SignFault) → level ≡ bottom_of key.secret - below
    → g.stopped mid.store ≡ false → Extends g r level old mid (Ok []) key → BindsBelow g r m name below mid new before after answer key
    → BindsBelow g r m name (suc below) old new before after answer key
binds_below_after {S = S} {R = R} {M = M} g r m name key below level old mid new before after answer at running first second =
    by_draw (by_trees old.records key level (trees_of key.secret) first.draw)
  where
    by_draw : ComesOfDraw old.records (extended (open_state old.records) key level (trees_of key.secret) first.draw)
        → BindsBelow g r m name (suc below) old new before after answer key
    by_draw (ended fault outcome fails kept unread same) =
        absurd (ok≢err [] fault (sym first.ends.answer_is ∙ ap (λ o. o.answer) (sym first.step ∙ same _) ∙ fails))
    by_draw (recorded extend bytes comes) =
        let is : first.outcome ≡ after_extend old.records extend bytes = sym first.step ∙ comes _ in
        let ends : Ends g old mid (after_extend old.records extend bytes) (Ok []) = subst (λ (o : Outcome (List ℕ)). Ends g old mid o (Ok [])) is first.ends in
        let gave : Provides (r.upcoming old.random) (bytes ++ []) (r.upcoming mid.random) =
        subst (λ (o : Outcome (List ℕ)). Provides (r.upcoming old.random) o.drawn (r.upcoming mid.random)) is first.source in record {
          trees = first.draw ∷ second.trees;
          bound = second.bound;
          given = second.given;
          outcome = drawing bytes second.outcome;
          step = λ all. step_after key name (record { has_room = true; trees = all; bound = second.bound; given = second.given }) below level first.draw
              second.trees old.records mid.records extend bytes second.outcome at ends.records comes (second.step all);
          trees_possible = (first.possible, second.trees_possible);
          bound_possible = second.bound_possible;
          does = does_after g r m old mid new before after second.given extend bytes second.outcome answer running ends gave first.failures (once g old mid first.refusals)
              first.memory second.does;
          not_before_draws = second.not_before_draws;
          lacks_tree = λ is same.
              let within_limit = second.lacks_tree is (same ∙ sym (once g old mid first.refusals)) in
              omega (arith, within_limit, ap length ends.records, length_push old.records (ExtendRecord extend));
        }

-- What a recorded Extend leaves: an open signer with one more record, over the same store.
pub record Recorded {S R : Type 0} (g : store.Ghosts S) (old mid : View S R) : Type 0 where
  pub extend : Extend
  pub records : mid.records ≡ old.records ++ ExtendRecord extend ∷ []
  pub is_open : mid.is_open ≡ true
  pub most : g.most mid.store ≡ g.most old.store
  pub spare : old.spare ≤ mid.spare + 1

pub is_recorded : {S R : Type 0} (g : store.Ghosts S) (r : source.Ghosts R) (level : ℕ) (old mid : View S R) (key : Key)
    → Extends g r level old mid (Ok []) key → Recorded g old mid
is_recorded {S = S} {R = R} g r level old mid key first = by_draw (by_trees old.records key level (trees_of key.secret) first.draw)
  where
    by_draw : ComesOfDraw old.records (extended (open_state old.records) key level (trees_of key.secret) first.draw) → Recorded g old mid
    by_draw (ended fault outcome fails kept unread same) =
        absurd (ok≢err [] fault (sym first.ends.answer_is ∙ ap (λ o. o.answer) (sym first.step ∙ same _) ∙ fails))
    by_draw (recorded extend bytes comes) =
        let is : first.outcome ≡ after_extend old.records extend bytes = sym first.step ∙ comes _ in record {
          extend = extend;
          records = first.ends.records ∙ ap (λ o. o.acknowledged) is;
          is_open = first.ends.is_open ∙ ap (λ o. o.state.is_open) is;
          most = first.ends.store.most;
          spare = omega (arith, first.memory, ap length (first.ends.records ∙ ap (λ o. o.acknowledged) is), length_push old.records (ExtendRecord extend));
        }

-- So it is ready for one record less, and has the same key and bindings.
pub ready_after : {S R : Type 0} (g : store.Ghosts S) (old mid : View S R) (wanted : ℕ) → Recorded g old mid → IsReady (g.most old.store) (suc wanted) old
    → IsReady (g.most mid.store) wanted mid
ready_after g old mid wanted after ready =
    let more : length mid.records ≡ length old.records + 1 = ap length after.records ∙ length_push old.records (ExtendRecord after.extend) in record {
      is_open = after.is_open;
      stays = ap has_moved after.records ∙ last_is old.records (ExtendRecord after.extend);
      within_limit = omega (arith, more, ready.within_limit, after.most);
      counted = omega (arith, more, ready.counted);
      room = omega (arith, ready.room, after.spare);
    }

pub key_after : {S R : Type 0} (g : store.Ghosts S) (old mid : View S R) (key : Key) → Recorded g old mid → the_key old.records ≡ Some key
    → the_key mid.records ≡ Some key
key_after g old mid key after keyed = ap the_key after.records ∙ key_stays old.records (ExtendRecord after.extend ∷ []) key keyed

pub unbound_after : {S R : Type 0} (g : store.Ghosts S) (old mid : View S R) (name : List ℕ) → Recorded g old mid → binding_at old.records name ≡ None
    → binding_at mid.records name ≡ None
unbound_after g old mid name after free =
    ap (λ l. binding_at l name) after.records ∙ binding_other old.records (ExtendRecord after.extend) name refl ∙ free

pub binds_below_refused : {S R M : Type 0} (g : store.Ghosts S) (r : source.Ghosts R) (m : message.Ghosts M) (name : List ℕ) (key : Key) (below level : ℕ)
    (old new : View S R) (unread : M) (fault : SignFault) → level ≡ bottom_of key.secret - below
    → Extends g r level old new (Err fault) key → BindsBelow g r m name (suc below) old new unread unread (Err fault) key
binds_below_refused {S = S} {R = R} {M = M} g r m name key below level old new unread fault at first =
    by_draw (by_trees old.records key level (trees_of key.secret) first.draw)
  where
    by_draw : ComesOfDraw old.records (extended (open_state old.records) key level (trees_of key.secret) first.draw)
        → BindsBelow g r m name (suc below) old new unread unread (Err fault) key
    by_draw (recorded extend bytes comes) =
        absurd (ok≢err [] fault (ap (λ o. o.answer) (sym (comes _) ∙ first.step) ∙ first.ends.answer_is))
    by_draw (ended cause outcome fails kept is_unread same) =
        let is : outcome ≡ first.outcome = sym (same _) ∙ first.step in record {
          trees = first.draw ∷ [];
          bound = record { fields = []; fate = acked };
          given = None;
          outcome = first.outcome;
          step = λ all. ap (λ l. extended (open_state old.records) key l (trees_of key.secret) first.draw
              (bound_trees key name (record { has_room = true; trees = all; bound = record { fields = []; fate = acked }; given = None }) below []))
              (sym at) ∙ same _ ∙ is;
          trees_possible = (first.possible, tt);
          bound_possible = tt;
          does = record {
            ends = first.ends;
            more = [];
            grown = ap (λ o. o.acknowledged) (sym is) ∙ kept ∙ sym (append-nil old.records);
            source = first.source;
            failures = first.failures;
            message = message_kept m first.outcome.is_read None unread (ap (λ o. o.is_read) (sym is) ∙ is_unread);
            refusals = first.refusals;
            memory = first.memory;
            stays = first.stays;
          };
          not_before_draws = first.not_before_draws;
          lacks_tree = λ _ _. omega (arith, ap length (first.ends.records ∙ ap (λ o. o.acknowledged) (sym is) ∙ kept));
        }

-- ---- the bottom level

-- at the bottom level no tree is needed
pub at_end : {S R M : Type 0} (g : store.Ghosts S) (r : source.Ghosts R) (m : message.Ghosts M) (name : List ℕ) (old new : View S R) (before after : M)
    (answer : Result (List ℕ) SignFault) (key : Key) (n k : ℕ) → n ≡ k → BindsBelow g r m name 0 old new before after answer key
    → BindsBelow g r m name (k - n) old new before after answer key
at_end g r m name old new before after answer key n k same binds_below =
    let none : 0 ≡ k - n = omega (arith, same) in
    subst (λ (b : ℕ). BindsBelow g r m name b old new before after answer key) none binds_below
