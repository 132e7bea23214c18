-- What a signer's append adds, and how it can be refused.
use Rattle.std.proofs.Common.{◌≡◌, ◌∙◌, ℕ, Bool, false, ◌∷◌, [], ◌++◌, length, Result, Ok, Err, refl, sym, ap, subst, arith, true≢false}
use Rattle.std.specs.Option.{option_to_list}
use Rattle.state_file.specs.declared.record.Record.{Record}
use Rattle.state_file.specs.declared.store.Store as store
use Rattle.state_file.specs.Disk.{Counts, LeavesOnly}
use Rattle.sign_core.specs.declared.fault.SignFault.{SignFault}
use Rattle.sign_core.specs.Caches.{Cached}
use Rattle.sign_core.specs.Cuts.{IsBeginning}
use Rattle.sign_core.specs.inner.Signer.{Adds, added}
use Rattle.sign_core.specs.Signer.{Ends, GrowsAlike, UnlessAppended, View, is_before_draws, is_fault, is_of_append, is_random_failed}
use Rattle.sign_core.specs.Signer.{is_store_failed, state_of}
use Rattle.sign_core.specs.Signing.{answered_value}
use Rattle.sign_core.specs.World.{Fate, Outcome, State, acked, cut_new, cut_old, no_memory}
use Rattle.sign_core.proofs.calls.AppendMoments.{length_one_more}

-- the signer after a draw: only its source has changed
abbrev pub after_draw : {S R : Type 0} → View S R → R → View S R
after_draw view random = record view { random = random }

-- An acknowledged append adds its record; any other fails.
pub is_tried : {S R : Type 0} (g : store.Ghosts S) (old new : View S R) (entry : Record) (answer : Result (Unit {0}) SignFault) → Adds g old new entry answer
    → (Kept : Type 0) → UnlessAppended old new answer Kept
is_tried {S = S} {R = R} g old new entry answer adds Kept = by_fate adds.fate adds.ends
  where
    by_fate : (fate : Fate) → Ends g old new (added (state_of old) entry fate) answer → UnlessAppended old new answer Kept
    by_fate acked ends = λ same none. absurd (omega (arith, ap length same, ap length ends.records, length_one_more old.records entry))
    by_fate cut_old ends = λ same none. absurd (true≢false (ap (is_fault is_of_append) ends.answer_is ∙ none))
    by_fate cut_new ends = λ same none. absurd (true≢false (ap (is_fault is_of_append) ends.answer_is ∙ none))
    by_fate no_memory ends = λ same none. absurd (true≢false (ap (is_fault is_of_append) ends.answer_is ∙ none))

pub comes_after_draws : {S R : Type 0} (g : store.Ghosts S) (old new : View S R) (entry : Record) (answer : Result (Unit {0}) SignFault) → Adds g old new entry answer
    → is_fault is_before_draws answer ≡ false
comes_after_draws {S = S} {R = R} g old new entry answer adds = by_fate adds.fate adds.ends
  where
    by_fate : (fate : Fate) → Ends g old new (added (state_of old) entry fate) answer → is_fault is_before_draws answer ≡ false
    by_fate acked ends = ap (is_fault is_before_draws) (sym ends.answer_is)
    by_fate cut_old ends = ap (is_fault is_before_draws) (sym ends.answer_is)
    by_fate cut_new ends = ap (is_fault is_before_draws) (sym ends.answer_is)
    by_fate no_memory ends = ap (is_fault is_before_draws) (sym ends.answer_is)

-- `answered_value` keeps the kind of a fault.
pub same_fault : {B : Type 0} (is_kind : SignFault → Bool) (answer : Result (Unit {0}) SignFault) (value : B)
    → is_fault is_kind (answered_value answer value) ≡ is_fault is_kind answer
same_fault is_kind (Ok done) value = refl
same_fault is_kind (Err fault) value = refl

pub added_records : {S R : Type 0} (g : store.Ghosts S) (old new : View S R) (entry : Record) (answer : Result (Unit {0}) SignFault) (done : Unit {0})
    → Adds g old new entry answer → answer ≡ Ok done → new.records ≡ old.records ++ entry ∷ []
added_records {S = S} {R = R} g old new entry answer done adds is = by_fate adds.fate adds.ends
  where
    by_fate : (fate : Fate) → Ends g old new (added (state_of old) entry fate) answer → new.records ≡ old.records ++ entry ∷ []
    by_fate acked ends = ends.records
    by_fate cut_old ends = absurd (let same = ends.answer_is ∙ is in cc)
    by_fate cut_new ends = absurd (let same = ends.answer_is ∙ is in cc)
    by_fate no_memory ends = absurd (let same = ends.answer_is ∙ is in cc)

-- An append is never refused for a failed source.
pub no_draw_fails : {S R : Type 0} (g : store.Ghosts S) (old new : View S R) (entry : Record) (answer : Result (Unit {0}) SignFault) → Adds g old new entry answer
    → (before after : ℕ) → after ≡ before → Counts is_random_failed before after answer
no_draw_fails {S = S} {R = R} g old new entry answer adds before after same = by_fate adds.fate adds.ends
  where
    by_fate : (fate : Fate) → Ends g old new (added (state_of old) entry fate) answer → Counts is_random_failed before after answer
    by_fate acked ends = subst (Counts is_random_failed before after) ends.answer_is same
    by_fate cut_old ends = subst (Counts is_random_failed before after) ends.answer_is same
    by_fate cut_new ends = subst (Counts is_random_failed before after) ends.answer_is same
    by_fate no_memory ends = subst (Counts is_random_failed before after) ends.answer_is same

-- `answered_value` keeps counts.
pub counts_answered : {B : Type 0} (is_counted : SignFault → Bool) (before after : ℕ) (answer : Result (Unit {0}) SignFault) (value : B)
    → Counts is_counted before after answer → Counts is_counted before after (answered_value answer value)
counts_answered is_counted before after (Ok done) value counts = counts
counts_answered is_counted before after (Err fault) value counts = counts

-- A call that draws and appends ends as the append does, with another answer and the same records.
pub ends_alike : {S R A B : Type 0} (g : store.Ghosts S) (view new : View S R) (random : R) (one : Outcome A) (other : Outcome B) (answer : Result A SignFault)
    (last : Result B SignFault) → other.state ≡ one.state → other.acknowledged ≡ one.acknowledged → other.failed ≡ one.failed → other.answer ≡ last
    → ((before after : ℕ) → Counts is_store_failed before after one.answer → Counts is_store_failed before after other.answer)
    → Ends g (after_draw view random) new one answer → Ends g view new other last
ends_alike g view new random one other answer last state acknowledged failed answer_is counts ends = record {
  answer_is = answer_is;
  records = ends.records ∙ sym acknowledged;
  is_open = ends.is_open ∙ ap (λ s. s.is_open) (sym state);
  store = record {
    list = subst (λ (s : State). GrowsAlike (g.list view.store) (g.list new.store) view.records s.records) (sym state) ends.store.list;
    moments = λ honest running. subst (λ all. LeavesOnly g.moment g.left_since view.store new.store (IsBeginning (length view.records) all))
        (λ i. sym acknowledged i ++ option_to_list (sym failed i)) (ends.store.moments honest running);
    failures = counts _ _ ends.store.failures;
    honest = ends.store.honest;
    most = ends.store.most;
  };
  unreadable = ends.unreadable;
  asked = ends.asked;
}

-- Caches don't matter to an append.
pub adds_caching : {S R : Type 0} (g : store.Ghosts S) (old new : View S R) (cached : Cached) (entry : Record) (answer : Result (Unit {0}) SignFault)
    → Adds g old new entry answer → Adds g old (record new { cached = cached }) entry answer
adds_caching g old new cached entry answer adds = record {
  fate = adds.fate;
  ends = record {
    answer_is = adds.ends.answer_is;
    records = adds.ends.records;
    is_open = adds.ends.is_open;
    store = adds.ends.store;
    unreadable = adds.ends.unreadable;
    asked = adds.ends.asked;
  };
  random = adds.random;
  refusals = adds.refusals;
  memory = adds.memory;
  untaken = adds.untaken;
}
