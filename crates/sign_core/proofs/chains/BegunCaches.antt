-- Which caches of new trees are there, whatever a request answers.
use Rattle.std.proofs.Common.{◌≡◌, ◌∙◌, ◌⊎◌, ℕ, ◌<◌, ◌≤◌, List, [], ◌∷◌, ◌++◌, length, suc, None, Some, Result, Ok, Err, inl, inr, sym, ap, subst, arith}
use Rattle.std.proofs.lemmas.Option.{same_Some}
use Rattle.std.proofs.lemmas.Bool.{cases_lt}
use Rattle.std.specs.Prelude.{OnErr}
use Rattle.state_file.specs.declared.record.Bound.{Bound}
use Rattle.state_file.specs.declared.record.Extend.{Extend}
use Rattle.state_file.specs.declared.record.Key.{Key}
use Rattle.state_file.specs.declared.record.Record.{Record}
use Rattle.state_file.specs.declared.record.Record.TheVariants.{Bound as BoundRecord, Extend as ExtendRecord}
use Rattle.state_file.specs.declared.store.Store as store
use Rattle.sign_core.specs.Caches.{Cached, HasBegun, HasLevel}
use Rattle.sign_core.specs.Records.{current, the_key}
use Rattle.sign_core.specs.Signer.{Ends, View, state_of}
use Rattle.sign_core.specs.Textbook.{Trees, secret_at, trees_of}
use Rattle.sign_core.specs.World.{Fate, acked, cut_new, cut_old, no_memory}
use Rattle.sign_core.specs.declared.fault.SignFault.{SignFault}
use Rattle.sign_core.specs.inner.Caches.{HasBegunTo, KeepsDownTo}
use Rattle.sign_core.specs.inner.Signer.{Adds, added}
use Rattle.sign_core.proofs.records.OneMore.{current_above, current_cut, current_new}
use Rattle.sign_core.proofs.chains.KeptCaches.{is_level, stands_low}
use Rattle.sign_core.proofs.records.NextLeaves.{current_bound}
use Rattle.sign_core.proofs.records.Unchanged.{secret_stays}

-- no record was added: no tree is new
pub none_begun_to : (key : Key) (records : List Record) (level : ℕ) (cached : Cached) → the_key records ≡ Some key
    → HasBegunTo key records level (length records) cached
none_begun_to key records level cached keyed trees lower tree these is from =
    absurd (omega (arith, stands_low records key lower tree keyed is, from))

pub none_begun : (key : Key) (old new : List Record) (cached : Cached) → the_key old ≡ Some key → new ≡ old
    → HasBegun key new (length old) cached
none_begun key old new cached keyed same = subst (λ (l : List Record). HasBegun key l (length old) cached) (sym same)
    (λ trees level tree these is from. absurd (omega (arith, stands_low old key level tree keyed is, from)))

pub begun_stays : (key : Key) (records new_records : List Record) (level start : ℕ) (old new : Cached) → new_records ≡ records
    → KeepsDownTo level old new → HasBegunTo key records level start old → HasBegun key new_records start new
begun_stays key records new_records level start old new same keeps begun =
    subst (λ (l : List Record). HasBegun key l start new) (sym same)
    (λ trees lower tree these is from. let has = begun trees lower tree these is from in keeps.levels lower has.0 ∙ has.1)

-- a tree is begun below a current one, and has its cache
by_place : (key : Key) (trees : Trees) (records : List Record) (level above start : ℕ) (extend : Extend) (old new : Cached)
    → the_key records ≡ Some key → extend.level ≡ suc level → current level records ≡ Some above → KeepsDownTo level old new
    → HasLevel new (suc level) (secret_at trees (records ++ ExtendRecord extend ∷ []) (length records))
    → HasBegunTo key records level start old → trees_of key.secret ≡ Some trees
    → (lower tree : ℕ) → current lower (records ++ ExtendRecord extend ∷ []) ≡ Some tree → start ≤ tree
    → (lower ≡ suc level) ⊎ ((lower ≤ level) ⊎ (suc level < lower))
    → (lower ≤ suc level) × HasLevel new lower (secret_at trees (records ++ ExtendRecord extend ∷ []) tree)
by_place key trees records level above start extend old new keyed of_level is keeps there begun these lower tree at from (inl same) =
    let all = records ++ ExtendRecord extend ∷ [] in
    let here : current (suc level) all ≡ Some tree = subst (λ n. current n all ≡ Some tree) same at in
    let place : tree ≡ length records = same_Some _ _ (sym here ∙ current_new level above records extend of_level is) in (
      omega (arith, same),
      subst (λ (x : ℕ × ℕ). HasLevel new x.0 (secret_at trees all x.1)) (λ i. (sym same i, sym place i)) there,
    )
by_place key trees records level above start extend old new keyed of_level is keeps there begun these lower tree at from (inr (inl low)) =
    let before : current lower records ≡ Some tree = sym (current_above level lower records extend of_level low) ∙ at in
    let within = stands_low records key lower tree keyed before in
    let has = begun trees lower tree these before from in (
      omega (arith, low),
      keeps.levels lower low ∙ has.1 ∙ ap Some (sym (secret_stays trees records (ExtendRecord extend ∷ []) tree within)),
    )
by_place key trees records level above start extend old new keyed of_level is keeps there begun these lower tree at from (inr (inr below)) =
    let none : None ≡ Some tree = sym (current_cut level lower records extend of_level below) ∙ at in absurd cc

which_level : (lower level : ℕ) → (lower ≡ suc level) ⊎ ((lower ≤ level) ⊎ (suc level < lower))
which_level lower level = elim (is_level lower (suc level)) [
  | inl same ↦ inl same
  | inr other ↦ elim (cases_lt lower (suc level)) [
    | inl low ↦ inr (inl (omega (arith, low)))
    | inr high ↦ inr (inr (omega (arith, high, other)))
  ]
]

pub begun_tree : (key : Key) (own : Trees) (records : List Record) (level above start : ℕ) (extend : Extend) (old new : Cached)
    → trees_of key.secret ≡ Some own → the_key records ≡ Some key → extend.level ≡ suc level → current level records ≡ Some above
    → KeepsDownTo level old new → HasLevel new (suc level) (secret_at own (records ++ ExtendRecord extend ∷ []) (length records))
    → HasBegunTo key records level start old → HasBegunTo key (records ++ ExtendRecord extend ∷ []) (suc level) start new
begun_tree key own records level above start extend old new of_key keyed of_level is keeps there begun trees lower tree these at from =
    let same : own ≡ trees = same_Some _ _ (sym of_key ∙ these) in
    by_place key trees records level above start extend old new keyed of_level is keeps
    (subst (λ (t : Trees). HasLevel new (suc level) (secret_at t (records ++ ExtendRecord extend ∷ []) (length records))) same there)
    begun these lower tree at from (which_level lower level)

-- a name is bound: no tree is new
pub begun_bound : (key : Key) (records : List Record) (level start : ℕ) (bound : Bound) (cached : Cached) → the_key records ≡ Some key
    → HasBegunTo key records level start cached → HasBegun key (records ++ BoundRecord bound ∷ []) start cached
begun_bound key records level start bound cached keyed begun trees lower tree these at from =
    let before : current lower records ≡ Some tree = sym (current_bound lower records bound) ∙ at in
    let within = stands_low records key lower tree keyed before in
    (begun trees lower tree these before from).1 ∙ ap Some (sym (secret_stays trees records (BoundRecord bound ∷ []) tree within))

-- A signer has no record whose append was refused.
pub added_none : {S R : Type 0} (g : store.Ghosts S) (old new : View S R) (entry : Record) (answer : Result (Unit {0}) SignFault)
    → Adds g old new entry answer → OnErr answer (new.records ≡ old.records)
added_none {S = S} {R = R} g old new entry answer adds = by_fate adds.fate adds.ends
  where
    by_fate : (fate : Fate) → Ends g old new (added (state_of old) entry fate) answer → OnErr answer (new.records ≡ old.records)
    by_fate acked ends = subst (λ a. OnErr a (new.records ≡ old.records)) ends.answer_is tt
    by_fate cut_old ends = subst (λ a. OnErr a (new.records ≡ old.records)) ends.answer_is ends.records
    by_fate cut_new ends = subst (λ a. OnErr a (new.records ≡ old.records)) ends.answer_is ends.records
    by_fate no_memory ends = subst (λ a. OnErr a (new.records ≡ old.records)) ends.answer_is ends.records

pub on_any : {A E : Type 0} {P : Type 0} (answer : Result A E) → P → OnErr answer P
on_any (Ok x) holds = tt
on_any (Err e) holds = holds

pub both_err : {A E : Type 0} {P Q R : Type 0} (answer : Result A E) → (P → Q → R) → OnErr answer P → OnErr answer Q → OnErr answer R
both_err (Ok x) to first second = tt
both_err (Err e) to first second = to first second
