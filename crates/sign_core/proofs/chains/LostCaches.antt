-- Which caches are there where memory is refused.
use Rattle.std.proofs.Common.{◌≡◌, ◌∙◌, ◌≢◌, ◌⊎◌, ℕ, ◌-◌, ◌≤◌, false, List, length, Option, None, Some, Result, inl, inr, sym, ap, subst, arith, true≢false}
use Rattle.state_file.specs.Laws.{bottom_of}
use Rattle.state_file.specs.declared.record.Bound.{Bound}
use Rattle.state_file.specs.declared.record.Key.{Key}
use Rattle.state_file.specs.declared.record.Record.{Record}
use Rattle.sign_core.specs.Caches.{Cached, HasCaches, KeepsOrRenews, LacksOwn, LosesCache, cache_at}
use Rattle.sign_core.specs.Records.{binding_at, deepest}
use Rattle.sign_core.specs.Signer.{is_fault, is_out_of_memory}
use Rattle.sign_core.specs.Signing.{LeavesCaches}
use Rattle.sign_core.specs.Textbook.{Trees, trees_of}
use Rattle.sign_core.specs.declared.fault.SignFault.{SignFault}
use Rattle.sign_core.specs.declared.ledger.Binding.{Binding}
use Rattle.sign_core.proofs.chains.KeptCaches.{stays_has}
use Rattle.sign_core.proofs.calls.RepeatEnds.{IsFound}

-- ---- level by level

pub loses_level : (key : Key) (trees : Trees) (records : List Record) (level before : ℕ) (old mid new : Cached) → trees_of key.secret ≡ Some trees
    → (1 ≤ level → HasCaches key records (Some (level - 1)) before mid) → ((k : ℕ) → level ≤ k → cache_at mid.levels k ≡ cache_at old.levels k)
    → mid.xmss ≡ old.xmss → LacksOwn trees records level before mid → cache_at new.levels level ≡ None
    → ((k : ℕ) → k ≢ level → cache_at new.levels k ≡ cache_at mid.levels k) → new.xmss ≡ mid.xmss → LosesCache key records level before old new
loses_level key trees records level before old mid new these above still stays lacks none others xmss = inl (record {
  trees = trees;
  of_key = these;
  level = level;
  down_to = omega arith;
  lacked = record {
    tree = lacks.tree;
    is_current = lacks.is_current;
    earlier = lacks.earlier;
    lacks = λ has. lacks.lacks (still level (omega arith) ∙ has);
  };
  above = λ some. stays_has key records (level - 1) before mid new (record {
    levels = λ k down. others k (λ same. absurd (omega (arith, some, down, same)));
    xmss = xmss;
  }) (above some);
  here = none;
  below = λ k low. others k (λ same. absurd (omega (arith, low, same))) ∙ still k (omega (arith, low));
  xmss = xmss ∙ stays;
})

-- ---- what a request leaves, by its answer

pub leaves_as_they_were : {A : Type 0} (key : Key) (before after : List Record) (found : Option (ℕ × Bound)) (old new : Cached) (answer : Result A SignFault)
    → new ≡ old → LeavesCaches key before after found old new answer
leaves_as_they_were key before after None old new answer same = λ comes. inl same
leaves_as_they_were key before after (Some (k, bound)) old new answer same = λ comes. inl same

-- a new name's needs weren't met
pub loses_new : {A : Type 0} (key : Key) (before after : List Record) (found : Option (ℕ × Bound)) (level : ℕ) (old new : Cached)
    (answer : Result A SignFault) → found ≡ None → deepest key.secret before ≡ Some level
    → (new ≡ old) ⊎ LosesCache key before level (length before) old new → LeavesCaches key before after found old new answer
loses_new key before after found level old new answer none at how =
    subst (λ f. LeavesCaches key before after f old new answer) (sym none)
    (λ comes. elim how [ inl same ↦ inl same | inr loses ↦ inr (level, at, inl loses) ])

-- they were
pub leaves_new : {A : Type 0} (key : Key) (before after : List Record) (found : Option (ℕ × Bound)) (level : ℕ) (old new : Cached)
    (answer : Result A SignFault) → found ≡ None → deepest key.secret before ≡ Some level
    → HasCaches key before (Some level) (length before) new → KeepsOrRenews key after old new → LeavesCaches key before after found old new answer
leaves_new key before after found level old new answer none at has keeps =
    subst (λ f. LeavesCaches key before after f old new answer) (sym none) (λ comes. inr (level, at, inr (has, keeps)))

pub leaves_bound : {A : Type 0} (key : Key) (before after : List Record) (name : List ℕ) (binding : Binding) (old new : Cached)
    (answer : Result A SignFault) → IsFound key before name binding → LosesCache key before (bottom_of key.secret) binding.place old new
    → LeavesCaches key before after (binding_at before name) old new answer
leaves_bound key before after name binding old new answer found loses =
    subst (λ f. LeavesCaches key before after f old new answer) (sym found.found)
    (λ comes. inr (subst (λ n. LosesCache key before (bottom_of key.secret) n old new) (sym (ap (λ (kept : Binding). kept.place) found.is)) loses))

-- another answer than 29
pub leaves_other : {A : Type 0} (key : Key) (before after : List Record) (found : Option (ℕ × Bound)) (old new : Cached) (answer : Result A SignFault)
    → is_fault is_out_of_memory answer ≡ false → LeavesCaches key before after found old new answer
leaves_other key before after None old new answer other = λ comes. absurd (true≢false (sym comes ∙ other))
leaves_other key before after (Some (k, bound)) old new answer other = λ comes. absurd (true≢false (sym comes ∙ other))
