-- Which record a request names as damaged: the first of its chain of trees, from the top down.
use Rattle.std.proofs.Common.{◌≡◌, ◌≢◌, ◌∙◌, refl, sym, ap, subst, ℕ, zero, suc, ◌+◌, ◌-◌, ◌<◌, Bool, true, false, List, [], ◌∷◌}
use Rattle.std.proofs.Common.{length, find, cond, Option, Some, None, Err, arith}
use Rattle.std.specs.Prelude.{nat_lt, not, slice_get}
use Rattle.std.proofs.lemmas.Option.{same_Some}
use Rattle.state_file.specs.Laws.{bottom_of}
use Rattle.state_file.specs.declared.record.Bound.{Bound}
use Rattle.state_file.specs.declared.record.Key.{Key}
use Rattle.state_file.specs.declared.record.Record.{Record}
use Rattle.sign_core.specs.declared.fault.SignFault.TheVariants.{Damaged}
use Rattle.sign_core.specs.Opened.{IsDamagedFor, IsFirstDamaged}
use Rattle.sign_core.specs.Records.{are_same, binding_at, deepest, has_moved, the_key, wanted_count, is_long}
use Rattle.sign_core.specs.Textbook.{tree_chain, damaged_at, digest_at, is_sound_at, current_at}
use Rattle.sign_core.specs.Steps.{◌>>◌}
use Rattle.sign_core.specs.World.{Chance, Outcome, State, begin_trees, bind, open_state, requested}
use Rattle.sign_core.proofs.steps.Settled.{settled}
use Rattle.sign_core.specs.inner.Cases.{requested_binding}
use Rattle.sign_core.proofs.steps.Cases.{bound_level, bound_sound, repeated, repeated_sound, requested_key}
use Rattle.sign_core.proofs.steps.NamedRefusals.{never_settled, not_damaged, trees_refuse}
use Rattle.sign_core.proofs.law.KeptByEvents.{kept_choice}

-- ---- the first of a list that passes a test

-- It stands at a place, and those before it don't pass.
record IsFirst {A : Type 0} (test : A → Bool) (xs : List A) (x : A) : Type 0 where
  place : ℕ
  is : slice_get xs place ≡ Some x
  passes : test x ≡ true
  before : (i : ℕ) (y : A) → i < place → slice_get xs i ≡ Some y → test y ≡ false

first_later : {A : Type 0} (test : A → Bool) (y : A) (ys : List A) (x : A) → test y ≡ false → IsFirst test ys x → IsFirst test (y ∷ ys) x
first_later test y ys x fails later = record {
  place = suc later.place;
  is = later.is;
  passes = later.passes;
  before = before_it;
}
  where
    before_it : (i : ℕ) (z : _) → i < suc later.place → slice_get (y ∷ ys) i ≡ Some z → test z ≡ false
    before_it zero z low at = ap test (sym (same_Some y z at)) ∙ fails
    before_it (suc i) z low at = later.before i z (omega (arith, low)) at

find_by : {A : Type 0} (test : A → Bool) (y : A) (ys : List A) (x : A) (b : Bool) → test y ≡ b → cond b (Some y) (find test ys) ≡ Some x
    → (find test ys ≡ Some x → IsFirst test ys x) → IsFirst test (y ∷ ys) x
find_by test y ys x true passes is later = record {
  place = 0;
  is = is;
  passes = ap test (sym (same_Some y x is)) ∙ passes;
  before = λ i z low at. absurd (omega (arith, low));
}
find_by test y ys x false fails is later = first_later test y ys x fails (later is)

find_first : {A : Type 0} (test : A → Bool) (xs : List A) (x : A) → find test xs ≡ Some x → IsFirst test xs x
find_first test [] x is = absurd (cc)
find_first test (y ∷ ys) x is = find_by test y ys x (test y) refl is (find_first test ys x)

-- ---- a chain of trees

not_true : (b : Bool) → not b ≡ true → b ≡ false
not_true true is = absurd (cc)
not_true false is = refl

not_false : (b : Bool) → not b ≡ false → b ≡ true
not_false true is = refl
not_false false is = absurd (cc)

first_damaged : (key : Key) (records : List Record) (level tree slot : ℕ) → damaged_at key level records tree ≡ Some slot
    → IsFirstDamaged key records level tree slot
first_damaged key records level tree slot is =
    let first = find_first (λ k. not (is_sound_at key records k)) (tree_chain level records tree) slot is in
    record {
      place = first.place;
      is = first.is;
      damaged = not_true (is_sound_at key records slot) first.passes;
      above = λ i k low at. not_false (is_sound_at key records k) (first.before i k low at);
    }

-- ---- requests

module _ (limit : ℕ) (state : State) (key : Key) (name : List ℕ) (chance : Chance) where
  -- where it answers 28, it names the first damaged record, and the state is as it was
  abbrev Names : Option (ℕ × Bound) → Outcome (List ℕ) → Type 0
  Names found outcome = (slot : ℕ) → outcome.answer ≡ Err (Damaged slot)
      → IsDamagedFor key state.records found slot × (outcome.state ≡ state)

  names_repeated_sound : (k : ℕ) (bound : Bound) (damaged : Option ℕ)
      → damaged_at key (bottom_of key.secret) state.records (current_at (bottom_of key.secret) state.records k) ≡ damaged
      → Names (Some (k, bound)) (repeated_sound state key k bound damaged)
  names_repeated_sound k bound (Some slot) is other answer =
      let same : slot ≡ other = cc (answer) in
      (first_damaged key state.records (bottom_of key.secret) _ other (is ∙ ap Some same), refl)
  names_repeated_sound k bound None is other answer = absurd (cc (answer))

  names_repeated : (k : ℕ) (bound : Bound) (given : Option (List ℕ)) → Names (Some (k, bound)) (repeated state key k bound chance given)
  names_repeated k bound None = λ slot answer. absurd (cc (answer))
  names_repeated k bound (Some message) =
      let bottom = bottom_of key.secret in
      kept_choice (Names (Some (k, bound))) (not (are_same (digest_at key state.records k bound.leaf bound.randomizer message) bound.digest)) _ _
      (λ other slot answer. absurd (cc (answer)))
      (λ same. kept_choice (Names (Some (k, bound))) (not chance.has_room) _ _ (λ none slot answer. absurd (cc (answer)))
      (λ room. names_repeated_sound k bound (damaged_at key bottom state.records (current_at bottom state.records k)) refl))

  names_sound : (level : ℕ) (damaged : Option ℕ) → deepest key.secret state.records ≡ Some level
      → damaged_at key level state.records (current_at level state.records (length state.records)) ≡ damaged
      → Names None (bound_sound state key name chance level damaged)
  names_sound level (Some slot) free is other answer =
      let same : slot ≡ other = cc (answer) in
      ((level, free, first_damaged key state.records level _ other (is ∙ ap Some same)), refl)
  names_sound level None free is other answer =
      let below = bottom_of key.secret - level in
      absurd (settled _ _ (never_settled (Damaged other) (λ failed. cc))
      (begin_trees key below chance.trees >> bind key name chance) (open_state state.records)
      (trees_refuse (λ fault. fault ≢ Damaged other) (not_damaged other) key name chance below chance.trees _) answer)

  names_anew : (level : Option ℕ) → deepest key.secret state.records ≡ level → Names None (bound_level limit state key name chance level)
  names_anew None free = λ slot answer. absurd (cc (answer))
  names_anew (Some level) free =
      kept_choice (Names None) (nat_lt limit (length state.records + wanted_count key.secret level)) _ _ (λ full slot answer. absurd (cc (answer)))
      (λ fits. kept_choice (Names None) (not chance.has_room) _ _ (λ none slot answer. absurd (cc (answer)))
      (λ room. names_sound level (damaged_at key level state.records (current_at level state.records (length state.records))) free refl))

  names_of : (found : Option (ℕ × Bound)) → Names found (requested_binding limit state key name chance found)
  names_of (Some (k, bound)) = names_repeated k bound chance.given
  names_of None =
      kept_choice (Names None) (is_long key name) _ _ (λ long slot answer. absurd (cc (answer)))
      (λ short. names_anew (deepest key.secret state.records) refl)

  names_request : the_key state.records ≡ Some key → Names (binding_at state.records name) (requested limit state name chance)
  names_request keyed =
      let names = Names (binding_at state.records name) in
      subst (λ found. names (requested_key limit state name chance found)) (sym keyed)
      (kept_choice names (not state.is_open) _ _ (λ closed slot answer. absurd (cc (answer)))
      (λ open_now. kept_choice names (has_moved state.records) _ _ (λ moved slot answer. absurd (cc (answer)))
      (λ stays. names_of (binding_at state.records name))))

pub names_damaged : (limit : ℕ) (state : State) (name : List ℕ) (chance : Chance) (key : Key) (slot : ℕ) → the_key state.records ≡ Some key
    → (requested limit state name chance).answer ≡ Err (Damaged slot)
    → IsDamagedFor key state.records (binding_at state.records name) slot × ((requested limit state name chance).state ≡ state)
names_damaged limit state name chance key slot keyed answer = names_request limit state key name chance keyed slot answer
