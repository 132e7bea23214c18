-- `current` finds the current tree, and what one more record changes.
use Rattle.std.proofs.Common.{◌≡◌, ◌≢◌, ◌⊎◌, inl, inr, ℕ, zero, suc, ◌+◌, ◌<◌, ◌≤◌, Bool, true, false, cond, List, [], ◌∷◌, ◌++◌}
use Rattle.std.proofs.Common.{length, take, drop, Option, Some, None, refl, sym, ap, subst, ◌∙◌, arith, eqb-true, eq-eqb, true≢false}
use Rattle.std.specs.Prelude.{slice_get}
use Rattle.std.proofs.lemmas.Bool.{cases_order, eqb-false}
use Rattle.std.proofs.lemmas.Option.{none-some, same_Some, cond_some, slice_get_within}
use Rattle.std.proofs.lemmas.List.{take-append-drop, length-take-le}
use Rattle.state_file.specs.declared.record.Extend.{Extend}
use Rattle.state_file.specs.declared.record.Record.{Record}
use Rattle.state_file.specs.declared.record.Record.TheVariants.{Key as KeyRecord, Extend as ExtendRecord, Bound as BoundRecord, Retire, Moved}
use Rattle.state_file.specs.Laws.{IsCurrent, IsLastExtend}
use Rattle.state_file.proofs.Legal.{current-all, current-front}
use Rattle.sign_core.specs.Records.{current, last_extend, makes, same_tree, under}

-- ---- the last Extend of a level

recorded_entry : (level : ℕ) (entry : Record) → makes level entry ≡ true → (extend : Extend) × (entry ≡ ExtendRecord extend) × (extend.level ≡ level)
recorded_entry level (KeyRecord key) is = absurd (true≢false (sym is))
recorded_entry level (ExtendRecord extend) is = (extend, refl, eqb-true extend.level level is)
recorded_entry level (BoundRecord bound) is = absurd (true≢false (sym is))
recorded_entry level (Retire upto) is = absurd (true≢false (sym is))
recorded_entry level Moved is = absurd (true≢false (sym is))

makes_not : (level : ℕ) (entry : Record) (other : Extend) → makes level entry ≡ false → entry ≡ ExtendRecord other → other.level ≢ level
makes_not level entry other none same = eqb-false other.level level (subst (λ e. makes level e ≡ false) same none)

abbrev NoneMakes : ℕ → List Record → Type 0
NoneMakes level entries = (i : ℕ) (other : Extend) → slice_get entries i ≡ Some (ExtendRecord other) → other.level ≢ level

-- in entries from place k on, the last Extend of the level has place j
record LastFrom (level k : ℕ) (entries : List Record) (j : ℕ) : Type 0 where
  at : ℕ
  extend : Extend
  place : k + at ≡ j
  stands : slice_get entries at ≡ Some (ExtendRecord extend)
  of_level : extend.level ≡ level
  last : (i : ℕ) (other : Extend) → at < i → slice_get entries i ≡ Some (ExtendRecord other) → other.level ≢ level

abbrev FoundLast : ℕ → ℕ → Option ℕ → List Record → Type 0
FoundLast level k found entries = ((j : ℕ) × (last_extend level k found entries ≡ Some j) × LastFrom level k entries j)
    ⊎ ((last_extend level k found entries ≡ found) × NoneMakes level entries)

none_later : (level : ℕ) (entry : Record) (rest : List Record) → NoneMakes level rest → (i : ℕ) (other : Extend) → 0 < i
    → slice_get (entry ∷ rest) i ≡ Some (ExtendRecord other) → other.level ≢ level
none_later level entry rest none zero other after is = absurd (omega (arith, after))
none_later level entry rest none (suc i) other after is = none i other is

none_first : (level : ℕ) (entry : Record) (rest : List Record) → makes level entry ≡ false → NoneMakes level rest → NoneMakes level (entry ∷ rest)
none_first level entry rest first none zero other is = makes_not level entry other first (same_Some entry (ExtendRecord other) is)
none_first level entry rest first none (suc i) other is = none i other is

last_later : (level k j : ℕ) (entry : Record) (rest : List Record) → LastFrom level (k + 1) rest j → LastFrom level k (entry ∷ rest) j
last_later level k j entry rest later = record {
  at = suc later.at;
  extend = later.extend;
  place = omega (arith, later.place);
  stands = later.stands;
  of_level = later.of_level;
  last = λ i other after is. after_it i other after is;
}
  where
    after_it : (i : ℕ) (other : Extend) → suc later.at < i → slice_get (entry ∷ rest) i ≡ Some (ExtendRecord other) → other.level ≢ level
    after_it zero other after is = absurd (omega (arith, after))
    after_it (suc i) other after is = later.last i other (omega (arith, after)) is

last_here : (level k : ℕ) (entry : Record) (rest : List Record) → makes level entry ≡ true → NoneMakes level rest → LastFrom level k (entry ∷ rest) k
last_here level k entry rest made none =
    let (extend, same, of_level) = recorded_entry level entry made in record {
      at = 0;
      extend = extend;
      place = omega arith;
      stands = ap Some same;
      of_level = of_level;
      last = none_later level entry rest none;
    }

found_last_first : (level k : ℕ) (found : Option ℕ) (entry : Record) (rest : List Record) (made : Bool) → makes level entry ≡ made
    → FoundLast level (k + 1) (cond (makes level entry) (Some k) found) rest → FoundLast level k found (entry ∷ rest)
found_last_first level k found entry rest made is (inl (j, at, later)) = inl (j, at, last_later level k j entry rest later)
found_last_first level k found entry rest true is (inr (at, none)) =
    inl (k, at ∙ ap (λ b. cond b (Some k) found) is, last_here level k entry rest is none)
found_last_first level k found entry rest false is (inr (at, none)) =
    inr (at ∙ ap (λ b. cond b (Some k) found) is, none_first level entry rest is none)

found_last : (level k : ℕ) (found : Option ℕ) (entries : List Record) → FoundLast level k found entries
found_last level k found [] = inr (refl, λ i other is. absurd (none-some (ExtendRecord other) is))
found_last level k found (entry ∷ rest) =
    found_last_first level k found entry rest (makes level entry) refl (found_last level (k + 1) (cond (makes level entry) (Some k) found) rest)

last_of : (level : ℕ) (records : List Record) (j : ℕ) → LastFrom level 0 records j → IsLastExtend records (length records) level j
last_of level records j from =
    let place : from.at ≡ j = omega (arith, from.place) in record {
      extend = from.extend;
      stands = ap (slice_get records) (sym place) ∙ from.stands;
      of_level = from.of_level;
      before = omega (arith, place, slice_get_within records from.at (ExtendRecord from.extend) from.stands);
      last = λ i other after before is. from.last i other (omega (arith, after, place)) is;
    }

pub last_is : (level : ℕ) (records : List Record) (j : ℕ) → last_extend level 0 None records ≡ Some j → IsLastExtend records (length records) level j
last_is level records j is = elim (found_last level 0 None records) [
  | inl (i, at, from) ↦ last_of level records j (subst (LastFrom level 0 records) (same_Some i j (sym at ∙ is)) from)
  | inr (at, none) ↦ absurd (none-some j (sym at ∙ is))
]

one_last : (records : List Record) (k level i j : ℕ) → IsLastExtend records k level i → IsLastExtend records k level j → i ≡ j
one_last records k level i j a b =
    elim (cases_order i j) [
      | inl same ↦ same
      | inr (inl below) ↦ absurd (a.last j b.extend below b.before b.stands b.of_level)
      | inr (inr above) ↦ absurd (b.last i a.extend above a.before a.stands a.of_level)
    ]

is_last : (level : ℕ) (records : List Record) (j : ℕ) → IsLastExtend records (length records) level j → last_extend level 0 None records ≡ Some j
is_last level records j last = elim (found_last level 0 None records) [
  | inl (i, at, from) ↦ at ∙ ap Some (one_last records (length records) level i j (last_of level records i from) last)
  | inr (at, none) ↦ absurd (none j last.extend last.stands last.of_level)
]

-- ---- current trees

pub same_means : (a b : Option ℕ) → same_tree a b ≡ true → (tree : ℕ) × (a ≡ Some tree) × (b ≡ Some tree)
same_means (Some a) (Some b) is = (a, refl, ap Some (sym (eqb-true a b is)))
same_means (Some a) None is = absurd (true≢false (sym is))
same_means None b is = absurd (true≢false (sym is))

pub tell_same : (a b : Option ℕ) (tree : ℕ) → a ≡ Some tree → b ≡ Some tree → same_tree a b ≡ true
tell_same a b tree first second =
    subst (λ o. same_tree o b ≡ true) (sym first) (subst (λ o. same_tree (Some tree) o ≡ true) (sym second) (eq-eqb tree tree refl))

-- a beginning's current tree is the list's at that place, and conversely
from_front : (records : List Record) (k level tree : ℕ) → k ≤ length records
    → IsCurrent (take k records) (length (take k records)) level tree → IsCurrent records k level tree
from_front records k level tree within is =
    let long : length (take k records) ≡ k = length-take-le k records within in
    let at_k : IsCurrent (take k records) k level tree = subst (λ n. IsCurrent (take k records) n level tree) long is in
    subst (λ all. IsCurrent all k level tree) (take-append-drop k records)
    (current-all (take k records) (drop k records) k level tree (omega (arith, long)) at_k)

to_front : (records : List Record) (k level tree : ℕ) → k ≤ length records
    → IsCurrent records k level tree → IsCurrent (take k records) (length (take k records)) level tree
to_front records k level tree within is =
    let long : length (take k records) ≡ k = length-take-le k records within in
    let whole : IsCurrent (take k records ++ drop k records) k level tree =
    subst (λ all. IsCurrent all k level tree) (sym (take-append-drop k records)) is in
    subst (λ n. IsCurrent (take k records) n level tree) (sym long)
    (current-front (take k records) (drop k records) k level tree (omega (arith, long)) whole)

current_below : (level : ℕ)
    → ((records : List Record) (tree : ℕ) → current level records ≡ Some tree → IsCurrent records (length records) level tree)
    → (records : List Record) (tree : ℕ) (found : Option ℕ) → last_extend (suc level) 0 None records ≡ found
    → under (current level) records found ≡ Some tree → IsCurrent records (length records) (suc level) tree
current_below level above_is records tree None found is = absurd (none-some tree is)
current_below level above_is records tree (Some j) found is =
    let (same, at) = cond_some (same_tree (current level (take j records)) (current level records)) j tree is in
    let (above, there, here) = same_means (current level (take j records)) (current level records) same in
    let last : IsLastExtend records (length records) (suc level) j = last_is (suc level) records j found in
    let back : IsCurrent records j level above =
    from_front records j level above (omega (arith, last.before)) (above_is (take j records) above there) in
    subst (λ t. IsCurrent records (length records) (suc level) t) at (last, (above, above_is records above here, back))

pub current_is : (level : ℕ) (records : List Record) (tree : ℕ) → current level records ≡ Some tree → IsCurrent records (length records) level tree
current_is zero records tree is = sym (same_Some 0 tree is)
current_is (suc level) records tree is =
    current_below level (λ before t at. current_is level before t at) records tree (last_extend (suc level) 0 None records) refl is

pub is_current : (level : ℕ) (records : List Record) (tree : ℕ) → IsCurrent records (length records) level tree → current level records ≡ Some tree
is_current zero records tree is = ap Some (sym is)
is_current (suc level) records tree (last, (above, here, there)) =
    let inside : IsCurrent (take tree records) (length (take tree records)) level above =
    to_front records tree level above (omega (arith, last.before)) there in
    let same : same_tree (current level (take tree records)) (current level records) ≡ true =
    tell_same (current level (take tree records)) (current level records) above
    (is_current level (take tree records) above inside) (is_current level records above here) in
    ap (under (current level) records) (is_last (suc level) records tree last) ∙ ap (λ b. cond b (Some tree) None) same

-- `current` finds the current tree before a place
pub current_before : (records : List Record) (k level tree : ℕ) → k ≤ length records → current level (take k records) ≡ Some tree
    → IsCurrent records k level tree
current_before records k level tree within is = from_front records k level tree within (current_is level (take k records) tree is)

pub before_current : (records : List Record) (k level tree : ℕ) → k ≤ length records → IsCurrent records k level tree
    → current level (take k records) ≡ Some tree
before_current records k level tree within is = is_current level (take k records) tree (to_front records k level tree within is)
