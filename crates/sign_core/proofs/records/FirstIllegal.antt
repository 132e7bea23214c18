-- The first illegal record is the first at which a list stops being legal.
use Rattle.std.proofs.Common.{◌≡◌, ◌⊎◌, inl, inr, ℕ, zero, suc, ◌+◌, ◌<◌, ◌≤◌, Bool, true, false, cond, List, [], ◌∷◌, ◌++◌}
use Rattle.std.proofs.Common.{length, take, drop, Some, None, refl, sym, ap, subst, ◌∙◌, arith, true≢false}
use Rattle.std.specs.Prelude.{slice_get}
use Rattle.std.specs.Option.{option_or}
use Rattle.std.proofs.lemmas.Option.{none-some, same_Some, slice_get_within}
use Rattle.std.proofs.lemmas.List.{length-take-le, take-append-le, take-append-drop, take_all, take_at}
use Rattle.state_file.specs.declared.record.Key.{Key}
use Rattle.state_file.specs.declared.record.Record.{Record}
use Rattle.state_file.specs.declared.record.Record.TheVariants.{Key as KeyRecord, Extend as ExtendRecord, Bound as BoundRecord, Retire, Moved}
use Rattle.state_file.specs.Laws.{Fits, IsLegal}
use Rattle.state_file.proofs.Legal.{legal_beginning}
use Rattle.sign_core.specs.Records.{can_follow, first_illegal, next_illegal, the_key}
use Rattle.sign_core.proofs.records.Lists.{slice_get_some, take_with_next}
use Rattle.sign_core.proofs.records.Legal.{grew, grows}

-- ---- the first record that can't follow

abbrev Follows : List Record → ℕ → Record → Bool
Follows all k entry = can_follow (the_key (take k all)) (take k all) entry

-- the first m records from place k on can each follow the records before it
abbrev FollowBelow : List Record → ℕ → List Record → ℕ → Type 0
FollowBelow all k rest m = (i : ℕ) (entry : Record) → i < m → slice_get rest i ≡ Some entry → Follows all (k + i) entry ≡ true

abbrev FoundIllegal : List Record → ℕ → List Record → Type 0
FoundIllegal all k rest = ((next_illegal all k rest ≡ None) × FollowBelow all k rest (length rest))
    ⊎ ((at : ℕ) × (entry : Record) × (next_illegal all k rest ≡ Some (k + at)) × (slice_get rest at ≡ Some entry)
    × (Follows all (k + at) entry ≡ false) × FollowBelow all k rest at)

first_below : (all : List Record) (k m : ℕ) (first : Record) (rest : List Record) → Follows all k first ≡ true → FollowBelow all (k + 1) rest m
    → FollowBelow all k (first ∷ rest) (suc m)
first_below all k m first rest follows below zero entry under at =
    let here : k + 0 ≡ k = omega arith in
    ap (λ n. Follows all n entry) here ∙ ap (Follows all k) (sym (same_Some first entry at)) ∙ follows
first_below all k m first rest follows below (suc i) entry under at =
    let on : k + suc i ≡ k + 1 + i = omega arith in
    ap (λ n. Follows all n entry) on ∙ below i entry (omega (arith, under)) at

found_illegal_first : (all : List Record) (k : ℕ) (first : Record) (rest : List Record) (follows : Bool) → Follows all k first ≡ follows
    → FoundIllegal all (k + 1) rest → FoundIllegal all k (first ∷ rest)
found_illegal_first all k first rest true is (inl (at, below)) =
    inl (ap (λ b. cond b (next_illegal all (k + 1) rest) (Some k)) is ∙ at, first_below all k (length rest) first rest is below)
found_illegal_first all k first rest true is (inr (at, entry, found, stands, not, below)) =
    let on : k + 1 + at ≡ k + suc at = omega arith in
    inr (
      suc at,
      entry,
      ap (λ b. cond b (next_illegal all (k + 1) rest) (Some k)) is ∙ found ∙ ap Some on,
      stands,
      ap (λ n. Follows all n entry) (sym on) ∙ not,
      first_below all k at first rest is below,
    )
found_illegal_first all k first rest false is later =
    let here : k ≡ k + 0 = omega arith in
    inr (
      0,
      first,
      ap (λ b. cond b (next_illegal all (k + 1) rest) (Some k)) is ∙ ap Some here,
      refl,
      ap (λ n. Follows all n first) (sym here) ∙ is,
      λ i entry under at. absurd (omega (arith, under)),
    )

found_illegal : (all : List Record) (k : ℕ) (rest : List Record) → FoundIllegal all k rest
found_illegal all k [] = inl (refl, λ i entry under at. absurd (omega (arith, under)))
found_illegal all k (first ∷ rest) = found_illegal_first all k first rest (Follows all k first) refl (found_illegal all (k + 1) rest)

from_zero : (all : List Record) (m : ℕ) → FollowBelow all 0 all m
    → (i : ℕ) (entry : Record) → i < m → slice_get all i ≡ Some entry → Follows all i entry ≡ true
from_zero all m below i entry under at =
    let here : i ≡ 0 + i = omega arith in ap (λ n. Follows all n entry) here ∙ below i entry under at

-- ---- legal lists

pub legal_alone : (key : Key) → IsLegal (KeyRecord key ∷ [])
legal_alone key = record {
  key = key;
  first = refl;
  fits = fits;
  identifiers = λ j k a b identifier under at_a at_b. absurd (none_later j k b under at_b);
  names = λ j k a b under at_a at_b. absurd (none_later j k (BoundRecord b) under at_b);
  rising = λ j k a b tree leaf later under at_a at_b. absurd (none_later j k b under at_b);
  retired = λ j k upto b tree leaf under at_a at_b. absurd (none_later j k b under at_b);
}
  where
    fits : (k : ℕ) (entry : Record) → slice_get (KeyRecord key ∷ []) k ≡ Some entry → Fits key (KeyRecord key ∷ []) k entry
    fits zero entry at = subst (λ e. Fits key (KeyRecord key ∷ []) 0 e) (same_Some (KeyRecord key) entry at) refl
    fits (suc k) entry at = absurd (none-some entry at)

    none_later : (j k : ℕ) (entry : Record) → j < k → slice_get (KeyRecord key ∷ []) k ≡ Some entry → ⊥
    none_later j zero entry under at = omega (arith, under)
    none_later j (suc k) entry under at = none-some entry at

begins : (entry : Record) → can_follow None [] entry ≡ true → IsLegal (entry ∷ [])
begins (KeyRecord key) is = legal_alone key
begins (ExtendRecord extend) is = absurd (true≢false (sym is))
begins (BoundRecord bound) is = absurd (true≢false (sym is))
begins (Retire upto) is = absurd (true≢false (sym is))
begins Moved is = absurd (true≢false (sym is))

-- a beginning is legal if each of its records can follow
legal_front : (all : List Record) (m : ℕ) → m < length all
    → ((i : ℕ) (entry : Record) → i < suc m → slice_get all i ≡ Some entry → Follows all i entry ≡ true) → IsLegal (take (suc m) all)
legal_front all zero within follow =
    let (entry, at) = slice_get_some all 0 within in
    subst (λ l. IsLegal l) (sym (take_with_next all 0 entry at)) (begins entry (follow 0 entry (omega arith) at))
legal_front all (suc m) within follow =
    let (entry, at) = slice_get_some all (suc m) within in
    let before : IsLegal (take (suc m) all) =
    legal_front all m (omega (arith, within)) (λ i other under there. follow i other (omega (arith, under)) there) in
    subst (λ l. IsLegal l) (sym (take_with_next all (suc m) entry at))
    (grows (take (suc m) all) entry before (follow (suc m) entry (omega arith) at))

-- where a record can't follow, the list isn't legal up to it
key_begins : (entry : Record) → IsLegal (entry ∷ []) → can_follow None [] entry ≡ true
key_begins entry legal = ap (can_follow None []) (same_Some entry (KeyRecord legal.key) legal.first)

ends_there : (all : List Record) (k : ℕ) (entry : Record) → slice_get all k ≡ Some entry → Follows all k entry ≡ false → IsLegal (take (suc k) all) → ⊥
ends_there all zero entry at not legal =
    let alone : IsLegal (entry ∷ []) = subst (λ l. IsLegal l) (take_with_next all 0 entry at) legal in
    true≢false (sym (key_begins entry alone) ∙ not)
ends_there all (suc k) entry at not legal =
    let within : suc k < length all = slice_get_within all (suc k) entry at in
    let some : 0 < length (take (suc k) all) = omega (arith, length-take-le (suc k) all (omega (arith, within))) in
    let whole : IsLegal (take (suc k) all ++ entry ∷ []) = subst (λ l. IsLegal l) (take_with_next all (suc k) entry at) legal in
    true≢false (sym (grew (take (suc k) all) entry some whole) ∙ not)

pub legal_from_none : (records : List Record) → 0 < length records → first_illegal records ≡ None → IsLegal records
legal_from_none [] some is = absurd (omega (arith, some))
legal_from_none (first ∷ rest) some is = elim (found_illegal (first ∷ rest) 0 (first ∷ rest)) [
  | inl (at, below) ↦
      subst (λ l. IsLegal l) (take_all (length (first ∷ rest)) (first ∷ rest) (omega arith))
      (legal_front (first ∷ rest) (length rest) (omega arith) (from_zero (first ∷ rest) (length (first ∷ rest)) below))
  | inr (at, entry, found, stands, not, below) ↦ absurd (none-some (0 + at) (sym is ∙ found))
]

pub none_from_legal : (records : List Record) → IsLegal records → first_illegal records ≡ None
none_from_legal records legal = elim (found_illegal records 0 records) [
  | inl (at, below) ↦ at
  | inr (at, entry, found, stands, not, below) ↦
      let within : at < length records = slice_get_within records at entry stands in
      let here : at ≡ 0 + at = omega arith in
      let some : 0 < length (take (suc at) records) = omega (arith, length-take-le (suc at) records (omega (arith, within))) in
      let whole : IsLegal (take (suc at) records ++ drop (suc at) records) =
      subst (λ l. IsLegal l) (sym (take-append-drop (suc at) records)) legal in
      absurd (ends_there records at entry stands (ap (λ n. Follows records n entry) here ∙ not)
      (legal_beginning (take (suc at) records) (drop (suc at) records) some whole))
]

legal_up_to : (records : List Record) (k : ℕ) → k ≤ length records
    → ((i : ℕ) (entry : Record) → i < k → slice_get records i ≡ Some entry → Follows records i entry ≡ true) → (k ≡ 0) ⊎ IsLegal (take k records)
legal_up_to records zero within follow = inl refl
legal_up_to records (suc k) within follow = inr (legal_front records k (omega (arith, within)) follow)

pub first_is : (records : List Record) (k : ℕ) → first_illegal records ≡ Some k
    → (k < length records) × ((k ≡ 0) ⊎ IsLegal (take k records)) × (IsLegal (take (k + 1) records) → ⊥)
first_is records k is = elim (found_illegal records 0 records) [
  | inl (at, below) ↦ absurd (none-some k (sym at ∙ is))
  | inr (at, entry, found, stands, not, below) ↦
      let same : at ≡ k = omega (arith, same_Some (0 + at) k (sym found ∙ is)) in
      subst (λ n. (n < length records) × ((n ≡ 0) ⊎ IsLegal (take n records)) × (IsLegal (take (n + 1) records) → ⊥)) same (by at entry stands not below)
]
  where
    by : (at : ℕ) (entry : Record) → slice_get records at ≡ Some entry → Follows records (0 + at) entry ≡ false → FollowBelow records 0 records at
        → (at < length records) × ((at ≡ 0) ⊎ IsLegal (take at records)) × (IsLegal (take (at + 1) records) → ⊥)
    by at entry stands not below =
        let within : at < length records = slice_get_within records at entry stands in
        let here : at ≡ 0 + at = omega arith in
        let on : at + 1 ≡ suc at = omega arith in (
          within,
          legal_up_to records at (omega (arith, within)) (from_zero records at below),
          λ legal. ends_there records at entry stands (ap (λ n. Follows records n entry) here ∙ not)
              (subst (λ n. IsLegal (take n records)) on legal),
        )

-- ---- one more record

pub illegal_append : (all : List Record) (k : ℕ) (xs ys : List Record)
    → next_illegal all k (xs ++ ys) ≡ option_or (next_illegal all k xs) (next_illegal all (k + length xs) ys)
illegal_append all k [] ys = let here : k ≡ k + 0 = omega arith in ap (λ n. next_illegal all n ys) here
illegal_append all k (first ∷ xs) ys =
    let on : k + 1 + length xs ≡ k + suc (length xs) = omega arith in
    by (Follows all k first) (illegal_append all (k + 1) xs ys ∙ ap (λ n. option_or (next_illegal all (k + 1) xs) (next_illegal all n ys)) on)
  where
    by : (follows : Bool)
        → next_illegal all (k + 1) (xs ++ ys) ≡ option_or (next_illegal all (k + 1) xs) (next_illegal all (k + suc (length xs)) ys)
        → cond follows (next_illegal all (k + 1) (xs ++ ys)) (Some k)
        ≡ option_or (cond follows (next_illegal all (k + 1) xs) (Some k)) (next_illegal all (k + suc (length xs)) ys)
    by true rest = rest
    by false rest = refl

pub illegal_front : (records more : List Record) (k : ℕ) (rest : List Record) → k + length rest ≤ length records
    → next_illegal (records ++ more) k rest ≡ next_illegal records k rest
illegal_front records more k [] within = refl
illegal_front records more k (first ∷ rest) within =
    let same : take k (records ++ more) ≡ take k records = take-append-le k records more (omega (arith, within)) in
    let others = illegal_front records more (k + 1) rest (omega (arith, within)) in
    λ i. cond (can_follow (the_key (same i)) (same i) first) (others i) (Some k)

-- the first illegal record stays; without one, it is a new record that can't follow
pub first_illegal_appended : (records : List Record) (entry : Record)
    → first_illegal (records ++ entry ∷ [])
    ≡ option_or (first_illegal records) (cond (can_follow (the_key records) records entry) None (Some (length records)))
first_illegal_appended records entry =
    let here : 0 + length records ≡ length records = omega arith in
    let whole : take (length records) (records ++ entry ∷ []) ≡ records = take_at records (entry ∷ []) (length records) refl in
    illegal_append (records ++ entry ∷ []) 0 records (entry ∷ [])
    ∙ ap (λ n. option_or (next_illegal (records ++ entry ∷ []) 0 records) (next_illegal (records ++ entry ∷ []) n (entry ∷ []))) here
    ∙ (λ i. option_or (illegal_front records (entry ∷ []) 0 records (omega arith) i)
    (cond (can_follow (the_key (whole i)) (whole i) entry) None (Some (length records))))

-- ---- more records

pub first_illegal_after : (records more : List Record)
    → first_illegal (records ++ more) ≡ option_or (first_illegal records) (next_illegal (records ++ more) (length records) more)
first_illegal_after records more =
    let here : 0 + length records ≡ length records = omega arith in
    illegal_append (records ++ more) 0 records more
    ∙ ap (λ n. option_or (next_illegal (records ++ more) 0 records) (next_illegal (records ++ more) n more)) here
    ∙ ap (λ o. option_or o (next_illegal (records ++ more) (length records) more)) (illegal_front records more 0 records (omega arith))

-- the first illegal record is no earlier than the search begins
illegal_least : (all : List Record) (k : ℕ) (rest : List Record) (j : ℕ) → next_illegal all k rest ≡ Some j → k ≤ j
illegal_least all k [] j is = absurd (none-some j is)
illegal_least all k (first ∷ rest) j is = by (Follows all k first) is (illegal_least all (k + 1) rest j)
  where
    by : (follows : Bool) → cond follows (next_illegal all (k + 1) rest) (Some k) ≡ Some j → (next_illegal all (k + 1) rest ≡ Some j → k + 1 ≤ j) → k ≤ j
    by true is later = omega (arith, later is)
    by false is later = omega (arith, same_Some k j is)

-- it stands after a legal beginning
pub illegal_after : (records more : List Record) (j : ℕ) → first_illegal records ≡ None → first_illegal (records ++ more) ≡ Some j → length records ≤ j
illegal_after records more j legal is =
    illegal_least (records ++ more) (length records) more j
    (sym (first_illegal_after records more ∙ ap (λ o. option_or o (next_illegal (records ++ more) (length records) more)) legal) ∙ is)
