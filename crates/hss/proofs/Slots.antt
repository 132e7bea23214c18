-- Slots that are in use from the first one on.
use Rattle.std.proofs.Common.{◌≡◌, ◌∙◌, refl, sym, ap, ℕ, zero, suc, ◌+◌, ◌-◌, ◌<◌, ◌≤◌, inl, inr, List, [], ◌∷◌, ◌++◌, length, take, drop, get_or, Option, Some, None, arith, subst, add-one, append-nil, append_assoc, length-append}
use Rattle.std.specs.Prelude.{set}
use Rattle.std.proofs.lemmas.Bool.{cases_lt, cases_order}
use Rattle.std.proofs.lemmas.List.{get_or-drop, get_or-set_other, get_or-set_same, take-append-drop, take-set-le, take_more_set}
use Rattle.std.proofs.lemmas.List.Concat.{flat_map-append}
use Rattle.hss.specs.declared.signed_key.SignedKeyView.{SignedKeyView}
use Rattle.hss.specs.SignedKey.{StandInTurn, BeginsAt, shown, shown_keys, signed_key_of, slot, signed_keys_size}
use Rattle.hss.specs.inner.SignedKey.{AreFirst}

-- slots that show nothing are empty
none-in : (slots : List (Option SignedKeyView)) (i : ℕ) (view : SignedKeyView) → shown_keys slots ≡ [] → slot slots i ≡ Some view → ⊥
none-in [] i view empty is = absurd (cc)
none-in (None ∷ rest) zero view empty is = absurd (cc)
none-in (None ∷ rest) (suc i) view empty is = none-in rest i view empty is
none-in (Some other ∷ rest) i view empty is = absurd (cc)

pub none-after : (n : ℕ) (slots : List (Option SignedKeyView)) (i : ℕ) (view : SignedKeyView) → shown_keys (drop n slots) ≡ [] → n ≤ i → slot slots i ≡ Some view → ⊥
none-after n slots i view empty past is =
    let there : n + (i - n) ≡ i = omega arith in
    none-in (drop n slots) (i - n) view empty (get_or-drop n slots (i - n) None ∙ ap (λ k. get_or slots k None) there ∙ is)

-- what a slot in use shows stands between what the slots before and after it show
pub signed-at : (slots : List (Option SignedKeyView)) (i : ℕ) (view : SignedKeyView) → slot slots i ≡ Some view → shown_keys (drop i slots) ≡ signed_key_of view ∷ shown_keys (drop (suc i) slots)
signed-at [] i view is = absurd (cc)
signed-at (x ∷ rest) zero view is = ap (λ x. shown x ++ shown_keys rest) is
signed-at (x ∷ rest) (suc i) view is = signed-at rest i view is

pub signed-cut : (slots : List (Option SignedKeyView)) (i : ℕ) → shown_keys slots ≡ shown_keys (take i slots) ++ shown_keys (drop i slots)
signed-cut slots i = ap shown_keys (sym (take-append-drop i slots)) ∙ flat_map-append shown (take i slots) (drop i slots)

-- an empty slot shows nothing
skipped : (slots : List (Option SignedKeyView)) (i : ℕ) → slot slots i ≡ None → shown_keys (take (suc i) slots) ≡ shown_keys (take i slots)
skipped [] zero is = refl
skipped [] (suc i) is = refl
skipped (x ∷ rest) zero is = ap (λ x. shown x ++ []) is
skipped (x ∷ rest) (suc i) is = ap (λ keys. shown x ++ keys) (skipped rest i is)

pub in-use : (n : ℕ) (slots : List (Option SignedKeyView)) (i : ℕ) → AreFirst n slots → i < n → slot slots i ≡ None → ⊥
in-use n slots i first within is =
    omega (arith, first.0 i (omega arith), first.0 (i + 1) (omega arith), ap (λ k. length (shown_keys (take k slots))) (add-one i), ap length (skipped slots i is))

-- they show n signed keys
pub shown-count : (n : ℕ) (slots : List (Option SignedKeyView)) → AreFirst n slots → length (shown_keys slots) ≡ n
shown-count n slots first =
    ap length (signed-cut slots n ∙ ap (λ keys. shown_keys (take n slots) ++ keys) first.1 ∙ append-nil (shown_keys (take n slots))) ∙ first.0 n (omega arith)

-- ---- a slot that is set to a view

set-in : (slots : List (Option SignedKeyView)) (i : ℕ) (view : SignedKeyView) → i < length slots → shown_keys (drop i slots) ≡ []
    → (shown_keys (set slots i (Some view)) ≡ shown_keys slots ++ signed_key_of view ∷ []) × (shown_keys (drop (suc i) (set slots i (Some view))) ≡ [])
set-in [] i view within empty = absurd (omega arith)
set-in (None ∷ rest) zero view within empty =
    (ap (λ keys. signed_key_of view ∷ keys) empty ∙ sym (ap (λ keys. keys ++ signed_key_of view ∷ []) empty), empty)
set-in (Some other ∷ rest) zero view within empty = absurd (cc)
set-in (x ∷ rest) (suc i) view within empty =
    let (all, after) = set-in rest i view (omega arith) empty in
    (ap (λ keys. shown x ++ keys) all ∙ sym (append_assoc (shown x) (shown_keys rest) (signed_key_of view ∷ [])), after)

module _ (slots : List (Option SignedKeyView)) (i : ℕ) (view : SignedKeyView) (within : i < length slots) (empty : shown_keys (drop i slots) ≡ []) where
  -- one more signed key
  pub set-shows : shown_keys (set slots i (Some view)) ≡ shown_keys slots ++ signed_key_of view ∷ []
  set-shows = (set-in slots i view within empty).0

  -- one more slot in use
  pub set-first : AreFirst i slots → AreFirst (i + 1) (set slots i (Some view))
  set-first first = (
    λ j below. elim (cases_lt j (i + 1)) [
      | inl before ↦ ap (λ front. length (shown_keys front)) (take-set-le j slots i (Some view) (omega arith)) ∙ first.0 j (omega arith)
      | inr past ↦
          let last : i + 1 ≡ j = omega arith in
          let front : shown_keys (take (i + 1) (set slots i (Some view))) ≡ shown_keys (take i slots) ++ signed_key_of view ∷ [] =
          ap shown_keys (take_more_set slots i (Some view) within) ∙ flat_map-append shown (take i slots) (Some view ∷ []) in
          subst (λ j. length (shown_keys (take j (set slots i (Some view)))) ≡ j) last
          (ap length front ∙ length-append (shown_keys (take i slots)) (signed_key_of view ∷ []) ∙ ap (λ n. n + 1) (first.0 i (omega arith)))
    ],
    ap (λ k. shown_keys (drop k (set slots i (Some view)))) (add-one i) ∙ (set-in slots i view within empty).1,
  )

  -- it stands after those before it
  pub set-stand : (place : ℕ) (bytes : List ℕ) → StandInTurn place bytes slots → BeginsAt (place + signed_keys_size (shown_keys (take i slots))) bytes view
      → StandInTurn place bytes (set slots i (Some view))
  set-stand place bytes stand here j other is =
      elim (cases_order j i) [
        | inl same ↦
            let at : Some view ≡ Some other =
            sym (get_or-set_same slots i (Some view) None within) ∙ ap (λ k. get_or (set slots i (Some view)) k None) (sym same) ∙ is in
            let view_is : view ≡ other = cc in
            let front : take i slots ≡ take j (set slots i (Some view)) =
            ap (λ k. take k slots) (sym same) ∙ sym (take-set-le j slots i (Some view) (omega arith)) in
            subst (λ front. BeginsAt (place + signed_keys_size (shown_keys front)) bytes other) front
            (subst (BeginsAt (place + signed_keys_size (shown_keys (take i slots))) bytes) view_is here)
        | inr (inl before) ↦
            let at : slot slots j ≡ Some other = sym (get_or-set_other slots i j (Some view) None (λ same. omega arith)) ∙ is in
            subst (λ front. BeginsAt (place + signed_keys_size (shown_keys front)) bytes other) (sym (take-set-le j slots i (Some view) (omega arith)))
            (stand j other at)
        | inr (inr past) ↦
            let at : slot slots j ≡ Some other = sym (get_or-set_other slots i j (Some view) None (λ same. omega arith)) ∙ is in
            absurd (none-after i slots j other empty (omega arith) at)
      ]

-- all that slots show is in the first of them
pub shown-front : (n : ℕ) (slots : List (Option SignedKeyView)) → AreFirst n slots → shown_keys slots ≡ shown_keys (take n slots)
shown-front n slots first = signed-cut slots n ∙ ap (λ keys. shown_keys (take n slots) ++ keys) first.1 ∙ append-nil (shown_keys (take n slots))

-- seven empty slots
abbrev pub unused : List (Option SignedKeyView)
unused = None ∷ None ∷ None ∷ None ∷ None ∷ None ∷ None ∷ []

pub unused-first : AreFirst 0 unused
unused-first = (λ i below. let none : 0 ≡ i = omega arith in subst (λ i. length (shown_keys (take i unused)) ≡ i) none refl, refl)

pub unused-stand : (place : ℕ) (bytes : List ℕ) → StandInTurn place bytes unused
unused-stand place bytes i view is = absurd (none-in unused i view refl is)

-- further ones are empty
pub none-past : (n : ℕ) (slots : List (Option SignedKeyView)) (i : ℕ) → AreFirst n slots → n ≤ i → None ≡ slot slots i
none-past n slots i first past =
    sym (elim (slot slots i) as (λ r. slot slots i ≡ r → r ≡ None) [
      | None ↦ λ is. refl
      | Some view ↦ λ is. absurd (none-after n slots i view first.1 past is)
    ] refl)
