-- A list is legal if each record can follow the ones before it.
use Rattle.std.proofs.Common.{◌≡◌, ◌≢◌, inl, inr, ℕ, ◌<◌, ◌≤◌, Bool, true, false, not, List, [], ◌∷◌, ◌++◌}
use Rattle.std.proofs.Common.{length, Option, Some, refl, sym, ap, subst, ◌∙◌, arith, true≢false}
use Rattle.std.specs.Prelude.{slice_get}
use Rattle.std.proofs.lemmas.Bool.{and_parts, and_from, not_from_false}
use Rattle.state_file.specs.declared.record.Bound.{Bound}
use Rattle.state_file.specs.declared.record.Key.{Key}
use Rattle.state_file.specs.declared.record.Record.{Record}
use Rattle.state_file.specs.declared.record.Record.TheVariants.{Key as KeyRecord, Extend as ExtendRecord, Bound as BoundRecord, Retire, Moved}
use Rattle.state_file.specs.declared.record.Secret.{Secret}
use Rattle.state_file.specs.Laws.{Fits, IsCurrent, IsLegal, Names, bottom_of, identifier_of}
use Rattle.state_file.proofs.Legal.{current-all, current-front}
use Rattle.sign_core.specs.Records.{can_follow, can_follow_legal, has_moved, the_key, next_leaf}
use Rattle.sign_core.proofs.records.Lists.{front_or_new, slice_get_front, slice_get_stays}
use Rattle.sign_core.proofs.records.Bindings.{stands_identifier, unbound}
use Rattle.sign_core.proofs.records.CanFollow.{follower_fits, follower_identifier, follower_name, follower_names}
use Rattle.sign_core.proofs.records.CanFollow.{key_first, last_follows, last_stays, named_below, none_moved, retired_below}

-- ---- one more record

fits_still : (key : Key) (xs ys : List Record) (k : ℕ) (entry : Record) → k < length xs → (entry ≢ Moved) → Fits key xs k entry
    → Fits key (xs ++ ys) k entry
fits_still key xs ys k (KeyRecord other) within stays is = is
fits_still key xs ys k (ExtendRecord extend) within stays (level, of, high, (tree, current), inside) =
    (level, of, high, (tree, current-all xs ys k level tree (omega (arith, within)) current), inside)
fits_still key xs ys k (BoundRecord bound) within stays ((tree, current), inside, random) =
    ((tree, current-all xs ys k (bottom_of key.secret) tree (omega (arith, within)) current), inside, random)
fits_still key xs ys k (Retire upto) within stays ((tree, current), inside) =
    ((tree, current-all xs ys k (bottom_of key.secret) tree (omega (arith, within)) current), inside)
fits_still key xs ys k Moved within stays is = absurd (stays refl)

names_front : (secret : Secret) (xs ys : List Record) (k : ℕ) (entry : Record) (tree leaf : ℕ) → k ≤ length xs → Names secret (xs ++ ys) k entry tree leaf
    → Names secret xs k entry tree leaf
names_front secret xs ys k (KeyRecord key) tree leaf within is = is
names_front secret xs ys k (ExtendRecord extend) tree leaf within (level, of, current, same) =
    (level, of, current-front xs ys k level tree within current, same)
names_front secret xs ys k (BoundRecord bound) tree leaf within (current, same) = (current-front xs ys k (bottom_of secret) tree within current, same)
names_front secret xs ys k (Retire upto) tree leaf within is = is
names_front secret xs ys k Moved tree leaf within is = is

in_front : (before : List Record) (entry other : Record) (j : ℕ) → j < length before → slice_get (before ++ entry ∷ []) j ≡ Some other
    → slice_get before j ≡ Some other
in_front before entry other j below at = sym (slice_get_front before (entry ∷ []) j below) ∙ at

names_at_end : (secret : Secret) (before : List Record) (entry last : Record) (k tree leaf : ℕ) → k ≡ length before → entry ≡ last
    → Names secret (before ++ entry ∷ []) k last tree leaf → Names secret (before ++ entry ∷ []) (length before) entry tree leaf
names_at_end secret before entry last k tree leaf end same names =
    subst (λ e. Names secret (before ++ entry ∷ []) (length before) e tree leaf) (sym same)
    (subst (λ n. Names secret (before ++ entry ∷ []) n last tree leaf) end names)

module _ (before : List Record) (entry : Record) (legal : IsLegal before) (stays : has_moved before ≡ false)
    (follows : can_follow_legal legal.key before entry ≡ true) where
  all_fit : (k : ℕ) (other : Record) → slice_get (before ++ entry ∷ []) k ≡ Some other → Fits legal.key (before ++ entry ∷ []) k other
  all_fit k other at = elim (front_or_new before entry k other at) [
    | inl (below, is) ↦ fits_still legal.key before (entry ∷ []) k other below
        (λ moved. none_moved before k legal stays (is ∙ ap Some moved)) (legal.fits k other is)
    | inr (end, same) ↦
        subst (λ n. Fits legal.key (before ++ entry ∷ []) n other) (sym end)
        (subst (λ e. Fits legal.key (before ++ entry ∷ []) (length before) e) same (follower_fits legal.key before entry follows))
  ]

  all_identifiers : (j k : ℕ) (a b : Record) (identifier : List ℕ) → j < k → slice_get (before ++ entry ∷ []) j ≡ Some a
      → slice_get (before ++ entry ∷ []) k ≡ Some b → identifier_of a ≡ Some identifier → identifier_of b ≢ Some identifier
  all_identifiers j k a b identifier under at_a at_b own_a own_b = elim (front_or_new before entry k b at_b) [
    | inl (below, is) ↦
        legal.identifiers j k a b identifier under (in_front before entry a j (omega (arith, under, below)) at_a) is own_a own_b
    | inr (end, same) ↦
        let is_a : slice_get before j ≡ Some a = in_front before entry a j (omega (arith, under, end)) at_a in
        true≢false (sym (stands_identifier before identifier j a is_a own_a)
        ∙ follower_identifier legal.key before entry identifier follows (ap identifier_of same ∙ own_b))
  ]

  all_names : (j k : ℕ) (a b : Bound) → j < k → slice_get (before ++ entry ∷ []) j ≡ Some (BoundRecord a)
      → slice_get (before ++ entry ∷ []) k ≡ Some (BoundRecord b) → a.name ≢ b.name
  all_names j k a b under at_a at_b = elim (front_or_new before entry k (BoundRecord b) at_b) [
    | inl (below, is) ↦ legal.names j k a b under (in_front before entry (BoundRecord a) j (omega (arith, under, below)) at_a) is
    | inr (end, same) ↦
        let is_a : slice_get before j ≡ Some (BoundRecord a) = in_front before entry (BoundRecord a) j (omega (arith, under, end)) at_a in
        let own : can_follow_legal legal.key before (BoundRecord b) ≡ true =
        subst (λ e. can_follow_legal legal.key before e ≡ true) same follows in
        unbound before b.name j a (follower_name legal.key before b own) is_a
  ]

  all_rising : (j k : ℕ) (a b : Record) (tree leaf later : ℕ) → j < k → slice_get (before ++ entry ∷ []) j ≡ Some a
      → slice_get (before ++ entry ∷ []) k ≡ Some b → Names legal.key.secret (before ++ entry ∷ []) j a tree leaf
      → Names legal.key.secret (before ++ entry ∷ []) k b tree later → leaf < later
  all_rising j k a b tree leaf later under at_a at_b names_a names_b = elim (front_or_new before entry k b at_b) [
    | inl (below, is) ↦
        legal.rising j k a b tree leaf later under (in_front before entry a j (omega (arith, under, below)) at_a) is
        (names_front legal.key.secret before (entry ∷ []) j a tree leaf (omega (arith, under, below)) names_a)
        (names_front legal.key.secret before (entry ∷ []) k b tree later (omega (arith, below)) names_b)
    | inr (end, same) ↦
        let is_a : slice_get before j ≡ Some a = in_front before entry a j (omega (arith, under, end)) at_a in
        let low : leaf < next_leaf legal.key.secret before tree =
        named_below legal.key.secret before j a tree leaf is_a
        (names_front legal.key.secret before (entry ∷ []) j a tree leaf (omega (arith, under, end)) names_a) in
        let high : next_leaf legal.key.secret before tree ≤ later =
        follower_names legal.key before entry tree later follows
        (names_at_end legal.key.secret before entry b k tree later end same names_b) in
        omega (arith, low, high)
  ]

  all_retired : (j k : ℕ) (upto : ℕ) (b : Record) (tree leaf : ℕ) → j < k → slice_get (before ++ entry ∷ []) j ≡ Some (Retire upto)
      → slice_get (before ++ entry ∷ []) k ≡ Some b → IsCurrent (before ++ entry ∷ []) j (bottom_of legal.key.secret) tree
      → Names legal.key.secret (before ++ entry ∷ []) k b tree leaf → upto ≤ leaf
  all_retired j k upto b tree leaf under at_a at_b current names_b = elim (front_or_new before entry k b at_b) [
    | inl (below, is) ↦
        legal.retired j k upto b tree leaf under (in_front before entry (Retire upto) j (omega (arith, under, below)) at_a) is
        (current-front before (entry ∷ []) j (bottom_of legal.key.secret) tree (omega (arith, under, below)) current)
        (names_front legal.key.secret before (entry ∷ []) k b tree leaf (omega (arith, below)) names_b)
    | inr (end, same) ↦
        let is_a : slice_get before j ≡ Some (Retire upto) = in_front before entry (Retire upto) j (omega (arith, under, end)) at_a in
        let low : upto ≤ next_leaf legal.key.secret before tree =
        retired_below legal.key.secret before j upto tree is_a
        (current-front before (entry ∷ []) j (bottom_of legal.key.secret) tree (omega (arith, under, end)) current) in
        let high : next_leaf legal.key.secret before tree ≤ leaf =
        follower_names legal.key before entry tree leaf follows
        (names_at_end legal.key.secret before entry b k tree leaf end same names_b) in
        omega (arith, low, high)
  ]

  grown : IsLegal (before ++ entry ∷ [])
  grown = record {
    key = legal.key;
    first = slice_get_stays before (entry ∷ []) 0 (KeyRecord legal.key) legal.first;
    fits = all_fit;
    identifiers = all_identifiers;
    names = all_names;
    rising = all_rising;
    retired = all_retired;
  }

parts_of : (found : Option Key) (key : Key) (before : List Record) (entry : Record) → found ≡ Some key → can_follow found before entry ≡ true
    → (not (has_moved before) ≡ true) × (can_follow_legal key before entry ≡ true)
parts_of found key before entry is follows =
    and_parts (not (has_moved before)) (can_follow_legal key before entry) (subst (λ o. can_follow o before entry ≡ true) is follows)

not_means : (b : Bool) → not b ≡ true → b ≡ false
not_means true is = sym is
not_means false is = refl

pub grows : (before : List Record) (entry : Record) → IsLegal before → can_follow (the_key before) before entry ≡ true → IsLegal (before ++ entry ∷ [])
grows before entry legal follows =
    let (stays, rest) = parts_of (the_key before) legal.key before entry (key_first before legal.key legal.first) follows in
    grown before entry legal (not_means (has_moved before) stays) rest

pub grew : (before : List Record) (entry : Record) → 0 < length before → IsLegal (before ++ entry ∷ [])
    → can_follow (the_key before) before entry ≡ true
grew before entry some legal =
    let first : slice_get before 0 ≡ Some (KeyRecord legal.key) = in_front before entry (KeyRecord legal.key) 0 some legal.first in
    subst (λ o. can_follow o before entry ≡ true) (sym (key_first before legal.key first))
    (and_from (not (has_moved before)) (can_follow_legal legal.key before entry)
    (not_from_false (has_moved before) (last_stays before entry legal)) (last_follows before entry legal some))
