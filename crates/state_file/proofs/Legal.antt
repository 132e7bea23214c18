-- What holds of legal lists.
use Rattle.std.proofs.Common.{◌≡◌, inl, inr, ℕ, zero, suc, ◌<◌, ◌≤◌, List, [], ◌∷◌, ◌++◌, length, Some, refl, sym, ◌∙◌, arith, length-append}
use Rattle.std.specs.Prelude.{slice_get}
use Rattle.std.proofs.lemmas.Bool.{cases_order}
use Rattle.std.proofs.lemmas.Option.{slice_get_within}
use Rattle.state_file.specs.declared.record.Key.{Key}
use Rattle.state_file.specs.declared.record.Record.{Record}
use Rattle.state_file.specs.declared.record.Record.TheVariants.{Key as KeyRecord, Extend as ExtendRecord, Bound as BoundRecord, Retire, Moved}
use Rattle.state_file.specs.declared.record.Secret.{Secret}
use Rattle.state_file.specs.Laws.{Fits, IsCurrent, IsLastExtend, IsLegal, Names, bottom_of}

one_last : (records : List Record) (k level i j : ℕ) → IsLastExtend records k level i → IsLastExtend records k level j → i ≡ j
one_last records k level i j a b =
    elim (cases_order i j) [
      | inl same ↦ same
      | inr (inl below) ↦ absurd (a.last j b.extend below b.before b.stands b.of_level)
      | inr (inr above) ↦ absurd (b.last i a.extend above a.before a.stands a.of_level)
    ]

pub one_current : (records : List Record) (k level a b : ℕ) → IsCurrent records k level a → IsCurrent records k level b → a ≡ b
one_current records k zero a b first second = first ∙ sym second
one_current records k (suc level) a b first second = one_last records k (suc level) a b first.0 second.0

-- ---- beginnings

get-front : {A : Type 0} (xs ys : List A) (k : ℕ) → k < length xs → slice_get (xs ++ ys) k ≡ slice_get xs k
get-front [] ys k below = absurd (omega (arith, below))
get-front (x ∷ xs) ys zero below = refl
get-front (x ∷ xs) ys (suc k) below = get-front xs ys k (omega (arith, below))

got : {A : Type 0} (xs ys : List A) (k : ℕ) (x : A) → slice_get xs k ≡ Some x → slice_get (xs ++ ys) k ≡ Some x
got xs ys k x is = get-front xs ys k (slice_get_within xs k x is) ∙ is

last-front : (xs ys : List Record) (k level j : ℕ) → k ≤ length xs → IsLastExtend (xs ++ ys) k level j → IsLastExtend xs k level j
last-front xs ys k level j within all = record {
  extend = all.extend;
  stands = sym (get-front xs ys j (omega (arith, within, all.before))) ∙ all.stands;
  of_level = all.of_level;
  before = all.before;
  last = λ i other after before is. all.last i other after before (got xs ys i (ExtendRecord other) is);
}

last-all : (xs ys : List Record) (k level j : ℕ) → k ≤ length xs → IsLastExtend xs k level j → IsLastExtend (xs ++ ys) k level j
last-all xs ys k level j within front = record {
  extend = front.extend;
  stands = got xs ys j (ExtendRecord front.extend) front.stands;
  of_level = front.of_level;
  before = front.before;
  last = λ i other after before is. front.last i other after before (sym (get-front xs ys i (omega (arith, before, within))) ∙ is);
}

-- earlier records alone decide which tree is current
pub current-front : (xs ys : List Record) (k level tree : ℕ) → k ≤ length xs → IsCurrent (xs ++ ys) k level tree → IsCurrent xs k level tree
current-front xs ys k zero tree within is = is
current-front xs ys k (suc level) tree within (last, (above, here, there)) =
    let inside : tree ≤ length xs = omega (arith, within, last.before) in
    (last-front xs ys k (suc level) tree within last, (above, current-front xs ys k level above within here, current-front xs ys tree level above inside there))

pub current-all : (xs ys : List Record) (k level tree : ℕ) → k ≤ length xs → IsCurrent xs k level tree → IsCurrent (xs ++ ys) k level tree
current-all xs ys k zero tree within is = is
current-all xs ys k (suc level) tree within (last, (above, here, there)) =
    let inside : tree ≤ length xs = omega (arith, within, last.before) in
    (last-all xs ys k (suc level) tree within last, (above, current-all xs ys k level above within here, current-all xs ys tree level above inside there))

names-all : (secret : Secret) (xs ys : List Record) (k : ℕ) (entry : Record) (tree leaf : ℕ) → k ≤ length xs → Names secret xs k entry tree leaf → Names secret (xs ++ ys) k entry tree leaf
names-all secret xs ys k (KeyRecord key) tree leaf within is = is
names-all secret xs ys k (ExtendRecord extend) tree leaf within (level, is, current, same) = (level, is, current-all xs ys k level tree within current, same)
names-all secret xs ys k (BoundRecord bound) tree leaf within (current, same) = (current-all xs ys k (bottom_of secret) tree within current, same)
names-all secret xs ys k (Retire upto) tree leaf within is = is
names-all secret xs ys k Moved tree leaf within is = is

fits-front : (key : Key) (xs ys : List Record) (k : ℕ) (entry : Record) → k < length xs → Fits key (xs ++ ys) k entry → Fits key xs k entry
fits-front key xs ys k (KeyRecord other) within is = is
fits-front key xs ys k (ExtendRecord extend) within (level, is, low, (tree, current), inside) =
    (level, is, low, (tree, current-front xs ys k level tree (omega (arith, within)) current), inside)
fits-front key xs ys k (BoundRecord bound) within ((tree, current), inside, drawn) =
    ((tree, current-front xs ys k (bottom_of key.secret) tree (omega (arith, within)) current), inside, drawn)
fits-front key xs ys k (Retire upto) within ((tree, current), inside) =
    ((tree, current-front xs ys k (bottom_of key.secret) tree (omega (arith, within)) current), inside)
fits-front key xs ys k Moved within (one, is) = (one, omega (arith, within, is, length-append xs ys))

pub legal_beginning : (xs ys : List Record) → 0 < length xs → IsLegal (xs ++ ys) → IsLegal xs
legal_beginning xs ys some legal =
    let inside : (k : ℕ) (entry : Record) → slice_get xs k ≡ Some entry → k ≤ length xs = λ k entry is. omega (arith, slice_get_within xs k entry is) in record {
      key = legal.key;
      first = sym (get-front xs ys 0 some) ∙ legal.first;
      fits = λ k entry is. fits-front legal.key xs ys k entry (slice_get_within xs k entry is) (legal.fits k entry (got xs ys k entry is));
      identifiers = λ j k a b identifier before is_a is_b. legal.identifiers j k a b identifier before (got xs ys j a is_a) (got xs ys k b is_b);
      names = λ j k a b before is_a is_b. legal.names j k a b before (got xs ys j (BoundRecord a) is_a) (got xs ys k (BoundRecord b) is_b);
      rising = λ j k a b tree leaf later before is_a is_b names_a names_b.
          legal.rising j k a b tree leaf later before (got xs ys j a is_a) (got xs ys k b is_b)
          (names-all legal.key.secret xs ys j a tree leaf (inside j a is_a) names_a) (names-all legal.key.secret xs ys k b tree later (inside k b is_b) names_b);
      retired = λ j k upto b tree leaf before is_a is_b current names_b.
          legal.retired j k upto b tree leaf before (got xs ys j (Retire upto) is_a) (got xs ys k b is_b)
          (current-all xs ys j (bottom_of legal.key.secret) tree (inside j (Retire upto) is_a) current) (names-all legal.key.secret xs ys k b tree leaf (inside k b is_b) names_b);
    }
