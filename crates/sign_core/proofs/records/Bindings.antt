-- Which names are bound and which I's the records have, and what one more record changes.
use Rattle.std.proofs.Common.{◌≡◌, ◌≢◌, ◌⊎◌, inl, inr, ℕ, zero, suc, ◌+◌, ◌<◌, Bool, true, false, cond, ◌||◌, List, [], ◌∷◌, ◌++◌}
use Rattle.std.proofs.Common.{length, Option, Some, None, refl, sym, ap, subst, ◌∙◌, arith, true≢false}
use Rattle.std.specs.Prelude.{slice_get, find, is_some, if◌then◌else◌}
use Rattle.std.specs.Option.{option_map_or, option_or}
use Rattle.std.specs.Cmp.Lexicographic.{bytes_decides}
use Rattle.std.proofs.lemmas.Option.{none-some, same_Some, cond_some, some_pair_parts}
use Rattle.std.proofs.lemmas.List.Folds.{find-append}
use Rattle.state_file.specs.declared.record.Bound.{Bound}
use Rattle.state_file.specs.declared.record.Record.{Record}
use Rattle.state_file.specs.declared.record.Record.TheVariants.{Key as KeyRecord, Extend as ExtendRecord, Bound as BoundRecord, Retire, Moved}
use Rattle.state_file.specs.Laws.{identifier_of}
use Rattle.sign_core.specs.Records.{are_same, binding_at, first_binding, has_identifier}

-- ---- names

-- the binding of a name that a record makes
abbrev pub binds : (name : List ℕ) → Record → Option Bound
binds name (BoundRecord bound) = if are_same bound.name name then Some bound else None
binds name _ = None

-- a name's binding with its place: the record at place k's, or else a later one
abbrev or_later : (k : ℕ) → Option Bound → Option (ℕ × Bound) → Option (ℕ × Bound)
or_later k (Some bound) later = Some (k, bound)
or_later k None later = later

bound_first : (name : List ℕ) (k : ℕ) (entry : Record) (rest : List Record)
    → first_binding name k (entry ∷ rest) ≡ or_later k (binds name entry) (first_binding name (k + 1) rest)
bound_first name k (KeyRecord key) rest = refl
bound_first name k (ExtendRecord extend) rest = refl
bound_first name k (BoundRecord bound) rest = by (are_same bound.name name)
  where
    by : (same : Bool) → (if same then Some (k, bound) else first_binding name (k + 1) rest)
        ≡ or_later k (if same then Some bound else None) (first_binding name (k + 1) rest)
    by true = refl
    by false = refl
bound_first name k (Retire upto) rest = refl
bound_first name k Moved rest = refl

binds_means : (name : List ℕ) (entry : Record) (bound : Bound) → binds name entry ≡ Some bound → (entry ≡ BoundRecord bound) × (bound.name ≡ name)
binds_means name (KeyRecord key) bound is = absurd (none-some bound is)
binds_means name (ExtendRecord extend) bound is = absurd (none-some bound is)
binds_means name (BoundRecord other) bound is =
    let (same, at) = cond_some (are_same other.name name) other bound is in
    (ap BoundRecord at, subst (λ b. b.name ≡ name) at ((bytes_decides other.name name).0 same))
binds_means name (Retire upto) bound is = absurd (none-some bound is)
binds_means name Moved bound is = absurd (none-some bound is)

pub binds_own : (bound : Bound) (name : List ℕ) → bound.name ≡ name → binds name (BoundRecord bound) ≡ Some bound
binds_own bound name same = ap (λ b. cond b (Some bound) None) ((bytes_decides bound.name name).1 same)

binds_not : (name : List ℕ) (entry : Record) (other : Bound) → binds name entry ≡ None → entry ≡ BoundRecord other → other.name ≢ name
binds_not name entry other none same named =
    none-some other (sym none ∙ ap (binds name) same ∙ binds_own other name named)

abbrev NoneBinds : List ℕ → List Record → Type 0
NoneBinds name entries = (i : ℕ) (other : Bound) → slice_get entries i ≡ Some (BoundRecord other) → other.name ≢ name

-- in entries from place k on, the first Bound of a name has place j
record BoundAt (name : List ℕ) (k : ℕ) (entries : List Record) (j : ℕ) (bound : Bound) : Type 0 where
  at : ℕ
  place : k + at ≡ j
  stands : slice_get entries at ≡ Some (BoundRecord bound)
  named : bound.name ≡ name
  first : (i : ℕ) (other : Bound) → i < at → slice_get entries i ≡ Some (BoundRecord other) → other.name ≢ name

abbrev FoundBinding : List ℕ → ℕ → List Record → Type 0
FoundBinding name k entries = ((j : ℕ) × (bound : Bound) × (first_binding name k entries ≡ Some (j, bound)) × BoundAt name k entries j bound)
    ⊎ ((first_binding name k entries ≡ None) × NoneBinds name entries)

bound_here : (name : List ℕ) (k : ℕ) (entry : Record) (rest : List Record) (bound : Bound) → binds name entry ≡ Some bound
    → BoundAt name k (entry ∷ rest) k bound
bound_here name k entry rest bound is =
    let (same, named) = binds_means name entry bound is in record {
      at = 0;
      place = omega arith;
      stands = ap Some same;
      named = named;
      first = λ i other before at. absurd (omega (arith, before));
    }

bound_later : (name : List ℕ) (k j : ℕ) (entry : Record) (rest : List Record) (bound : Bound) → binds name entry ≡ None → BoundAt name (k + 1) rest j bound
    → BoundAt name k (entry ∷ rest) j bound
bound_later name k j entry rest bound none later = record {
  at = suc later.at;
  place = omega (arith, later.place);
  stands = later.stands;
  named = later.named;
  first = λ i other before is. before_it i other before is;
}
  where
    before_it : (i : ℕ) (other : Bound) → i < suc later.at → slice_get (entry ∷ rest) i ≡ Some (BoundRecord other) → other.name ≢ name
    before_it zero other before is = binds_not name entry other none (same_Some entry (BoundRecord other) is)
    before_it (suc i) other before is = later.first i other (omega (arith, before)) is

none_first : (name : List ℕ) (entry : Record) (rest : List Record) → binds name entry ≡ None → NoneBinds name rest → NoneBinds name (entry ∷ rest)
none_first name entry rest first none zero other is = binds_not name entry other first (same_Some entry (BoundRecord other) is)
none_first name entry rest first none (suc i) other is = none i other is

found_binding_first : (name : List ℕ) (k : ℕ) (entry : Record) (rest : List Record) (own : Option Bound) → binds name entry ≡ own → FoundBinding name (k + 1) rest
    → FoundBinding name k (entry ∷ rest)
found_binding_first name k entry rest (Some bound) is later =
    inl (k, bound, bound_first name k entry rest ∙ ap (λ o. or_later k o (first_binding name (k + 1) rest)) is, bound_here name k entry rest bound is)
found_binding_first name k entry rest None is (inl (j, bound, at, later)) =
    inl (j, bound, bound_first name k entry rest ∙ ap (λ o. or_later k o (first_binding name (k + 1) rest)) is ∙ at, bound_later name k j entry rest bound is later)
found_binding_first name k entry rest None is (inr (at, none)) =
    inr (bound_first name k entry rest ∙ ap (λ o. or_later k o (first_binding name (k + 1) rest)) is ∙ at, none_first name entry rest is none)

found_binding : (name : List ℕ) (k : ℕ) (entries : List Record) → FoundBinding name k entries
found_binding name k [] = inr (refl, λ i other is. absurd (none-some (BoundRecord other) is))
found_binding name k (entry ∷ rest) = found_binding_first name k entry rest (binds name entry) refl (found_binding name (k + 1) rest)

-- the binding that is found is the first of its name
pub binding_stands : (records : List Record) (name : List ℕ) (k : ℕ) (bound : Bound) → binding_at records name ≡ Some (k, bound)
    → (slice_get records k ≡ Some (BoundRecord bound)) × (bound.name ≡ name)
    × ((i : ℕ) (other : Bound) → i < k → slice_get records i ≡ Some (BoundRecord other) → other.name ≢ name)
binding_stands records name k bound is = elim (found_binding name 0 records) [
  | inl (j, own, at, found) ↦
      let (same_place, same) = some_pair_parts j k own bound (sym at ∙ is) in
      let place : found.at ≡ k = omega (arith, found.place, same_place) in (
        ap (slice_get records) (sym place) ∙ found.stands ∙ ap (λ b. Some (BoundRecord b)) same,
        subst (λ b. b.name ≡ name) same found.named,
        λ i other before stands. found.first i other (omega (arith, before, place)) stands,
      )
  | inr (at, none) ↦ absurd (none-some (k, bound) (sym at ∙ is))
]

-- a name with no binding is in no Bound
pub unbound : (records : List Record) (name : List ℕ) (k : ℕ) (bound : Bound) → binding_at records name ≡ None
    → slice_get records k ≡ Some (BoundRecord bound) → bound.name ≢ name
unbound records name k bound is stands = elim (found_binding name 0 records) [
  | inl (j, own, at, found) ↦ absurd (none-some (j, own) (sym is ∙ at))
  | inr (at, none) ↦ none k bound stands
]

-- a name in no Bound has no binding
pub not_bound : (records : List Record) (name : List ℕ) → ((k : ℕ) (bound : Bound) → slice_get records k ≡ Some (BoundRecord bound) → bound.name ≢ name)
    → binding_at records name ≡ None
not_bound records name none = elim (found_binding name 0 records) [
  | inl (j, own, at, found) ↦ absurd (none found.at own found.stands found.named)
  | inr (at, nowhere) ↦ at
]

-- ---- one more record

bound_append : (name : List ℕ) (k : ℕ) (xs ys : List Record)
    → first_binding name k (xs ++ ys) ≡ option_or (first_binding name k xs) (first_binding name (k + length xs) ys)
bound_append name k [] ys = let here : k ≡ k + 0 = omega arith in ap (λ n. first_binding name n ys) here
bound_append name k (entry ∷ xs) ys =
    let on : k + 1 + length xs ≡ k + suc (length xs) = omega arith in
    bound_first name k entry (xs ++ ys)
    ∙ by (binds name entry) (bound_append name (k + 1) xs ys ∙ ap (λ n. option_or (first_binding name (k + 1) xs) (first_binding name n ys)) on)
    ∙ sym (ap (λ o. option_or o (first_binding name (k + suc (length xs)) ys)) (bound_first name k entry xs))
  where
    by : (own : Option Bound)
        → first_binding name (k + 1) (xs ++ ys) ≡ option_or (first_binding name (k + 1) xs) (first_binding name (k + suc (length xs)) ys)
        → or_later k own (first_binding name (k + 1) (xs ++ ys))
        ≡ option_or (or_later k own (first_binding name (k + 1) xs)) (first_binding name (k + suc (length xs)) ys)
    by (Some bound) rest = refl
    by None rest = rest

pub binding_appended : (records : List Record) (entry : Record) (name : List ℕ)
    → binding_at (records ++ entry ∷ []) name ≡ option_or (binding_at records name) (or_later (length records) (binds name entry) None)
binding_appended records entry name =
    let place : 0 + length records ≡ length records = omega arith in
    bound_append name 0 records (entry ∷ [])
    ∙ ap (λ n. option_or (binding_at records name) (first_binding name n (entry ∷ []))) place
    ∙ ap (option_or (binding_at records name)) (bound_first name (length records) entry [])

pub binding_stays : (records more : List Record) (name : List ℕ) (found : ℕ × Bound) → binding_at records name ≡ Some found
    → binding_at (records ++ more) name ≡ Some found
binding_stays records more name found is =
    bound_append name 0 records more ∙ ap (λ o. option_or o (first_binding name (0 + length records) more)) is

pub binding_new : (records : List Record) (bound : Bound) → binding_at records bound.name ≡ None
    → binding_at (records ++ BoundRecord bound ∷ []) bound.name ≡ Some (length records, bound)
binding_new records bound free =
    binding_appended records (BoundRecord bound) bound.name
    ∙ (λ i. option_or (free i) (or_later (length records) (binds_own bound bound.name refl i) None))

-- a record that doesn't bind a name leaves its binding
pub binding_other : (records : List Record) (entry : Record) (name : List ℕ) → binds name entry ≡ None
    → binding_at (records ++ entry ∷ []) name ≡ binding_at records name
binding_other records entry name none =
    binding_appended records entry name ∙ ap (λ o. option_or (binding_at records name) (or_later (length records) o None)) none
    ∙ same (binding_at records name)
  where
    same : (o : Option (ℕ × Bound)) → option_or o None ≡ o
    same None = refl
    same (Some found) = refl

-- ---- identifiers

abbrev pub is_of : (identifier : List ℕ) → Option (List ℕ) → Bool
is_of identifier other = option_map_or (λ own. are_same own identifier) other false

is_of_own : (identifier : List ℕ) (other : Option (List ℕ)) → other ≡ Some identifier → is_of identifier other ≡ true
is_of_own identifier other same = ap (is_of identifier) same ∙ (bytes_decides identifier identifier).1 refl

of_own : (identifier : List ℕ) (other : Option (List ℕ)) → is_of identifier other ≡ true → other ≡ Some identifier
of_own identifier None is = absurd (true≢false (sym is))
of_own identifier (Some other) is = ap Some ((bytes_decides other identifier).0 is)

found_at : {A : Type 0} (test : A → Bool) (xs : List A) → is_some (find test xs) ≡ true → (k : ℕ) × (x : A) × (slice_get xs k ≡ Some x) × (test x ≡ true)
found_at test [] is = absurd (true≢false (sym is))
found_at {A = A} test (x ∷ xs) is = by (test x) refl is (found_at test xs)
  where
    by : (passes : Bool) → test x ≡ passes → is_some (cond passes (Some x) (find test xs)) ≡ true
        → (is_some (find test xs) ≡ true → (k : ℕ) × (y : A) × (slice_get xs k ≡ Some y) × (test y ≡ true))
        → (k : ℕ) × (y : A) × (slice_get (x ∷ xs) k ≡ Some y) × (test y ≡ true)
    by true passes found later = (0, x, refl, passes)
    by false passes found later = let (k, y, at, good) = later found in (suc k, y, at, good)

at_found : {A : Type 0} (test : A → Bool) (xs : List A) (k : ℕ) (x : A) → slice_get xs k ≡ Some x → test x ≡ true → is_some (find test xs) ≡ true
at_found test [] k x at good = absurd (none-some x at)
at_found test (first ∷ xs) zero x at good =
    let passes : test first ≡ true = ap test (same_Some first x at) ∙ good in ap (λ b. is_some (cond b (Some first) (find test xs))) passes
at_found test (first ∷ xs) (suc k) x at good = by (test first) (at_found test xs k x at good)
  where
    by : (b : Bool) → is_some (find test xs) ≡ true → is_some (cond b (Some first) (find test xs)) ≡ true
    by true rest = refl
    by false rest = rest

pub identifier_stands : (records : List Record) (identifier : List ℕ) → has_identifier records identifier ≡ true
    → (k : ℕ) × (entry : Record) × (slice_get records k ≡ Some entry) × (identifier_of entry ≡ Some identifier)
identifier_stands records identifier has =
    let (k, entry, at, own) = found_at (λ entry. is_of identifier (identifier_of entry)) records has in
    (k, entry, at, of_own identifier (identifier_of entry) own)

pub stands_identifier : (records : List Record) (identifier : List ℕ) (k : ℕ) (entry : Record) → slice_get records k ≡ Some entry
    → identifier_of entry ≡ Some identifier → has_identifier records identifier ≡ true
stands_identifier records identifier k entry at own =
    at_found (λ entry. is_of identifier (identifier_of entry)) records k entry at (is_of_own identifier (identifier_of entry) own)

pub identifier_appended : (records : List Record) (entry : Record) (identifier : List ℕ)
    → has_identifier (records ++ entry ∷ []) identifier ≡ (has_identifier records identifier || is_of identifier (identifier_of entry))
identifier_appended records entry identifier =
    ap is_some (find-append (λ e. is_of identifier (identifier_of e)) records (entry ∷ []))
    ∙ by (find (λ e. is_of identifier (identifier_of e)) records) (is_of identifier (identifier_of entry))
  where
    by : (o : Option Record) (own : Bool) → is_some (option_or o (cond own (Some entry) None)) ≡ (is_some o || own)
    by (Some found) own = refl
    by None true = refl
    by None false = refl
