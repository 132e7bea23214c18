-- Which leaves are free: the next leaf of a tree, and the deepest level with a free leaf.
use Rattle.std.proofs.Common.{◌≡◌, ◌≢◌, ◌⊎◌, inl, inr, ℕ, zero, suc, ◌+◌, ◌<◌, ◌≤◌, max, Bool, true, false, cond, List, [], ◌∷◌, ◌++◌}
use Rattle.std.proofs.Common.{take, Option, Some, None, refl, sym, ap, ◌∙◌, arith, eqb-true, eq-eqb, ne_eqb, ltb-true, ltb-false, lt-ltb}
use Rattle.std.specs.Prelude.{slice_get, nat_eq, nat_lt, fold, find, reverse}
use Rattle.std.specs.List.{range_with_len}
use Rattle.std.proofs.lemmas.Bool.{cases_lt, cases_eq}
use Rattle.std.proofs.lemmas.Option.{none-some, same_Some}
use Rattle.std.proofs.lemmas.List.{reverse-append}
use Rattle.state_file.specs.declared.record.Record.{Record}
use Rattle.state_file.specs.declared.record.Secret.{Secret}
use Rattle.state_file.specs.Laws.{levels_of}
use Rattle.sign_core.specs.Records.{IsNext, deepest, free_at, next_leaf, reached_number, reached_numbers, reaches}

-- ---- the greatest of a list of numbers

above_least : (least : ℕ) (ns : List ℕ) → least ≤ fold max least ns
above_least least [] = omega arith
above_least least (n ∷ ns) = omega (arith, above_least (max least n) ns)

above_each : (least : ℕ) (ns : List ℕ) (i n : ℕ) → slice_get ns i ≡ Some n → n ≤ fold max least ns
above_each least [] i n at = absurd (none-some n at)
above_each least (first ∷ ns) zero n at = omega (arith, above_least (max least first) ns, same_Some first n at)
above_each least (first ∷ ns) (suc i) n at = above_each (max least first) ns i n at

is_one : (least : ℕ) (ns : List ℕ) → (fold max least ns ≡ least) ⊎ ((i : ℕ) × (slice_get ns i ≡ Some (fold max least ns)))
is_one least [] = inl refl
is_one least (n ∷ ns) = elim (is_one (max least n) ns) [
  | inl most ↦ by (cases_lt least n) most
  | inr (i, at) ↦ inr (suc i, at)
]
  where
    by : (least < n) ⊎ (n ≤ least) → fold max (max least n) ns ≡ max least n
        → (fold max (max least n) ns ≡ least) ⊎ ((i : ℕ) × (slice_get (n ∷ ns) i ≡ Some (fold max (max least n) ns)))
    by (inl below) most = let same : n ≡ fold max (max least n) ns = omega (arith, below, most) in inr (0, ap Some same)
    by (inr within) most = inl (omega (arith, within, most))

-- ---- the next leaf of a tree

pub number_own : (tree n : ℕ) → reached_number tree (Some (tree, n)) ≡ n
number_own tree n = ap (λ b. cond b n 0) (eq-eqb tree tree refl)

pub number_other : (tree other n : ℕ) → other ≢ tree → reached_number tree (Some (other, n)) ≡ 0
number_other tree other n apart = ap (λ b. cond b n 0) (ne_eqb other tree apart)

number_means : (tree n : ℕ) (reached : Option (ℕ × ℕ)) → reached_number tree reached ≡ n → (n ≡ 0) ⊎ (reached ≡ Some (tree, n))
number_means tree n None is = inl (sym is)
number_means tree n (Some (other, m)) is = by (nat_eq other tree) refl is
  where
    by : (same : Bool) → nat_eq other tree ≡ same → cond same m 0 ≡ n → (n ≡ 0) ⊎ (◌≡◌ {A = Option (ℕ × ℕ)} (Some (other, m)) (Some (tree, n)))
    by true same at = let own : other ≡ tree = eqb-true other tree same in inr (λ i. Some (own i, at i))
    by false same at = inl (sym at)

-- the numbers that records reach in a tree, by their places
number_at : (secret : Secret) (all : List Record) (tree k : ℕ) (rest : List Record) (i : ℕ) (entry : Record) → slice_get rest i ≡ Some entry
    → slice_get (reached_numbers secret all tree k rest) i ≡ Some (reached_number tree (reaches secret (take (k + i) all) entry))
number_at secret all tree k [] i entry at = absurd (none-some entry at)
number_at secret all tree k (first ∷ rest) zero entry at =
    let here : k ≡ k + 0 = omega arith in
    λ j. Some (reached_number tree (reaches secret (take (here j) all) (same_Some first entry at j)))
number_at secret all tree k (first ∷ rest) (suc i) entry at =
    let on : k + 1 + i ≡ k + suc i = omega arith in
    number_at secret all tree (k + 1) rest i entry at ∙ ap (λ n. Some (reached_number tree (reaches secret (take n all) entry))) on

at_number : (secret : Secret) (all : List Record) (tree k : ℕ) (rest : List Record) (i n : ℕ)
    → slice_get (reached_numbers secret all tree k rest) i ≡ Some n
    → (entry : Record) × (slice_get rest i ≡ Some entry) × (reached_number tree (reaches secret (take (k + i) all) entry) ≡ n)
at_number secret all tree k [] i n at = absurd (none-some n at)
at_number secret all tree k (first ∷ rest) zero n at =
    let here : k + 0 ≡ k = omega arith in
    (first, refl, ap (λ m. reached_number tree (reaches secret (take m all) first)) here ∙ same_Some (reached_number tree (reaches secret (take k all) first)) n at)
at_number secret all tree k (first ∷ rest) (suc i) n at =
    let on : k + suc i ≡ k + 1 + i = omega arith in
    let (entry, stands, number) = at_number secret all tree (k + 1) rest i n at in
    (entry, stands, ap (λ m. reached_number tree (reaches secret (take m all) entry)) on ∙ number)

next_above : (secret : Secret) (records : List Record) (tree k n : ℕ) (entry : Record) → slice_get records k ≡ Some entry
    → reaches secret (take k records) entry ≡ Some (tree, n) → n ≤ next_leaf secret records tree
next_above secret records tree k n entry at reached =
    let place : 0 + k ≡ k = omega arith in
    let own : reached_number tree (reaches secret (take (0 + k) records) entry) ≡ n =
    ap (λ m. reached_number tree (reaches secret (take m records) entry)) place ∙ ap (reached_number tree) reached ∙ number_own tree n in
    above_each 0 (reached_numbers secret records tree 0 records) k n (number_at secret records tree 0 records k entry at ∙ ap Some own)

abbrev Reached : Secret → List Record → (tree next : ℕ) → Type 0
Reached secret records tree next = (k : ℕ) × (entry : Record) × (slice_get records k ≡ Some entry)
    × (reaches secret (take k records) entry ≡ Some (tree, next))

next_reached : (secret : Secret) (records : List Record) (tree i next : ℕ) → slice_get (reached_numbers secret records tree 0 records) i ≡ Some next
    → (next ≡ 0) ⊎ Reached secret records tree next
next_reached secret records tree i next at =
    let (entry, stands, number) = at_number secret records tree 0 records i next at in
    let place : i ≡ 0 + i = omega arith in
    elim (number_means tree next (reaches secret (take (0 + i) records) entry) number) [
      | inl none ↦ inl none
      | inr reached ↦ inr (i, entry, stands, ap (λ m. reaches secret (take m records) entry) place ∙ reached)
    ]

-- `next_leaf` is the least number above every leaf that is named or retired
pub is_next : (secret : Secret) (records : List Record) (tree : ℕ) → IsNext secret records tree (next_leaf secret records tree)
is_next secret records tree = record {
  above = λ k n entry at reached. next_above secret records tree k n entry at reached;
  least = elim (is_one 0 (reached_numbers secret records tree 0 records)) [
    | inl none ↦ inl none
    | inr (i, at) ↦ next_reached secret records tree i (next_leaf secret records tree) at
  ];
}

-- ---- the deepest level with a free leaf

count_one_more : (a n : ℕ) → range_with_len a (suc n) ≡ range_with_len a n ++ (a + n) ∷ []
count_one_more a zero = let here : a ≡ a + 0 = omega arith in ap (λ m. m ∷ []) here
count_one_more a (suc n) =
    let on : a + 1 + n ≡ a + suc n = omega arith in
    ap (λ l. a ∷ l) (count_one_more (a + 1) n) ∙ ap (λ m. a ∷ range_with_len (a + 1) n ++ m ∷ []) on

find_down : (test : ℕ → Bool) (n : ℕ)
    → find test (reverse (range_with_len 0 (suc n))) ≡ cond (test n) (Some n) (find test (reverse (range_with_len 0 n)))
find_down test n =
    let last : 0 + n ≡ n = omega arith in
    let all : range_with_len 0 (suc n) ≡ range_with_len 0 n ++ n ∷ [] =
    count_one_more 0 n ∙ ap (λ m. range_with_len 0 n ++ m ∷ []) last in
    ap (λ l. find test (reverse l)) all ∙ ap (find test) (reverse-append (range_with_len 0 n) (n ∷ []))

abbrev IsDeepest : (ℕ → Bool) → (n level : ℕ) → Type 0
IsDeepest test n level = (level < n) × (test level ≡ true) × ((below : ℕ) → level < below → below < n → test below ≡ false)

found_down : (test : ℕ → Bool) (n level : ℕ) → find test (reverse (range_with_len 0 n)) ≡ Some level → IsDeepest test n level
found_down test zero level is = absurd (none-some level is)
found_down test (suc n) level is = by (test n) refl (sym (find_down test n) ∙ is) (found_down test n level)
  where
    last : test n ≡ false → ((below : ℕ) → level < below → below < n → test below ≡ false)
        → (below : ℕ) → level < below → below < suc n → test below ≡ false
    last at before below after within = elim (cases_eq below n) [
      | inl same ↦ ap test same ∙ at
      | inr apart ↦ before below after (omega (arith, within, apart))
    ]

    by : (passes : Bool) → test n ≡ passes → cond passes (Some n) (find test (reverse (range_with_len 0 n))) ≡ Some level
        → (find test (reverse (range_with_len 0 n)) ≡ Some level → IsDeepest test n level) → IsDeepest test (suc n) level
    by true at found before =
        let same : n ≡ level = same_Some n level found in
        (omega (arith, same), ap test (sym same) ∙ at, λ below after within. absurd (omega (arith, same, after, within)))
    by false at found before =
        let (within, good, others) = before found in (omega (arith, within), good, last at others)

found_nowhere : (test : ℕ → Bool) (n level : ℕ) → find test (reverse (range_with_len 0 n)) ≡ None → level < n → test level ≡ false
found_nowhere test zero level is within = absurd (omega (arith, within))
found_nowhere test (suc n) level is within = by (test n) refl (sym (find_down test n) ∙ is) (found_nowhere test n level)
  where
    by : (passes : Bool) → test n ≡ passes → cond passes (Some n) (find test (reverse (range_with_len 0 n))) ≡ None
        → (find test (reverse (range_with_len 0 n)) ≡ None → level < n → test level ≡ false) → test level ≡ false
    by true at found before = absurd (none-some n (sym found))
    by false at found before = elim (cases_eq level n) [
      | inl same ↦ ap test same ∙ at
      | inr apart ↦ before found (omega (arith, within, apart))
    ]

found_there : (test : ℕ → Bool) (n level : ℕ) → IsDeepest test n level → find test (reverse (range_with_len 0 n)) ≡ Some level
found_there test zero level (within, good, others) = absurd (omega (arith, within))
found_there test (suc n) level (within, good, others) = find_down test n ∙ elim (cases_eq level n) [
  | inl same ↦
      let here : test n ≡ true = ap test (sym same) ∙ good in
      ap (λ b. cond b (Some n) (find test (reverse (range_with_len 0 n)))) here ∙ ap Some (sym same)
  | inr apart ↦
      let below : level < n = omega (arith, within, apart) in
      let rest : (lower : ℕ) → level < lower → lower < n → test lower ≡ false = λ lower after under. others lower after (omega (arith, under)) in
      ap (λ b. cond b (Some n) (find test (reverse (range_with_len 0 n)))) (others n below (omega arith)) ∙ found_there test n level (below, good, rest)
]

has_none : (n : ℕ) → nat_lt 0 n ≡ false → n ≡ 0
has_none n is = omega (arith, ltb-false 0 n is)

pub deepest_is : (secret : Secret) (records : List Record) (level : ℕ) → deepest secret records ≡ Some level
    → (level < levels_of secret) × (0 < free_at secret records level)
    × ((below : ℕ) → level < below → below < levels_of secret → free_at secret records below ≡ 0)
deepest_is secret records level is =
    let (within, good, others) = found_down (λ l. nat_lt 0 (free_at secret records l)) (levels_of secret) level is in (
      within,
      ltb-true 0 (free_at secret records level) good,
      λ below after under. has_none (free_at secret records below) (others below after under),
    )

pub is_deepest : (secret : Secret) (records : List Record) (level : ℕ) → level < levels_of secret → 0 < free_at secret records level
    → ((below : ℕ) → level < below → below < levels_of secret → free_at secret records below ≡ 0) → deepest secret records ≡ Some level
is_deepest secret records level within free others =
    let none : (below : ℕ) → level < below → below < levels_of secret → nat_lt 0 (free_at secret records below) ≡ false =
    λ below after under. ap (nat_lt 0) (others below after under) in
    found_there (λ l. nat_lt 0 (free_at secret records l)) (levels_of secret) level (within, lt-ltb 0 (free_at secret records level) free, none)

pub none_free : (secret : Secret) (records : List Record) → deepest secret records ≡ None
    → (level : ℕ) → level < levels_of secret → free_at secret records level ≡ 0
none_free secret records is level within =
    has_none (free_at secret records level) (found_nowhere (λ l. nat_lt 0 (free_at secret records l)) (levels_of secret) level is within)
