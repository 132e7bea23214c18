-- What one more record changes in current trees, their next leaves and the deepest level with a free leaf.
use Rattle.std.proofs.Common.{◌≡◌, ◌⊎◌, inl, inr, ℕ, zero, suc, ◌+◌, ◌-◌, ◌<◌, ◌≤◌, max, true, false, cond, List, [], ◌∷◌, ◌++◌}
use Rattle.std.proofs.Common.{length, take, Option, Some, None, refl, sym, ap, subst, ◌∙◌, arith, eq-eqb, ne_eqb, pow_pos}
use Rattle.std.specs.Prelude.{fold, is_some}
use Rattle.std.proofs.lemmas.Bool.{cases_eq, false_from_ne_true}
use Rattle.std.proofs.lemmas.Option.{none-some, same_Some, cond_some, slice_get_within, some_pair_parts}
use Rattle.std.proofs.lemmas.List.{length-take-le, take-append-le, take_at, length_push}
use Rattle.std.proofs.lemmas.List.Sums.{fold-append}
use Rattle.typecodes.specs.declared.types.LmsPair.{LmsPair}
use Rattle.typecodes.specs.Types.{height_of, xmss_height_of}
use Rattle.state_file.specs.declared.record.Extend.{Extend}
use Rattle.state_file.specs.declared.record.Record.{Record}
use Rattle.state_file.specs.declared.record.Record.TheVariants.{Key as KeyRecord, Extend as ExtendRecord, Bound as BoundRecord, Retire, Moved}
use Rattle.state_file.specs.declared.record.Secret.{Secret}
use Rattle.state_file.specs.declared.record.Secret.TheVariants.{Lms, Hss, Xmss}
use Rattle.state_file.specs.Laws.{bottom_of, leaves_at, tree_leaves_at, levels_of}
use Rattle.sign_core.specs.Records.{current, deepest, free_at, in_tree, last_extend, makes, next_at, next_leaf, reached_number}
use Rattle.sign_core.proofs.records.Parts.{next_of}
use Rattle.sign_core.specs.Records.{reached_numbers, reaches, same_tree, under}
use Rattle.sign_core.proofs.records.CurrentTrees.{current_is, last_is, same_means, tell_same}
use Rattle.sign_core.proofs.records.FreeLeaves.{is_deepest, is_next, number_own}

-- ---- current trees

-- the last Extend of a level is the new record, if it is one, and else the one before
last_push : (level k : ℕ) (found : Option ℕ) (records : List Record) (entry : Record)
    → last_extend level k found (records ++ entry ∷ []) ≡ cond (makes level entry) (Some (k + length records)) (last_extend level k found records)
last_push level k found [] entry = let here : k ≡ k + 0 = omega arith in ap (λ n. cond (makes level entry) (Some n) found) here
last_push level k found (first ∷ rest) entry =
    let on : k + 1 + length rest ≡ k + suc (length rest) = omega arith in
    last_push level (k + 1) (cond (makes level first) (Some k) found) rest entry
    ∙ ap (λ n. cond (makes level entry) (Some n) (last_extend level (k + 1) (cond (makes level first) (Some k) found) rest)) on

last_same : (level : ℕ) (records : List Record) (entry : Record) → makes level entry ≡ false
    → last_extend level 0 None (records ++ entry ∷ []) ≡ last_extend level 0 None records
last_same level records entry none =
    last_push level 0 None records entry ∙ ap (λ b. cond b (Some (0 + length records)) (last_extend level 0 None records)) none

last_new : (level : ℕ) (records : List Record) (entry : Record) → makes level entry ≡ true
    → last_extend level 0 None (records ++ entry ∷ []) ≡ Some (length records)
last_new level records entry made =
    let place : 0 + length records ≡ length records = omega arith in
    last_push level 0 None records entry ∙ ap (λ b. cond b (Some (0 + length records)) (last_extend level 0 None records)) made ∙ ap Some place

under_same : (above : List Record → Option ℕ) (records : List Record) (entry : Record) (found : Option ℕ)
    → ((j : ℕ) → found ≡ Some j → j ≤ length records) → above (records ++ entry ∷ []) ≡ above records
    → under above (records ++ entry ∷ []) found ≡ under above records found
under_same above records entry None within same = refl
under_same above records entry (Some j) within same =
    let front : take j (records ++ entry ∷ []) ≡ take j records = take-append-le j records (entry ∷ []) (within j refl) in
    λ i. cond (same_tree (above (front i)) (same i)) (Some j) None

last_within : (level : ℕ) (records : List Record) (j : ℕ) → last_extend level 0 None records ≡ Some j → j < length records
last_within level records j found = (last_is level records j found).before

-- A record that makes no tree at a level or above it leaves the level's tree current.
pub current_kept : (level : ℕ) (records : List Record) (entry : Record) → ((l : ℕ) → 0 < l → l ≤ level → makes l entry ≡ false)
    → current level (records ++ entry ∷ []) ≡ current level records
current_kept zero records entry none = refl
current_kept (suc level) records entry none =
    let above : current level (records ++ entry ∷ []) ≡ current level records =
    current_kept level records entry (λ l low high. none l low (omega (arith, high))) in
    let within : (j : ℕ) → last_extend (suc level) 0 None records ≡ Some j → j ≤ length records =
    λ j found. let below : j < length records = last_within (suc level) records j found in omega (arith, below) in
    ap (under (current level) (records ++ entry ∷ [])) (last_same (suc level) records entry (none (suc level) (omega arith) (omega arith)))
    ∙ under_same (current level) records entry (last_extend (suc level) 0 None records) within above

makes_not : (extend : Extend) (level l : ℕ) → extend.level ≡ suc level → l ≤ level → makes l (ExtendRecord extend) ≡ false
makes_not extend level l of within = ne_eqb extend.level l (λ same. omega (arith, of, within, same))

-- the level above an Extend's tree stays as it was
pub current_above : (level l : ℕ) (records : List Record) (extend : Extend) → extend.level ≡ suc level → l ≤ level
    → current l (records ++ ExtendRecord extend ∷ []) ≡ current l records
current_above level l records extend of within =
    current_kept l records (ExtendRecord extend) (λ m low high. makes_not extend level m of (omega (arith, high, within)))

-- an Extend under a current tree makes the current tree of its level
pub current_new : (level above : ℕ) (records : List Record) (extend : Extend) → extend.level ≡ suc level → current level records ≡ Some above
    → current (suc level) (records ++ ExtendRecord extend ∷ []) ≡ Some (length records)
current_new level above records extend of parent =
    let made : makes (suc level) (ExtendRecord extend) ≡ true = eq-eqb extend.level (suc level) of in
    let front : take (length records) (records ++ ExtendRecord extend ∷ []) ≡ records =
    take_at records (ExtendRecord extend ∷ []) (length records) refl in
    let there : current level (take (length records) (records ++ ExtendRecord extend ∷ [])) ≡ Some above = ap (current level) front ∙ parent in
    let here : current level (records ++ ExtendRecord extend ∷ []) ≡ Some above = current_above level level records extend of (omega arith) ∙ parent in
    ap (under (current level) (records ++ ExtendRecord extend ∷ [])) (last_new (suc level) records (ExtendRecord extend) made)
    ∙ ap (λ b. cond b (Some (length records)) None)
    (tell_same (current level (take (length records) (records ++ ExtendRecord extend ∷ [])))
    (current level (records ++ ExtendRecord extend ∷ [])) above there here)

under_none : (above : List Record → Option ℕ) (records : List Record) (found : Option ℕ) → above records ≡ None → under above records found ≡ None
under_none above records None none = refl
under_none above records (Some j) none =
    ap (λ o. cond (same_tree (above (take j records)) o) (Some j) None) none ∙ apart (above (take j records))
  where
    apart : (o : Option ℕ) → cond (same_tree o None) (Some j) None ≡ None
    apart None = refl
    apart (Some tree) = refl

-- the new tree is the only one that can be current at its level
new_alone : (level tree : ℕ) (records : List Record) (extend : Extend) → extend.level ≡ suc level
    → current (suc level) (records ++ ExtendRecord extend ∷ []) ≡ Some tree → length records ≡ tree
new_alone level tree records extend of is =
    let made : makes (suc level) (ExtendRecord extend) ≡ true = eq-eqb extend.level (suc level) of in
    let found : under (current level) (records ++ ExtendRecord extend ∷ []) (Some (length records)) ≡ Some tree =
    ap (under (current level) (records ++ ExtendRecord extend ∷ [])) (sym (last_new (suc level) records (ExtendRecord extend) made)) ∙ is in
    let (same, at) = cond_some
    (same_tree (current level (take (length records) (records ++ ExtendRecord extend ∷ []))) (current level (records ++ ExtendRecord extend ∷ [])))
    (length records) tree found in
    at

-- an older Extend isn't under the new tree
older_apart : (level : ℕ) (records : List Record) (extend : Extend) → extend.level ≡ suc level → (found : Option ℕ)
    → ((j : ℕ) → found ≡ Some j → j < length records) → under (current (suc level)) (records ++ ExtendRecord extend ∷ []) found ≡ None
older_apart level records extend of None within = refl
older_apart level records extend of (Some j) within =
    let below : j < length records = within j refl in
    let long : length (take j (records ++ ExtendRecord extend ∷ [])) ≡ j =
    length-take-le j (records ++ ExtendRecord extend ∷ []) (omega (arith, below, length_push records (ExtendRecord extend))) in
    ap (λ b. cond b (Some j) None) (false_from_ne_true
    (same_tree (current (suc level) (take j (records ++ ExtendRecord extend ∷ []))) (current (suc level) (records ++ ExtendRecord extend ∷ [])))
    (λ same.
    let (tree, there, here) = same_means (current (suc level) (take j (records ++ ExtendRecord extend ∷ [])))
    (current (suc level) (records ++ ExtendRecord extend ∷ [])) same in
    let new : length records ≡ tree = new_alone level tree records extend of here in
    let (last, parent) = current_is (suc level) (take j (records ++ ExtendRecord extend ∷ [])) tree there in
    omega (arith, below, long, new, last.before)))

-- below an Extend's level no tree is current
pub current_cut : (level lower : ℕ) (records : List Record) (extend : Extend) → extend.level ≡ suc level → suc level < lower
    → current lower (records ++ ExtendRecord extend ∷ []) ≡ None
current_cut level zero records extend of below = absurd (omega (arith, below))
current_cut level (suc lower) records extend of below = elim (cases_eq lower (suc level)) [
  | inl same ↦ subst (λ n. current (suc n) (records ++ ExtendRecord extend ∷ []) ≡ None) (sym same)
      (let none : makes (suc (suc level)) (ExtendRecord extend) ≡ false =
      ne_eqb extend.level (suc (suc level)) (λ is. omega (arith, of, is)) in
      ap (under (current (suc level)) (records ++ ExtendRecord extend ∷ [])) (last_same (suc (suc level)) records (ExtendRecord extend) none)
      ∙ older_apart level records extend of (last_extend (suc (suc level)) 0 None records)
      (λ j found. last_within (suc (suc level)) records j found))
  | inr apart ↦
      under_none (current lower) (records ++ ExtendRecord extend ∷ []) (last_extend (suc lower) 0 None (records ++ ExtendRecord extend ∷ []))
      (current_cut level lower records extend of (omega (arith, below, apart)))
]

-- ---- next leaves

numbers_append : (secret : Secret) (all : List Record) (tree k : ℕ) (xs ys : List Record)
    → reached_numbers secret all tree k (xs ++ ys) ≡ reached_numbers secret all tree k xs ++ reached_numbers secret all tree (k + length xs) ys
numbers_append secret all tree k [] ys = let here : k ≡ k + 0 = omega arith in ap (λ n. reached_numbers secret all tree n ys) here
numbers_append secret all tree k (first ∷ xs) ys =
    let on : k + 1 + length xs ≡ k + suc (length xs) = omega arith in
    ap (λ l. reached_number tree (reaches secret (take k all) first) ∷ l)
    (numbers_append secret all tree (k + 1) xs ys
    ∙ ap (λ n. reached_numbers secret all tree (k + 1) xs ++ reached_numbers secret all tree n ys) on)

numbers_front : (secret : Secret) (records more : List Record) (tree k : ℕ) (rest : List Record) → k + length rest ≤ length records
    → reached_numbers secret (records ++ more) tree k rest ≡ reached_numbers secret records tree k rest
numbers_front secret records more tree k [] within = refl
numbers_front secret records more tree k (first ∷ rest) within =
    let same : take k (records ++ more) ≡ take k records = take-append-le k records more (omega (arith, within)) in
    let others = numbers_front secret records more tree (k + 1) rest (omega (arith, within)) in
    λ i. reached_number tree (reaches secret (same i) first) ∷ others i

pub next_appended : (secret : Secret) (records : List Record) (entry : Record) (tree : ℕ)
    → next_leaf secret (records ++ entry ∷ []) tree ≡ max (next_leaf secret records tree) (reached_number tree (reaches secret records entry))
next_appended secret records entry tree =
    let place : 0 + length records ≡ length records = omega arith in
    let whole : take (length records) (records ++ entry ∷ []) ≡ records = take_at records (entry ∷ []) (length records) refl in
    let front : reached_numbers secret (records ++ entry ∷ []) tree 0 records ≡ reached_numbers secret records tree 0 records =
    numbers_front secret records (entry ∷ []) tree 0 records (omega arith) in
    ap (fold max 0) (numbers_append secret (records ++ entry ∷ []) tree 0 records (entry ∷ []))
    ∙ ap (λ n. fold max 0 (reached_numbers secret (records ++ entry ∷ []) tree 0 records
    ++ reached_numbers secret (records ++ entry ∷ []) tree n (entry ∷ []))) place
    ∙ (λ i. fold max 0 (front i ++ reached_number tree (reaches secret (whole i) entry) ∷ []))
    ∙ fold-append max 0 (reached_numbers secret records tree 0 records) (reached_number tree (reaches secret records entry) ∷ [])

in_tree_is : (found : Option ℕ) (m tree n : ℕ) → in_tree found m ≡ Some (tree, n) → found ≡ Some tree
in_tree_is None m tree n is = absurd (none-some (tree, n) is)
in_tree_is (Some other) m tree n is = let (same, number) = some_pair_parts other tree m n is in ap Some same

current_at : (level tree : ℕ) (before : List Record) → current level before ≡ Some tree → (tree ≡ 0) ⊎ (tree < length before)
current_at zero tree before is = inl (sym (same_Some 0 tree is))
current_at (suc level) tree before is = let (last, parent) = current_is (suc level) before tree is in inr last.before

-- a record reaches a number in a tree that was made before it
reach_before : (secret : Secret) (before : List Record) (entry : Record) (tree n : ℕ) → reaches secret before entry ≡ Some (tree, n)
    → (tree ≡ 0) ⊎ (tree < length before)
reach_before secret before (KeyRecord key) tree n is = absurd (none-some (tree, n) is)
reach_before secret before (ExtendRecord extend) tree n is =
    current_at (extend.level - 1) tree before (in_tree_is (current (extend.level - 1) before) (extend.parent_leaf + 1) tree n is)
reach_before secret before (BoundRecord bound) tree n is =
    current_at (bottom_of secret) tree before (in_tree_is (current (bottom_of secret) before) (bound.leaf + 1) tree n is)
reach_before secret before (Retire upto) tree n is =
    current_at (bottom_of secret) tree before (in_tree_is (current (bottom_of secret) before) upto tree n is)
reach_before secret before Moved tree n is = absurd (none-some (tree, n) is)

-- no record reaches a number in a tree that stands at the list's end or isn't made yet
pub next_unmade : (secret : Secret) (records : List Record) (tree : ℕ) → 0 < tree → length records ≤ tree + 1 → next_leaf secret records tree ≡ 0
next_unmade secret records tree some at_end = elim ((is_next secret records tree).least) [
  | inl none ↦ none
  | inr (k, entry, at, reached) ↦
      let within : k < length records = slice_get_within records k entry at in
      let long : length (take k records) ≡ k = length-take-le k records (omega (arith, within)) in
      absurd (elim (reach_before secret (take k records) entry tree (next_leaf secret records tree) reached) [
        | inl first ↦ omega (arith, some, first)
        | inr before ↦ omega (arith, before, long, within, at_end)
      ])
]

-- the tree that a new record makes has no leaf that is named
pub next_new : (secret : Secret) (records : List Record) (entry : Record) → 0 < length records
    → next_leaf secret (records ++ entry ∷ []) (length records) ≡ 0
next_new secret records entry some =
    next_unmade secret (records ++ entry ∷ []) (length records) some (omega (arith, length_push records entry))

pub next_kept : (secret : Secret) (records : List Record) (entry : Record) (tree : ℕ) → reached_number tree (reaches secret records entry) ≡ 0
    → next_leaf secret (records ++ entry ∷ []) tree ≡ next_leaf secret records tree
next_kept secret records entry tree none = omega (arith, next_appended secret records entry tree, none)

pub next_raised : (secret : Secret) (records : List Record) (entry : Record) (tree n : ℕ) → reaches secret records entry ≡ Some (tree, n)
    → next_leaf secret (records ++ entry ∷ []) tree ≡ max (next_leaf secret records tree) n
next_raised secret records entry tree n reached =
    next_appended secret records entry tree
    ∙ ap (max (next_leaf secret records tree)) (ap (reached_number tree) reached ∙ number_own tree n)

-- ---- next leaves of levels

pub next_at_tree : (secret : Secret) (records : List Record) (level tree : ℕ) → current level records ≡ Some tree
    → next_at secret records level ≡ next_leaf secret records tree
next_at_tree secret records level tree is = ap (next_of secret records) is

pub next_at_none : (secret : Secret) (records : List Record) (level : ℕ) → current level records ≡ None → next_at secret records level ≡ 0
next_at_none secret records level is = ap (next_of secret records) is

-- ---- free leaves

pub free_at_tree : (secret : Secret) (records : List Record) (level tree : ℕ) → current level records ≡ Some tree
    → free_at secret records level ≡ leaves_at secret level - next_leaf secret records tree
free_at_tree secret records level tree is = ap (λ o. cond (is_some o) (leaves_at secret level - next_of secret records o) 0) is

pub free_at_none : (secret : Secret) (records : List Record) (level : ℕ) → current level records ≡ None → free_at secret records level ≡ 0
free_at_none secret records level is = ap (λ o. cond (is_some o) (leaves_at secret level - next_of secret records o) 0) is

some_leaves_in : (levels : List LmsPair) (level : ℕ) → level < length levels → 0 < tree_leaves_at levels level
some_leaves_in [] level within = absurd (omega (arith, within))
some_leaves_in (pair ∷ rest) zero within = pow_pos (height_of pair.tree)
some_leaves_in (pair ∷ rest) (suc level) within = some_leaves_in rest level (omega (arith, within))

pub some_leaves : (secret : Secret) (level : ℕ) → level < levels_of secret → 0 < leaves_at secret level
some_leaves (Lms secret) level within = pow_pos (height_of secret.pair.tree)
some_leaves (Hss levels identifier seed) level within = some_leaves_in levels level within
some_leaves (Xmss secret) level within = pow_pos (xmss_height_of secret.tree)

-- after an Extend under a current tree the deepest level with a free leaf is its own
pub deepest_new : (secret : Secret) (level above : ℕ) (records : List Record) (extend : Extend) → 0 < length records → extend.level ≡ suc level
    → suc level < levels_of secret → current level records ≡ Some above → deepest secret (records ++ ExtendRecord extend ∷ []) ≡ Some (suc level)
deepest_new secret level above records extend some of within parent =
    let fresh : current (suc level) (records ++ ExtendRecord extend ∷ []) ≡ Some (length records) = current_new level above records extend of parent in
    let all : free_at secret (records ++ ExtendRecord extend ∷ []) (suc level)
    ≡ leaves_at secret (suc level) - next_leaf secret (records ++ ExtendRecord extend ∷ []) (length records) =
    free_at_tree secret (records ++ ExtendRecord extend ∷ []) (suc level) (length records) fresh in
    let free : 0 < free_at secret (records ++ ExtendRecord extend ∷ []) (suc level) =
    omega (arith, all, next_new secret records (ExtendRecord extend) some, some_leaves secret (suc level) within) in
    is_deepest secret (records ++ ExtendRecord extend ∷ []) (suc level) within free
    (λ below after under. free_at_none secret (records ++ ExtendRecord extend ∷ []) below (current_cut level below records extend of after))

-- ---- beginnings

pub take_of_longer : (records more : List Record) (k : ℕ) → k ≤ length records → take k (records ++ more) ≡ take k records
take_of_longer records more k within = take-append-le k records more within
