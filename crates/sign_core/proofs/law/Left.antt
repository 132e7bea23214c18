-- How many signatures are left, and what a call takes of them.
use Rattle.std.proofs.Common.{drop, ◌≡◌, ◌∙◌, refl, sym, ap, subst, ℕ, zero, suc, ◌+◌, ◌*◌, ◌-◌, ◌<◌, ◌≤◌, ◌⊎◌, inl, inr}
use Rattle.std.proofs.Common.{max, Bool, true, false, List, [], ◌∷◌, ◌++◌, length, map, Option, Some, None, Result, Ok, Err, arith}
use Rattle.std.specs.Prelude.{◌↔◌, IsSome, if◌then◌else◌, is_some, nat_le, nat_lt, not, slice_get}
use Rattle.std.specs.List.{range_with_len}
use Rattle.std.proofs.lemmas.Bool.{cases_eq, leb-false, leb-true, ltb-false}
use Rattle.std.proofs.lemmas.Option.{none-some, slice_get_within}
use Rattle.state_file.specs.Laws.{bottom_of, leaves_at, levels_of}
use Rattle.state_file.specs.declared.record.Bound.{Bound}
use Rattle.state_file.specs.declared.record.Extend.{Extend}
use Rattle.state_file.specs.declared.record.Key.{Key}
use Rattle.state_file.specs.declared.record.Record.{Record}
use Rattle.state_file.specs.declared.record.Record.TheVariants.{Key as KeyRecord, Extend as ExtendRecord}
use Rattle.state_file.specs.declared.record.Record.TheVariants.{Bound as BoundRecord, Retire, Moved}
use Rattle.state_file.specs.declared.record.Secret.{Secret}
use Rattle.state_file.specs.declared.record.Secret.TheVariants.{Lms, Hss, Xmss}
use Rattle.state_file.specs.declared.store.Store as store
use Rattle.sign_core.specs.declared.fault.SignFault.{SignFault}
use Rattle.sign_core.specs.declared.fault.SignFault.TheVariants.{LedgerFull, OutOfMemory, RetireRange, Stopped}
use Rattle.sign_core.specs.declared.fault.SignFault.TheVariants.{Moved as MovedAway, StoreFailed}
use Rattle.sign_core.specs.declared.source.Source as source
use Rattle.sign_core.specs.Left.{LeftLaw, TakesLeft, bottom_leaves_of, retired_count, signatures_left}
use Rattle.sign_core.specs.Records.{binding_at, current, deepest, free_at, has_identifier, has_moved, is_long, next_at}
use Rattle.sign_core.specs.Records.{leaves_of_current, next_leaf, the_key, wanted_count}
use Rattle.sign_core.specs.Serving.{SignsGiven}
use Rattle.sign_core.specs.Signer.{Retires, View, state_of}
use Rattle.sign_core.specs.Textbook.{Trees, current_at, damaged_at, trees_of}
use Rattle.sign_core.specs.World.{Chance, Draw, Fate, Outcome, State, acked, answered, appended, cut_new, cut_old}
use Rattle.sign_core.specs.World.{first_draw, no_memory, open_state, randomizer_of_fields, refused, requested, retired}
use Rattle.sign_core.specs.inner.Cases.{bound_trees, extended, requested_binding}
use Rattle.sign_core.proofs.records.OneMore.{current_above, current_cut, current_new, free_at_none, free_at_tree, next_at_tree}
use Rattle.sign_core.proofs.records.OneMore.{next_new, next_raised, some_leaves}
use Rattle.sign_core.proofs.steps.Cases.{bound_level, bound_message, bound_sound, extended_identifier, extended_seed}
use Rattle.sign_core.proofs.steps.Cases.{requested_key, retired_key}
use Rattle.sign_core.proofs.records.Parts.{new_bound}
use Rattle.sign_core.proofs.records.FreeLeaves.{deepest_is, none_free}
use Rattle.sign_core.proofs.records.NextLeaves.{current_bound, current_retire, extend_reaches, next_at_above, next_at_bound}
use Rattle.sign_core.proofs.records.NextLeaves.{next_at_bound_other, next_at_retire, next_at_retire_other}
use Rattle.sign_core.proofs.law.KeptByEvents.{kept_choice}
use Rattle.sign_core.proofs.law.Once.{exhausted_exactly}
use Rattle.sign_core.proofs.law.KeptByRequests.{free_current}
use Rattle.sign_core.proofs.records.Unchanged.{key_stays}

-- ---- counts of free leaves

-- the leaves of the bottom level that can sign, by the counts of the first levels
sum_up : (leaves counts : ℕ → ℕ) → (levels : ℕ) → ℕ
sum_up leaves counts zero = 0
sum_up leaves counts (suc level) = sum_up leaves counts level * leaves level + counts level

-- the same from a level on
sum_on : (leaves counts : ℕ → ℕ) → (before level : ℕ) → (levels : ℕ) → ℕ
sum_on leaves counts before level zero = before
sum_on leaves counts before level (suc n) =
    sum_on leaves counts before level n * leaves (level + n) + counts (level + n)

module _ (leaves counts : ℕ → ℕ) where
  first_out : (before level n : ℕ) → sum_on leaves counts before level (suc n)
      ≡ sum_on leaves counts (before * leaves level + counts level) (level + 1) n
  unfolding sum_on
  first_out before level zero =
      let here : level + 0 ≡ level = omega arith in ap (λ k. before * leaves k + counts k) here
  first_out before level (suc n) =
      let on : level + suc n ≡ level + 1 + n = omega arith in
      let rest = sum_on leaves counts (before * leaves level + counts level) (level + 1) n in
      ap (λ m. m * leaves (level + suc n) + counts (level + suc n)) (first_out before level n)
      ∙ ap (λ k. rest * leaves k + counts k) on

  listed_on : (before level n : ℕ) → bottom_leaves_of leaves before level (map counts (range_with_len level n))
      ≡ sum_on leaves counts before level n
  unfolding sum_on
  listed_on before level zero = refl
  listed_on before level (suc n) =
      listed_on (before * leaves level + counts level) (level + 1) n ∙ sym (first_out before level n)

  from_zero : (n : ℕ) → sum_on leaves counts 0 0 n ≡ sum_up leaves counts n
  unfolding sum_on sum_up
  from_zero zero = refl
  from_zero (suc n) =
      let here : 0 + n ≡ n = omega arith in
      ap (λ m. m * leaves (0 + n) + counts (0 + n)) (from_zero n)
      ∙ ap (λ k. sum_up leaves counts n * leaves k + counts k) here

  listed : (n : ℕ) → bottom_leaves_of leaves 0 0 (map counts (range_with_len 0 n)) ≡ sum_up leaves counts n
  listed n = listed_on 0 0 n ∙ from_zero n

  sum_none : (m : ℕ) → ((k : ℕ) → k < m → counts k ≡ 0) → sum_up leaves counts m ≡ 0
  unfolding sum_up
  sum_none zero none = refl
  sum_none (suc m) none =
      ap (λ n. n * leaves m + counts m) (sum_none m (λ k low. none k (omega (arith, low))))
      ∙ omega (arith, none m (omega arith))

  none_of_sum : (m : ℕ) → ((k : ℕ) → k < m → 0 < leaves k) → sum_up leaves counts m ≡ 0 → (k : ℕ) → k < m
      → counts k ≡ 0
  unfolding sum_up
  none_of_sum zero some is k within = absurd (omega (arith, within))
  none_of_sum (suc m) some is k within =
      let product : sum_up leaves counts m * leaves m ≡ 0 = omega (arith, is) in
      let here : counts m ≡ 0 = omega (arith, is) in
      let before = factor (sum_up leaves counts m) (leaves m) (some m (omega arith)) product in
      elim (cases_eq k m) [
        | inl same ↦ ap counts same ∙ here
        | inr apart ↦ none_of_sum m (λ j low. some j (omega (arith, low))) before k (omega (arith, within, apart))
      ]
    where
      factor : (a b : ℕ) → 0 < b → a * b ≡ 0 → a ≡ 0
      factor zero b some is = refl
      factor (suc a) b some is = absurd (omega (arith, some, is))

-- what a change of some levels' counts does to their sum
module _ (leaves old new : ℕ → ℕ) where
  sums_on : (a m : ℕ) → a ≤ m → sum_up leaves new a ≡ sum_up leaves old a
      → ((k : ℕ) → a ≤ k → k < m → new k ≡ old k) → sum_up leaves new m ≡ sum_up leaves old m
  unfolding sum_up
  sums_on a zero within same each = refl
  sums_on a (suc m) within same each = elim (cases_eq a (suc m)) [
    | inl is ↦ subst (λ n. sum_up leaves new n ≡ sum_up leaves old n) is same
    | inr apart ↦
        let earlier : a ≤ m = omega (arith, within, apart) in
        ap (λ n. n * leaves m + new m) (sums_on a m earlier same (λ k low high. each k low (omega (arith, high))))
        ∙ ap (λ c. sum_up leaves old m * leaves m + c) (each m earlier (omega arith))
  ]

  -- a leaf of a level is taken for a new tree below it, whose leaves are all free
  sum_extended : (l m : ℕ) → suc l < m → ((k : ℕ) → k < l → new k ≡ old k) → new l + 1 ≡ old l → old (suc l) ≡ 0
      → new (suc l) ≡ leaves (suc l) → ((k : ℕ) → suc l < k → k < m → new k ≡ old k)
      → sum_up leaves new m ≡ sum_up leaves old m
  unfolding sum_up
  sum_extended l m inside above taken none fresh below =
      let before : sum_up leaves new l ≡ sum_up leaves old l =
      sums_on 0 l (omega arith) refl (λ k low high. above k high) in
      let one : sum_up leaves new l * leaves l + new l + 1 ≡ sum_up leaves old l * leaves l + old l =
      omega (arith, taken, ap (λ n. n * leaves l) before) in
      let both : (sum_up leaves new l * leaves l + new l) * leaves (suc l) + new (suc l)
      ≡ (sum_up leaves old l * leaves l + old l) * leaves (suc l) + old (suc l) =
      omega (arith, none, fresh, ap (λ n. n * leaves (suc l)) one) in
      sums_on (suc (suc l)) m (omega (arith, inside)) both (λ k low high. below k (omega (arith, low)) high)

  -- leaves of the last level are taken
  sum_taken : (b n : ℕ) → ((k : ℕ) → k < b → new k ≡ old k) → new b + n ≡ old b
      → sum_up leaves old (suc b) ≡ sum_up leaves new (suc b) + n
  unfolding sum_up
  sum_taken b n above taken =
      let before : sum_up leaves new b ≡ sum_up leaves old b =
      sums_on 0 b (omega arith) refl (λ k low high. above k high) in
      omega (arith, taken, ap (λ n. n * leaves b) before)

-- ---- one more record

-- as `signatures_left`
total_of : Secret → List Record → ℕ
total_of secret records = sum_up (leaves_at secret) (free_at secret records) (levels_of secret)

left_is : (secret : Secret) (records : List Record) → signatures_left secret records ≡ total_of secret records
unfolding total_of
left_is secret records = listed (leaves_at secret) (free_at secret records) (levels_of secret)

first_is : (records : List Record) (key : Key) → the_key records ≡ Some key → slice_get records 0 ≡ Some (KeyRecord key)
first_is [] key is = absurd (cc)
first_is (KeyRecord first ∷ rest) key is = ap (λ (o : Option Key). by o) is
  where
    by : Option Key → Option Record
    by (Some key) = Some (KeyRecord key)
    by None = None
first_is (ExtendRecord extend ∷ rest) key is = absurd (cc)
first_is (BoundRecord bound ∷ rest) key is = absurd (cc)
first_is (Retire upto ∷ rest) key is = absurd (cc)
first_is (Moved ∷ rest) key is = absurd (cc)

-- a new tree under the next leaf of the level above
module _ (secret : Secret) (records : List Record) (key : Key) (extend : Extend) (level above : ℕ)
    (first : slice_get records 0 ≡ Some (KeyRecord key)) (of : extend.level ≡ suc level)
    (parent : current level records ≡ Some above) where
  kept_above : (k : ℕ) → k < level
      → free_at secret (records ++ ExtendRecord extend ∷ []) k ≡ free_at secret records k
  kept_above k under =
      let same = current_above level k records extend of (omega (arith, under)) in
      let next = next_at_above secret records key extend level k above first of parent under in
      λ i. if is_some (same i) then leaves_at secret k - next i else 0

  leaf_taken : extend.parent_leaf ≡ next_at secret records level → 0 < free_at secret records level
      → free_at secret (records ++ ExtendRecord extend ∷ []) level + 1 ≡ free_at secret records level
  leaf_taken leaf free =
      let all = records ++ ExtendRecord extend ∷ [] in
      let stays = current_above level level records extend of (omega arith) in
      let now : free_at secret all level ≡ leaves_at secret level - next_leaf secret all above =
      free_at_tree secret all level above (stays ∙ parent) in
      let was : free_at secret records level ≡ leaves_at secret level - next_leaf secret records above =
      free_at_tree secret records level above parent in
      let own : extend.parent_leaf ≡ next_leaf secret records above =
      leaf ∙ next_at_tree secret records level above parent in
      let next : next_leaf secret all above ≡ max (next_leaf secret records above) (extend.parent_leaf + 1) =
      next_raised secret records (ExtendRecord extend) above (extend.parent_leaf + 1)
      (extend_reaches secret records extend level above of parent) in
      omega (arith, now, was, own, next, free)

  tree_fresh : free_at secret (records ++ ExtendRecord extend ∷ []) (suc level) ≡ leaves_at secret (suc level)
  tree_fresh =
      let all = records ++ ExtendRecord extend ∷ [] in
      let now : free_at secret all (suc level) ≡ leaves_at secret (suc level) - next_leaf secret all (length records) =
      free_at_tree secret all (suc level) (length records) (current_new level above records extend of parent) in
      let some : 0 < length records = slice_get_within records 0 (KeyRecord key) first in
      omega (arith, now, next_new secret records (ExtendRecord extend) some)

  none_below : (k : ℕ) → suc level < k → free_at secret (records ++ ExtendRecord extend ∷ []) k ≡ 0
  none_below k under =
      free_at_none secret (records ++ ExtendRecord extend ∷ []) k (current_cut level k records extend of under)

  extend_takes : extend.parent_leaf ≡ next_at secret records level → 0 < free_at secret records level
      → suc level < levels_of secret
      → ((k : ℕ) → level < k → k < levels_of secret → free_at secret records k ≡ 0)
      → total_of secret (records ++ ExtendRecord extend ∷ []) ≡ total_of secret records
  unfolding total_of
  extend_takes leaf free inside none =
      sum_extended (leaves_at secret) (free_at secret records) (free_at secret (records ++ ExtendRecord extend ∷ []))
      level (levels_of secret) inside kept_above (leaf_taken leaf free) (none (suc level) (omega arith) inside) tree_fresh
      (λ k low high. none_below k low ∙ sym (none k (omega (arith, low)) high))

-- a binding to the next leaf of the bottom tree
module _ (secret : Secret) (records : List Record) (key : Key) (bound : Bound) (tree : ℕ)
    (first : slice_get records 0 ≡ Some (KeyRecord key)) (is : current (bottom_of secret) records ≡ Some tree) where
  bound_kept : (k : ℕ) → k < bottom_of secret
      → free_at secret (records ++ BoundRecord bound ∷ []) k ≡ free_at secret records k
  bound_kept k under =
      let same = current_bound k records bound in
      let next = next_at_bound_other secret records key bound k tree first is (λ at. omega (arith, under, at)) in
      λ i. if is_some (same i) then leaves_at secret k - next i else 0

  bound_taken : bound.leaf ≡ next_at secret records (bottom_of secret) → 0 < free_at secret records (bottom_of secret)
      → free_at secret (records ++ BoundRecord bound ∷ []) (bottom_of secret) + 1 ≡ free_at secret records (bottom_of secret)
  bound_taken leaf free =
      let bottom = bottom_of secret in
      let all = records ++ BoundRecord bound ∷ [] in
      let now : free_at secret all bottom ≡ leaves_at secret bottom - next_leaf secret all tree =
      free_at_tree secret all bottom tree (current_bound bottom records bound ∙ is) in
      let was : free_at secret records bottom ≡ leaves_at secret bottom - next_leaf secret records tree =
      free_at_tree secret records bottom tree is in
      let own : bound.leaf ≡ next_leaf secret records tree = leaf ∙ next_at_tree secret records bottom tree is in
      let after : next_leaf secret all tree ≡ next_at secret all bottom =
      sym (next_at_tree secret all bottom tree (current_bound bottom records bound ∙ is)) in
      let before : next_leaf secret records tree ≡ next_at secret records bottom =
      sym (next_at_tree secret records bottom tree is) in
      omega (arith, now, was, own, after, before, next_at_bound secret records bound tree is, free)

  bound_takes : bound.leaf ≡ next_at secret records (bottom_of secret) → 0 < free_at secret records (bottom_of secret)
      → 0 < levels_of secret → total_of secret records ≡ total_of secret (records ++ BoundRecord bound ∷ []) + 1
  unfolding total_of
  bound_takes leaf free inside =
      let all = records ++ BoundRecord bound ∷ [] in
      let whole : suc (bottom_of secret) ≡ levels_of secret = omega (arith, inside) in
      subst (λ n. sum_up (leaves_at secret) (free_at secret records) n ≡ sum_up (leaves_at secret) (free_at secret all) n + 1)
      whole
      (sum_taken (leaves_at secret) (free_at secret records) (free_at secret all) (bottom_of secret) 1 bound_kept
      (bound_taken leaf free))

-- ---- a new name

-- what an answer takes
abbrev taken : Result (List ℕ) SignFault → ℕ
taken (Ok signature) = 1
taken (Err fault) = 0

abbrev Takes : Secret → (total : ℕ) → Outcome (List ℕ) → Type 0
Takes secret total outcome = total ≡ total_of secret outcome.acknowledged + taken outcome.answer

-- `below` levels still need a new tree, and the level above them is the deepest with a free leaf.
record IsReady (key : Key) (total below : ℕ) (records : List Record) : Type 0 where
  keyed : the_key records ≡ Some key
  inside : below < levels_of key.secret
  free : 0 < free_at key.secret records (bottom_of key.secret - below)
  none : (k : ℕ) → bottom_of key.secret - below < k → k < levels_of key.secret → free_at key.secret records k ≡ 0
  left : total ≡ total_of key.secret records

none_taken : (secret : Secret) (total : ℕ) (records : List Record) → total ≡ total_of secret records
    → total ≡ total_of secret records + 0
none_taken secret total records is = omega (arith, is)

takes_append : (secret : Secret) (total : ℕ) (state : State) (entry : Record) (fate : Fate)
    (next : List Record → Outcome (List ℕ)) → total ≡ total_of secret state.records
    → Takes secret total (next (state.records ++ entry ∷ [])) → Takes secret total (appended state entry fate next)
takes_append secret total state entry acked next is later = later
takes_append secret total state entry cut_old next is later = none_taken secret total state.records is
takes_append secret total state entry cut_new next is later = none_taken secret total state.records is
takes_append secret total state entry no_memory next is later = none_taken secret total state.records is

-- one tree more
extend_ready : (key : Key) (total below : ℕ) (records : List Record) (extend : Extend) → IsReady key total (suc below) records
    → extend.level ≡ bottom_of key.secret - below → extend.parent_leaf ≡ next_at key.secret records (extend.level - 1)
    → IsReady key total below (records ++ ExtendRecord extend ∷ [])
extend_ready key total below records extend ready of leaf =
    let secret = key.secret in
    let level = bottom_of secret - suc below in
    let entry = ExtendRecord extend in
    let inside = ready.inside in
    let own : extend.level ≡ suc level = omega (arith, of, inside) in
    let over : extend.level - 1 ≡ level = omega (arith, own) in
    let deep : suc level < levels_of secret = omega (arith, inside) in
    let place : suc level ≡ bottom_of secret - below = omega (arith, inside) in
    let (above, parent) = free_current secret records level ready.free in
    let first = first_is records key ready.keyed in
    let next : extend.parent_leaf ≡ next_at secret records level = leaf ∙ ap (next_at secret records) over in
    let fresh = tree_fresh secret records key extend level above first own parent in
    let some : 0 < free_at secret (records ++ entry ∷ []) (suc level) =
    omega (arith, fresh, some_leaves secret (suc level) deep) in
    record {
      keyed = key_stays records (entry ∷ []) key ready.keyed;
      inside = omega (arith, inside);
      free = subst (λ l. 0 < free_at secret (records ++ entry ∷ []) l) place some;
      none = λ k low high. none_below secret records key extend level above first own parent k (omega (arith, low, place));
      left = ready.left
          ∙ sym (extend_takes secret records key extend level above first own parent next ready.free deep ready.none);
    }

module _ (key : Key) (total : ℕ) where
  takes_seed : (below : ℕ) (records : List Record) (trees : Trees) (identifier : List ℕ) (fields : List (List ℕ))
      (fate : Fate) (next : List Record → Outcome (List ℕ)) → IsReady key total (suc below) records
      → ((all : List Record) → IsReady key total below all → Takes key.secret total (next all))
      → (let level = bottom_of key.secret - below in
      Takes key.secret total
      (extended_seed (open_state records) trees level (next_at key.secret records (level - 1)) identifier fields fate next))
  takes_seed below records trees identifier [] fate next ready later =
      none_taken key.secret total records ready.left
  takes_seed below records trees identifier (seed ∷ []) fate next ready later =
      none_taken key.secret total records ready.left
  takes_seed below records trees identifier (seed ∷ randomizer ∷ []) fate next ready later =
      takes_append key.secret total (open_state records) _ fate next ready.left
      (later _ (extend_ready key total below records _ ready refl refl))
  takes_seed below records trees identifier (seed ∷ randomizer ∷ extra ∷ rest) fate next ready later =
      none_taken key.secret total records ready.left

  takes_identifier : (below : ℕ) (records : List Record) (trees : Trees) (fields : List (List ℕ)) (fate : Fate)
      (next : List Record → Outcome (List ℕ)) → IsReady key total (suc below) records
      → ((all : List Record) → IsReady key total below all → Takes key.secret total (next all))
      → (let level = bottom_of key.secret - below in
      Takes key.secret total
      (extended_identifier (open_state records) trees level (next_at key.secret records (level - 1)) fields fate next))
  takes_identifier below records trees [] fate next ready later = none_taken key.secret total records ready.left
  takes_identifier below records trees (identifier ∷ fields) fate next ready later =
      kept_choice (Takes key.secret total) (has_identifier records identifier) _ _
      (λ there. none_taken key.secret total records ready.left)
      (λ new. takes_seed below records trees identifier fields fate next ready later)

  takes_extended : (below : ℕ) (records : List Record) (trees : Option Trees) (draw : Draw)
      (next : List Record → Outcome (List ℕ)) → IsReady key total (suc below) records
      → ((all : List Record) → IsReady key total below all → Takes key.secret total (next all))
      → Takes key.secret total (extended (open_state records) key (bottom_of key.secret - below) trees draw next)
  takes_extended below records None draw next ready later = none_taken key.secret total records ready.left
  takes_extended below records (Some trees) draw next ready later =
      takes_identifier below records trees draw.fields draw.fate next ready later

  takes_bound : (name : List ℕ) (records : List Record) (randomizer given : Option (List ℕ)) (fate : Fate)
      → IsReady key total 0 records
      → Takes key.secret total (bound_message (open_state records) key name randomizer given fate)
  takes_bound name records None given fate ready = none_taken key.secret total records ready.left
  takes_bound name records (Some randomizer) None fate ready = none_taken key.secret total records ready.left
  takes_bound name records (Some randomizer) (Some message) fate ready =
      let secret = key.secret in
      let here : bottom_of secret - 0 ≡ bottom_of secret = omega arith in
      let free : 0 < free_at secret records (bottom_of secret) =
      subst (λ l. 0 < free_at secret records l) here ready.free in
      let bound = new_bound key records name (next_at secret records (bottom_of secret)) randomizer message in
      let (tree, is) = free_current secret records (bottom_of secret) free in
      takes_append secret total (open_state records) (BoundRecord bound) fate _ ready.left
      (ready.left
      ∙ bound_takes secret records key bound tree (first_is records key ready.keyed) is refl free
      (omega (arith, ready.inside)))

  takes_below : (name : List ℕ) (chance : Chance) (below : ℕ) (draws : List Draw) (records : List Record)
      → IsReady key total below records → Takes key.secret total (bound_trees key name chance below draws records)
  takes_below name chance zero draws records ready =
      takes_bound name records (randomizer_of_fields key.secret chance.bound.fields) chance.given chance.bound.fate ready
  takes_below name chance (suc below) draws records ready =
      takes_extended below records (trees_of key.secret) (first_draw draws) _ ready
      (λ all more. takes_below name chance below (drop 1 draws) all more)

  takes_sound : (state : State) (name : List ℕ) (chance : Chance) (level : ℕ) (damaged : Option ℕ)
      → IsReady key total (bottom_of key.secret - level) state.records
      → Takes key.secret total (bound_sound state key name chance level damaged)
  takes_sound state name chance level (Some slot) ready = none_taken key.secret total state.records ready.left
  takes_sound state name chance level None ready =
      takes_below name chance (bottom_of key.secret - level) chance.trees state.records ready

  takes_level : (limit : ℕ) (state : State) (name : List ℕ) (chance : Chance) (level : Option ℕ)
      → the_key state.records ≡ Some key → total ≡ total_of key.secret state.records
      → deepest key.secret state.records ≡ level
      → Takes key.secret total (bound_level limit state key name chance level)
  takes_level limit state name chance None keyed left is = none_taken key.secret total state.records left
  takes_level limit state name chance (Some level) keyed left is =
      let (inside, free, others) = deepest_is key.secret state.records level is in
      let place : level ≡ bottom_of key.secret - (bottom_of key.secret - level) = omega (arith, inside) in
      let ready : IsReady key total (bottom_of key.secret - level) state.records = record {
        keyed = keyed;
        inside = omega (arith, inside);
        free = subst (λ l. 0 < free_at key.secret state.records l) place free;
        none = λ k low high. others k (omega (arith, low, place)) high;
        left = left;
      } in
      kept_choice (Takes key.secret total) (nat_lt limit (length state.records + wanted_count key.secret level)) _ _
      (λ full. none_taken key.secret total state.records left)
      (λ fits. kept_choice (Takes key.secret total) (not chance.has_room) _ _
      (λ none. none_taken key.secret total state.records left)
      (λ room. takes_sound state name chance level
      (damaged_at key level state.records (current_at level state.records (length state.records))) ready))

  takes_new : (limit : ℕ) (state : State) (name : List ℕ) (chance : Chance) → the_key state.records ≡ Some key
      → total ≡ total_of key.secret state.records
      → Takes key.secret total (requested_binding limit state key name chance None)
  takes_new limit state name chance keyed left =
      kept_choice (Takes key.secret total) (is_long key name) _ _
      (λ long. none_taken key.secret total state.records left)
      (λ short. takes_level limit state name chance (deepest key.secret state.records) keyed left refl)

  takes_key : (limit : ℕ) (state : State) (name : List ℕ) (chance : Chance) → the_key state.records ≡ Some key
      → binding_at state.records name ≡ None → total ≡ total_of key.secret state.records
      → Takes key.secret total (requested_key limit state name chance (Some key))
  takes_key limit state name chance keyed unbound left =
      kept_choice (Takes key.secret total) (not state.is_open) _ _
      (λ closed. none_taken key.secret total state.records left)
      (λ open_now. kept_choice (Takes key.secret total) (has_moved state.records) _ _
      (λ moved. none_taken key.secret total state.records left)
      (λ stays. subst (λ found. Takes key.secret total (requested_binding limit state key name chance found))
      (sym unbound) (takes_new limit state name chance keyed left)))

takes_request : (limit : ℕ) (state : State) (key : Key) (name : List ℕ) (chance : Chance) → the_key state.records ≡ Some key
    → binding_at state.records name ≡ None
    → Takes key.secret (total_of key.secret state.records) (requested limit state name chance)
takes_request limit state key name chance keyed unbound =
    subst (λ found. Takes key.secret (total_of key.secret state.records) (requested_key limit state name chance found))
    (sym keyed) (takes_key key (total_of key.secret state.records) limit state name chance keyed unbound refl)

-- ---- 22

none_left : (secret : Secret) (records : List Record) (found : Option ℕ) → deepest secret records ≡ found
    → (found ≡ None) ↔ (total_of secret records ≡ 0)
unfolding total_of
none_left secret records None is = (
  λ none. sum_none (leaves_at secret) (free_at secret records) (levels_of secret)
      (λ level within. none_free secret records is level within),
  λ total. refl,
)
none_left secret records (Some level) is =
    let (inside, free, others) = deepest_is secret records level is in (
      λ none. absurd (none-some level (sym none)),
      λ total. absurd (omega (
        arith,
        free,
        none_of_sum (leaves_at secret) (free_at secret records) (levels_of secret)
            (λ k within. some_leaves secret k within) total level inside,
      )),
    )

-- ---- the law

found_or_none : {A : Type 0} (found : Option A) → IsSome found ⊎ (found ≡ None)
found_or_none (Some a) = inl refl
found_or_none None = inr refl

left_request : {S R : Type 0} (g : store.Ghosts S) (r : source.Ghosts R) (old new : View S R) (name : List ℕ)
    (given : Option (List ℕ)) (capacity : ℕ) (answer : Result (List ℕ) SignFault) (key : Key) → the_key old.records ≡ Some key
    → SignsGiven g r old new name given capacity answer → TakesLeft old new key name answer
left_request {S = S} {R = R} g r old new name given capacity answer key keyed does =
    let secret = key.secret in
    let limit = g.most old.store in
    let state = state_of old in
    let chance = does.answers.chance in
    let mine = requested limit state name chance in
    let answered : mine.answer ≡ answer =
    ap (λ (o : Outcome (List ℕ)). o.answer) does.answers.step ∙ does.answers.ends.answer_is in
    let recorded : mine.acknowledged ≡ new.records =
    ap (λ (o : Outcome (List ℕ)). o.acknowledged) does.answers.step ∙ sym does.answers.ends.records in
    let takes : binding_at old.records name ≡ None → total_of secret old.records ≡ total_of secret new.records + taken answer =
    λ unbound. subst (λ a. total_of secret old.records ≡ total_of secret new.records + taken a) answered
    (subst (λ l. total_of secret old.records ≡ total_of secret l + taken mine.answer) recorded
    (takes_request limit state key name chance keyed unbound)) in
    let same : IsSome (binding_at old.records name) → new.records ≡ old.records =
    λ bound. ap (λ (w : View S R). w.records) (does.repeat bound).but_caches in
    let was = left_is secret old.records in
    let now = left_is secret new.records in
    record {
      exhausted = λ can.
          let (one, other) =
          exhausted_exactly limit state key name chance can.is_open can.stays keyed can.unbound can.fits in
          let (none, some) = none_left secret old.records (deepest secret old.records) refl in (
            λ is. was ∙ none (one (answered ∙ is)),
            λ total. sym answered ∙ other (some (sym was ∙ total)),
          );
      signed = λ signature is unbound.
          let all = subst (λ a. total_of secret old.records ≡ total_of secret new.records + taken a) is (takes unbound) in
          was ∙ all ∙ ap (λ n. n + 1) (sym now);
      refused = λ fault is. elim (found_or_none (binding_at old.records name)) [
        | inl bound ↦ ap (signatures_left secret) (same bound)
        | inr unbound ↦
            let all = subst (λ a. total_of secret old.records ≡ total_of secret new.records + taken a) is (takes unbound) in
            let none : total_of secret new.records ≡ total_of secret old.records = omega (arith, all) in
            now ∙ none ∙ sym was
      ];
      repeated = λ bound. ap (signatures_left secret) (same bound);
    }

-- ---- a retiring

-- what leaves it retires
module _ (secret : Secret) (records : List Record) (key : Key) (upto tree : ℕ)
    (first : slice_get records 0 ≡ Some (KeyRecord key)) (is : current (bottom_of secret) records ≡ Some tree) where
  retire_kept : (k : ℕ) → k < bottom_of secret → free_at secret (records ++ Retire upto ∷ []) k ≡ free_at secret records k
  retire_kept k under =
      let same = current_retire k records upto in
      let next = next_at_retire_other secret records key upto k tree first is (λ at. omega (arith, under, at)) in
      λ i. if is_some (same i) then leaves_at secret k - next i else 0

  retire_taken : next_at secret records (bottom_of secret) < upto → upto ≤ leaves_at secret (bottom_of secret)
      → free_at secret (records ++ Retire upto ∷ []) (bottom_of secret) + (upto - next_at secret records (bottom_of secret))
      ≡ free_at secret records (bottom_of secret)
  retire_taken more within =
      let bottom = bottom_of secret in
      let all = records ++ Retire upto ∷ [] in
      let stays = current_retire bottom records upto in
      let now : free_at secret all bottom ≡ leaves_at secret bottom - next_leaf secret all tree =
      free_at_tree secret all bottom tree (stays ∙ is) in
      let was : free_at secret records bottom ≡ leaves_at secret bottom - next_leaf secret records tree =
      free_at_tree secret records bottom tree is in
      let after : next_leaf secret all tree ≡ next_at secret all bottom =
      sym (next_at_tree secret all bottom tree (stays ∙ is)) in
      let before : next_leaf secret records tree ≡ next_at secret records bottom =
      sym (next_at_tree secret records bottom tree is) in
      omega (arith, now, was, after, before, next_at_retire secret records upto tree is, more, within)

  retire_takes : next_at secret records (bottom_of secret) < upto → upto ≤ leaves_at secret (bottom_of secret)
      → 0 < levels_of secret
      → total_of secret records
      ≡ total_of secret (records ++ Retire upto ∷ []) + (upto - next_at secret records (bottom_of secret))
  unfolding total_of
  retire_takes more within inside =
      let all = records ++ Retire upto ∷ [] in
      let n = upto - next_at secret records (bottom_of secret) in
      let whole : suc (bottom_of secret) ≡ levels_of secret = omega (arith, inside) in
      subst (λ m. sum_up (leaves_at secret) (free_at secret records) m ≡ sum_up (leaves_at secret) (free_at secret all) m + n)
      whole
      (sum_taken (leaves_at secret) (free_at secret records) (free_at secret all) (bottom_of secret) n retire_kept
      (retire_taken more within))

abbrev TakesRetired : Key → List Record → (upto : ℕ) → Outcome (Unit {0}) → Type 0
TakesRetired key records upto outcome =
    total_of key.secret records
    ≡ total_of key.secret outcome.acknowledged + retired_count key records upto outcome.answer

choice : (P : Outcome (Unit {0}) → Type 0) (test : Bool) (x y : Outcome (Unit {0})) → (test ≡ true → P x) → (test ≡ false → P y)
    → P (if test then x else y)
choice P true x y one other = one refl
choice P false x y one other = other refl

-- the tree of a level with leaves
tree_there : (secret : Secret) (found : Option ℕ) (level n : ℕ) → n < (if is_some found then leaves_at secret level else 0)
    → (tree : ℕ) × (found ≡ Some tree) × (n < leaves_at secret level)
tree_there secret (Some tree) level n low = (tree, refl, low)
tree_there secret None level n low = absurd (omega (arith, low))

-- a key whose trees have leaves has a level
has_level : (secret : Secret) (level : ℕ) → 0 < leaves_at secret level → 0 < levels_of secret
has_level (Lms secret) level some = omega arith
has_level (Hss [] identifier seed) level some = absurd (omega (arith, some))
has_level (Hss (pair ∷ rest) identifier seed) level some = omega arith
has_level (Xmss secret) level some = omega arith

module _ (limit : ℕ) (state : State) (key : Key) (upto : ℕ) (keyed : the_key state.records ≡ Some key) where
  none_retired : (fault : SignFault) → TakesRetired key state.records upto (refused state fault)
  none_retired fault = none_taken key.secret (total_of key.secret state.records) state.records refl

  retired_append : (fate : Fate) → next_at key.secret state.records (bottom_of key.secret) < upto
      → upto ≤ leaves_of_current key.secret state.records (bottom_of key.secret)
      → TakesRetired key state.records upto
      (appended state (Retire upto) fate (λ records. answered (open_state records) tt))
  retired_append acked more within =
      let secret = key.secret in
      let low : next_at secret state.records (bottom_of secret) < leaves_of_current secret state.records (bottom_of secret) =
      omega (arith, more, within) in
      let (tree, is, some) = tree_there secret (current (bottom_of secret) state.records) (bottom_of secret)
      (next_at secret state.records (bottom_of secret)) low in
      let all : leaves_of_current secret state.records (bottom_of secret) ≡ leaves_at secret (bottom_of secret) =
      ap (λ found. if is_some found then leaves_at secret (bottom_of secret) else 0) is in
      let some : 0 < leaves_at secret (bottom_of secret) = omega (arith, more, within, all) in
      retire_takes secret state.records key upto tree (first_is state.records key keyed) is more
      (omega (arith, within, all)) (has_level secret (bottom_of secret) some)
  retired_append cut_old more within = none_retired StoreFailed
  retired_append cut_new more within = none_retired StoreFailed
  retired_append no_memory more within = none_retired OutOfMemory

  takes_retired : (fate : Fate) → TakesRetired key state.records upto (retired_key limit state upto fate (Some key))
  takes_retired fate =
      let P = TakesRetired key state.records upto in
      let next = next_at key.secret state.records (bottom_of key.secret) in
      let leaves = leaves_of_current key.secret state.records (bottom_of key.secret) in
      choice P (not state.is_open) _ _ (λ closed. none_retired Stopped)
      (λ open_now. choice P (has_moved state.records) _ _ (λ moved. none_retired MovedAway)
      (λ stays. choice P (nat_lt leaves upto) _ _ (λ past. none_retired RetireRange)
      (λ fits. choice P (nat_le upto next) _ _
      (λ none. let low : upto ≤ next = leb-true upto next none in
      let nothing : upto - next ≡ 0 = omega (arith, low) in
      none_taken key.secret (total_of key.secret state.records) state.records refl
      ∙ ap (λ n. total_of key.secret state.records + n) (sym nothing))
      (λ some. choice P (nat_lt limit (length state.records + 1)) _ _ (λ full. none_retired LedgerFull)
      (λ room. retired_append fate (leb-false upto next some) (ltb-false leaves upto fits))))))

left_retiring : {S R : Type 0} (g : store.Ghosts S) (old new : View S R) (upto : ℕ) (answer : Result (Unit {0}) SignFault)
    (key : Key) → the_key old.records ≡ Some key → Retires g old new upto answer
    → signatures_left key.secret old.records
    ≡ signatures_left key.secret new.records + retired_count key old.records upto answer
left_retiring g old new upto answer key keyed does =
    let limit = g.most old.store in
    let state = state_of old in
    let mine = retired limit state upto does.fate in
    let answered : mine.answer ≡ answer =
    ap (λ (o : Outcome (Unit {0})). o.answer) does.step ∙ does.ends.answer_is in
    let recorded : mine.acknowledged ≡ new.records =
    ap (λ (o : Outcome (Unit {0})). o.acknowledged) does.step ∙ sym does.ends.records in
    let takes : TakesRetired key old.records upto mine =
    subst (λ found. TakesRetired key old.records upto (retired_key limit state upto does.fate found)) (sym keyed)
    (takes_retired limit state key upto keyed does.fate) in
    let all = subst (λ a. total_of key.secret old.records ≡ total_of key.secret new.records + retired_count key old.records upto a) answered
    (subst (λ l. total_of key.secret old.records ≡ total_of key.secret l + retired_count key old.records upto mine.answer) recorded takes) in
    left_is key.secret old.records ∙ all
    ∙ ap (λ n. n + retired_count key old.records upto answer) (sym (left_is key.secret new.records))

pub left_law : {S R : Type 0} (g : store.Ghosts S) (r : source.Ghosts R) → LeftLaw g r
left_law g r = record {
  request = left_request g r;
  retiring = λ old new upto answer key. left_retiring g old new upto answer key;
}
