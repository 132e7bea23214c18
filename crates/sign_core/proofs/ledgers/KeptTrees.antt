-- The trees kept in memory follow the records.
use Rattle.std.proofs.Common.{◌≡◌, ◌≢◌, inl, inr, ℕ, zero, suc, ◌+◌, ◌-◌, ◌<◌, true, cond, List, [], ◌∷◌, ◌++◌}
use Rattle.std.proofs.Common.{length, set, Option, Some, None, refl, sym, ap, subst, ◌∙◌, arith, eq-eqb, ne_eqb, lt-ltb, le-ltb}
use Rattle.std.specs.Prelude.{slice_get, nat_lt, if◌then◌else◌}
use Rattle.std.proofs.lemmas.Bool.{cases_eq, cases_lt}
use Rattle.std.proofs.lemmas.Option.{none-some, same_Some, slice_get_within}
use Rattle.std.proofs.lemmas.List.{get_or-set_same, get_or-set_other}
use Rattle.state_file.specs.declared.record.Extend.{Extend}
use Rattle.state_file.specs.declared.record.Key.{Key}
use Rattle.state_file.specs.declared.record.Record.{Record}
use Rattle.state_file.specs.declared.record.Record.TheVariants.{Key as KeyRecord, Extend as ExtendRecord, Bound as BoundRecord, Retire, Moved}
use Rattle.state_file.specs.declared.record.Secret.{Secret}
use Rattle.state_file.specs.Laws.{bottom_of}
use Rattle.sign_core.specs.Records.{current, in_tree, next_leaf, reached_number, reaches}
use Rattle.sign_core.specs.inner.Trees.{FollowsExtend, IsBegun, IsRaised, raised}
use Rattle.sign_core.specs.Trees.{HasTrees, kept_at, tree_at, with_next}
use Rattle.sign_core.specs.declared.trees.Tree.{Tree}
use Rattle.sign_core.proofs.records.FreeLeaves.{number_other}
use Rattle.sign_core.proofs.records.OneMore.{current_above, current_cut, current_new, next_kept, next_new, next_raised}
use Rattle.sign_core.proofs.records.NextLeaves.{current_bound, current_moved, current_retire, extend_reaches, trees_apart}
use Rattle.state_file.specs.declared.record.Bound.{Bound}

-- The levels above one keep their trees, and no other has one.
abbrev pub AreAbove : (old : List (Option Tree)) (level : ℕ) (new : List (Option Tree)) → Type 0
AreAbove old level new = (k : ℕ) → kept_at new k ≡ (if nat_lt k level then kept_at old k else None)

-- Trees that follow the records before a Bound become these, which follow the records with it.
abbrev pub FollowsBound : (old : List (Option Tree)) (bottom leaf : ℕ) (new : List (Option Tree)) → Type 0
FollowsBound old bottom leaf new =
    (secret : Secret) (records : List Record) (key : Key) (bound : Bound) (tree : ℕ)
    → slice_get records 0 ≡ Some (KeyRecord key) → bottom_of secret ≡ bottom → bound.leaf ≡ leaf
    → current bottom records ≡ Some tree
    → HasTrees secret records old → HasTrees secret (records ++ BoundRecord bound ∷ []) new

-- Trees that follow the records before a Retire become these, which follow the records with it.
abbrev pub FollowsRetire : (old : List (Option Tree)) (bottom upto : ℕ) (new : List (Option Tree)) → Type 0
FollowsRetire old bottom upto new =
    (secret : Secret) (records : List Record) (key : Key) (tree : ℕ)
    → slice_get records 0 ≡ Some (KeyRecord key) → bottom_of secret ≡ bottom → current bottom records ≡ Some tree
    → HasTrees secret records old → HasTrees secret (records ++ Retire upto ∷ []) new

pub above_more : (old new : List (Option Tree)) (i : ℕ) → i < length new → AreAbove old i new → AreAbove old (i + 1) (set new i (kept_at old i))
above_more old new i within above k = elim (cases_eq k i) [
  | inl same ↦
      let here : nat_lt k (i + 1) ≡ true = lt-ltb k (i + 1) (omega (arith, same)) in
      ap (λ n. kept_at (set new i (kept_at old i)) n) same ∙ get_or-set_same new i (kept_at old i) None within
      ∙ ap (kept_at old) (sym same) ∙ sym (ap (λ b. cond b (kept_at old k) None) here)
  | inr apart ↦
      get_or-set_other new i k (kept_at old i) None apart ∙ above k ∙ ap (λ b. cond b (kept_at old k) None) (same_test apart)
]
  where
    same_test : k ≢ i → nat_lt k i ≡ nat_lt k (i + 1)
    same_test apart = elim (cases_lt k i) [
      | inl below ↦ lt-ltb k i below ∙ sym (lt-ltb k (i + 1) (omega (arith, below)))
      | inr beyond ↦ le-ltb k i beyond ∙ sym (le-ltb k (i + 1) (omega (arith, beyond, apart)))
    ]

-- ---- one more record

-- a level whose tree stays and in which a number is reached
tree_raised : (secret : Secret) (records : List Record) (entry : Record) (level tree n : ℕ) → current level records ≡ Some tree
    → current level (records ++ entry ∷ []) ≡ current level records → reaches secret records entry ≡ Some (tree, n)
    → tree_at secret (records ++ entry ∷ []) level ≡ raised n (tree_at secret records level)
tree_raised secret records entry level tree n is kept reached =
    ap (with_next secret (records ++ entry ∷ [])) (kept ∙ is)
    ∙ ap (λ m. Some (record { place = tree; next = m })) (next_raised secret records entry tree n reached)
    ∙ sym (ap (λ o. raised n (with_next secret records o)) is)

-- and each other level whose tree stays
tree_kept : (secret : Secret) (records : List Record) (key : Key) (entry : Record) (level other tree n : ℕ)
    → slice_get records 0 ≡ Some (KeyRecord key) → current level records ≡ Some tree → reaches secret records entry ≡ Some (tree, n)
    → other ≢ level → current other (records ++ entry ∷ []) ≡ current other records
    → tree_at secret (records ++ entry ∷ []) other ≡ tree_at secret records other
tree_kept secret records key entry level other tree n first is reached apart kept =
    ap (with_next secret (records ++ entry ∷ [])) kept ∙ by (current other records) refl
  where
    by : (found : Option ℕ) → current other records ≡ found → with_next secret (records ++ entry ∷ []) found ≡ with_next secret records found
    by None none = refl
    by (Some own) at =
        let away : tree ≢ own = λ same. trees_apart records key other level own tree first at is apart (sym same) in
        ap (λ m. Some (record { place = own; next = m }))
        (next_kept secret records entry own (ap (reached_number own) reached ∙ number_other own tree n away))

-- a record that reaches a number in a level's tree, and changes no tree, raises what is kept of that level
pub has_raised : (secret : Secret) (records : List Record) (key : Key) (entry : Record) (level tree n : ℕ) (old new : List (Option Tree))
    → slice_get records 0 ≡ Some (KeyRecord key) → current level records ≡ Some tree → reaches secret records entry ≡ Some (tree, n)
    → (k : ℕ) → k < 8 → current k (records ++ entry ∷ []) ≡ current k records → HasTrees secret records old → IsRaised old level n new
    → kept_at new k ≡ tree_at secret (records ++ entry ∷ []) k
has_raised secret records key entry level tree n old new first is reached k within kept has raise = elim (cases_eq k level) [
  | inl same ↦
      raise k ∙ ap (λ b. cond b (raised n (kept_at old k)) (kept_at old k)) (eq-eqb k level same) ∙ ap (raised n) (has k within)
      ∙ sym (tree_raised secret records entry k tree n (ap (λ l. current l records) same ∙ is) kept reached)
  | inr apart ↦
      raise k ∙ ap (λ b. cond b (raised n (kept_at old k)) (kept_at old k)) (ne_eqb k level apart) ∙ has k within
      ∙ sym (tree_kept secret records key entry level k tree n first is reached apart kept)
]

-- an Extend under a current tree raises the level of its parent leaf, and makes a tree below
pub has_extended : (secret : Secret) (records : List Record) (key : Key) (extend : Extend) (level above : ℕ) (old mid new : List (Option Tree))
    → slice_get records 0 ≡ Some (KeyRecord key) → 0 < length records → extend.level ≡ suc level → current level records ≡ Some above
    → HasTrees secret records old → IsRaised old level (extend.parent_leaf + 1) mid → IsBegun mid (suc level) (length records) new
    → HasTrees secret (records ++ ExtendRecord extend ∷ []) new
has_extended secret records key extend level above old mid new first some of parent has raise made k within = elim (cases_eq k (suc level)) [
  | inl same ↦
      made k
      ∙ ap (λ b. cond b (Some (record { place = length records; next = 0 })) (cond (nat_lt k (suc level)) (kept_at mid k) None)) (eq-eqb k (suc level) same)
      ∙ ap (λ m. Some (record { place = length records; next = m })) (sym (next_new secret records (ExtendRecord extend) some))
      ∙ sym (ap (with_next secret (records ++ ExtendRecord extend ∷ []))
      (ap (λ l. current l (records ++ ExtendRecord extend ∷ [])) same ∙ current_new level above records extend of parent))
  | inr apart ↦
      made k
      ∙ ap (λ b. cond b (Some (record { place = length records; next = 0 })) (cond (nat_lt k (suc level)) (kept_at mid k) None)) (ne_eqb k (suc level) apart)
      ∙ elim (cases_lt k (suc level)) [
        | inl higher ↦
            ap (λ b. cond b (kept_at mid k) None) (lt-ltb k (suc level) higher)
            ∙ has_raised secret records key (ExtendRecord extend) level above (extend.parent_leaf + 1) old mid first parent
            (extend_reaches secret records extend level above of parent) k within
            (current_above level k records extend of (omega (arith, higher))) has raise
        | inr lower ↦
            ap (λ b. cond b (kept_at mid k) None) (le-ltb k (suc level) lower)
            ∙ sym (ap (with_next secret (records ++ ExtendRecord extend ∷ []))
            (current_cut level k records extend of (omega (arith, lower, apart))))
      ]
]

-- ---- as a signer takes records up

-- an Extend, as its fields say
pub follows_extend : (old mid new : List (Option Tree)) (level higher parent_leaf place : ℕ) → 0 < level → higher ≡ level - 1
    → IsRaised old higher (parent_leaf + 1) mid → IsBegun mid level place new → FollowsExtend old level parent_leaf place new
follows_extend old mid new zero higher parent_leaf place below one raise made = absurd (omega (arith, below))
follows_extend old mid new (suc level) higher parent_leaf place below one raise made =
    λ secret records key extend above first long of leaf parent has.
    let same : higher ≡ level = omega (arith, one) in
    let over : suc level - 1 ≡ level = omega arith in
    let some : 0 < length records = slice_get_within records 0 (KeyRecord key) first in
    let raise_it : IsRaised old level (extend.parent_leaf + 1) mid =
    subst (λ n. IsRaised old level (n + 1) mid) (sym leaf) (subst (λ l. IsRaised old l (parent_leaf + 1) mid) same raise) in
    let made_it : IsBegun mid (suc level) (length records) new = subst (λ n. IsBegun mid (suc level) n new) (sym long) made in
    has_extended secret records key extend level above old mid new first some of (ap (λ l. current l records) (sym over) ∙ parent)
    has raise_it made_it

pub follows_bound : (old new : List (Option Tree)) (bottom leaf : ℕ) → IsRaised old bottom (leaf + 1) new → FollowsBound old bottom leaf new
follows_bound old new bottom leaf raise = λ secret records key bound tree first last same at has k within.
    let here : current (bottom_of secret) records ≡ Some tree = ap (λ l. current l records) last ∙ at in
    let reached : reaches secret records (BoundRecord bound) ≡ Some (tree, leaf + 1) =
    ap (λ o. in_tree o (bound.leaf + 1)) here ∙ ap (λ n. Some (tree, n + 1)) same in
    has_raised secret records key (BoundRecord bound) bottom tree (leaf + 1) old new first at reached k within
    (current_bound k records bound) has raise

pub follows_retire : (old new : List (Option Tree)) (bottom upto : ℕ) → IsRaised old bottom upto new → FollowsRetire old bottom upto new
follows_retire old new bottom upto raise = λ secret records key tree first last at has k within.
    let here : current (bottom_of secret) records ≡ Some tree = ap (λ l. current l records) last ∙ at in
    has_raised secret records key (Retire upto) bottom tree upto old new first at (ap (λ o. in_tree o upto) here) k within
    (current_retire k records upto) has raise

pub follows_moved : (secret : Secret) (records : List Record) (levels : List (Option Tree)) → HasTrees secret records levels
    → HasTrees secret (records ++ Moved ∷ []) levels
follows_moved secret records levels has k within =
    has k within ∙ sym (ap (with_next secret (records ++ Moved ∷ [])) (current_moved k records) ∙ by (current k records))
  where
    by : (found : Option ℕ) → with_next secret (records ++ Moved ∷ []) found ≡ with_next secret records found
    by None = refl
    by (Some tree) = ap (λ m. Some (record { place = tree; next = m })) (next_kept secret records Moved tree refl)

-- ---- what is kept, read

with_next_means : (secret : Secret) (records : List Record) (found : Option ℕ) (tree : Tree) → with_next secret records found ≡ Some tree
    → (found ≡ Some tree.place) × (next_leaf secret records tree.place ≡ tree.next)
with_next_means secret records None tree is = absurd (none-some tree is)
with_next_means secret records (Some place) tree is =
    let same = same_Some (record { place = place; next = next_leaf secret records place }) tree is in
    (ap (λ t. Some t.place) same, subst (λ p. next_leaf secret records p ≡ tree.next) (ap (λ t. t.place) same) (ap (λ t. t.next) same))

-- a tree that is kept is current, and its next leaf is kept with it
pub kept_tree : (secret : Secret) (records : List Record) (levels : List (Option Tree)) (level : ℕ) (tree : Tree) → HasTrees secret records levels
    → level < 8 → kept_at levels level ≡ Some tree → (current level records ≡ Some tree.place) × (next_leaf secret records tree.place ≡ tree.next)
kept_tree secret records levels level tree has within is =
    with_next_means secret records (current level records) tree (sym (has level within) ∙ is)

pub kept_none : (secret : Secret) (records : List Record) (levels : List (Option Tree)) (level : ℕ) → HasTrees secret records levels
    → level < 8 → kept_at levels level ≡ None → current level records ≡ None
kept_none secret records levels level has within is = by (current level records) (sym (has level within) ∙ is)
  where
    by : (found : Option ℕ) → with_next secret records found ≡ None → found ≡ None
    by None none = refl
    by (Some place) none = absurd (none-some (record { place = place; next = next_leaf secret records place }) (sym none))
