-- A ledger's key has 1 to 8 levels, and no next leaf passes the end of its tree.
use Rattle.std.proofs.Common.{◌≡◌, inl, inr, ℕ, zero, suc, ◌+◌, ◌-◌, ◌<◌, ◌≤◌, List, length, take, Option, Some, None}
use Rattle.std.proofs.Common.{refl, sym, ap, subst, ◌∙◌, arith}
use Rattle.std.specs.Prelude.{slice_get}
use Rattle.std.proofs.lemmas.Bool.{cases_eq}
use Rattle.std.proofs.lemmas.Option.{none-some, same_Some, slice_get_within}
use Rattle.state_file.specs.declared.record.Key.{Key}
use Rattle.state_file.specs.declared.record.Record.{Record}
use Rattle.state_file.specs.declared.record.Record.TheVariants.{Key as KeyRecord, Extend as ExtendRecord, Bound as BoundRecord, Retire, Moved}
use Rattle.state_file.specs.declared.record.Secret.{Secret}
use Rattle.state_file.specs.declared.record.Secret.TheVariants.{Lms, Hss, Xmss}
use Rattle.state_file.specs.Laws.{Fits, IsCurrent, IsLegal, bottom_of, leaves_at, levels_of}
use Rattle.sign_core.specs.Records.{current, deepest, free_at, in_tree, the_key, next_leaf, reaches}
use Rattle.sign_core.specs.Trees.{tree_at, with_next}
use Rattle.sign_core.specs.declared.trees.Tree.{Tree}
use Rattle.sign_core.specs.Textbook.{AllHaveSizes, SecretHasSizes}
use Rattle.sign_core.proofs.records.Keys.{key_stands, legal_key}
use Rattle.sign_core.proofs.records.FreeLeaves.{deepest_is, is_deepest, is_next}
use Rattle.sign_core.proofs.records.CurrentTrees.{current_before, current_is}

levels_within : (secret : Secret) → SecretHasSizes secret → (1 ≤ levels_of secret) × (levels_of secret ≤ 8)
levels_within (Lms secret) sizes = (omega arith, omega arith)
levels_within (Hss levels identifier seed) sizes = sizes.2
levels_within (Xmss secret) sizes = (omega arith, omega arith)

pub key_levels : (records : List Record) (key : Key) → AllHaveSizes records → the_key records ≡ Some key
    → (1 ≤ levels_of key.secret) × (levels_of key.secret ≤ 8)
key_levels records key sizes keyed = levels_within key.secret ((sizes 0 (KeyRecord key) (key_stands records key keyed)).0)

-- ---- the next leaf of a level's tree lies within its leaves

level_by : Option Record → ℕ
level_by (Some (KeyRecord key)) = 0
level_by (Some (ExtendRecord extend)) = extend.level
level_by (Some (BoundRecord bound)) = 0
level_by (Some (Retire upto)) = 0
level_by (Some Moved) = 0
level_by None = 0

-- the record that makes a tree says its level
level_means : (records : List Record) (key : Key) → slice_get records 0 ≡ Some (KeyRecord key) → (k level tree : ℕ) → IsCurrent records k level tree
    → level ≡ level_by (slice_get records tree)
unfolding level_by
level_means records key first k zero tree is = sym (ap level_by (ap (slice_get records) is ∙ first))
level_means records key first k (suc level) tree (last, parent) = sym (ap level_by last.stands ∙ last.of_level)

in_tree_means : (found : Option ℕ) (m tree n : ℕ) → in_tree found m ≡ Some (tree, n) → (found ≡ Some tree) × (m ≡ n)
in_tree_means None m tree n is = absurd (none-some (tree, n) is)
in_tree_means (Some own) m tree n is =
    let same = same_Some (own, m) (tree, n) is in
    (ap (λ p. Some p.0) same, ap (λ p. p.1) same)

-- a tree is current at one level only
one_level : (records : List Record) (key : Key) → slice_get records 0 ≡ Some (KeyRecord key) → (k level other tree : ℕ) → k ≤ length records
    → current level records ≡ Some tree → current other (take k records) ≡ Some tree → level ≡ other
one_level records key first k level other tree within is before =
    level_means records key first (length records) level tree (current_is level records tree is)
    ∙ sym (level_means records key first k other tree (current_before records k other tree within before))

module _ (records : List Record) (key : Key) (level tree n : ℕ) (first : slice_get records 0 ≡ Some (KeyRecord key))
    (is : current level records ≡ Some tree) (k : ℕ) (within : k ≤ length records) where
  reach_inside : (entry : Record) → Fits key records k entry → reaches key.secret (take k records) entry ≡ Some (tree, n)
      → n ≤ leaves_at key.secret level
  reach_inside (KeyRecord other) fits reached = absurd (none-some (tree, n) reached)
  reach_inside (ExtendRecord extend) (own, of, high, above, inside) reached =
      let (at, number) = in_tree_means (current (extend.level - 1) (take k records)) (extend.parent_leaf + 1) tree n reached in
      let same : level ≡ extend.level - 1 = one_level records key first k level (extend.level - 1) tree within is at in
      let here : own ≡ level = omega (arith, same, of) in
      let low : extend.parent_leaf < leaves_at key.secret level = subst (λ l. extend.parent_leaf < leaves_at key.secret l) here inside in
      omega (arith, low, number)
  reach_inside (BoundRecord bound) (above, inside, random) reached =
      let (at, number) = in_tree_means (current (bottom_of key.secret) (take k records)) (bound.leaf + 1) tree n reached in
      let same : level ≡ bottom_of key.secret = one_level records key first k level (bottom_of key.secret) tree within is at in
      let low : bound.leaf < leaves_at key.secret level = subst (λ l. bound.leaf < leaves_at key.secret l) (sym same) inside in
      omega (arith, low, number)
  reach_inside (Retire upto) (above, inside) reached =
      let (at, number) = in_tree_means (current (bottom_of key.secret) (take k records)) upto tree n reached in
      let same : level ≡ bottom_of key.secret = one_level records key first k level (bottom_of key.secret) tree within is at in
      let low : upto ≤ leaves_at key.secret level = subst (λ l. upto ≤ leaves_at key.secret l) (sym same) inside in
      omega (arith, low, number)
  reach_inside Moved fits reached = absurd (none-some (tree, n) reached)

pub next_inside : (records : List Record) (legal : IsLegal records) (level tree : ℕ) → current level records ≡ Some tree
    → next_leaf legal.key.secret records tree ≤ leaves_at legal.key.secret level
next_inside records legal level tree is = elim ((is_next legal.key.secret records tree).least) [
  | inl none ↦ omega (arith, none)
  | inr (k, entry, at, reached) ↦
      let within : k < length records = slice_get_within records k entry at in
      reach_inside records legal.key level tree (next_leaf legal.key.secret records tree) legal.first is k (omega (arith, within)) entry
      (legal.fits k entry at) reached
]

-- in memory no next leaf passes the end of its tree
pub tree_inside : (records : List Record) (key : Key) (level : ℕ) (tree : Tree) → IsLegal records → the_key records ≡ Some key
    → tree_at key.secret records level ≡ Some tree → tree.next ≤ leaves_at key.secret level
tree_inside records key level tree legal keyed is =
    by (current level records) refl is
  where
    by : (found : Option ℕ) → current level records ≡ found → with_next key.secret records found ≡ Some tree
        → tree.next ≤ leaves_at key.secret level
    by None none at = absurd (none-some tree at)
    by (Some place) here at =
        let own = same_Some (record { place = place; next = next_leaf key.secret records place }) tree at in
        let number : next_leaf key.secret records place ≡ tree.next = ap (λ t. t.next) own in
        let low : next_leaf key.secret records place ≤ leaves_at key.secret level =
        subst (λ k. next_leaf k.secret records place ≤ leaves_at k.secret level) (legal_key records key legal keyed)
        (next_inside records legal level place here) in
        omega (arith, low, number)

-- ---- the deepest level with a free leaf

-- no level from this one on has a free leaf
abbrev pub NoneFreeFrom : Secret → List Record → (level : ℕ) → Type 0
NoneFreeFrom secret records level = (below : ℕ) → level ≤ below → below < levels_of secret → free_at secret records below ≡ 0

pub none_free_up : (secret : Secret) (records : List Record) (level : ℕ) → free_at secret records (level - 1) ≤ 0 → NoneFreeFrom secret records level
    → NoneFreeFrom secret records (level - 1)
none_free_up secret records level none from below after within = elim (cases_eq below (level - 1)) [
  | inl same ↦ ap (free_at secret records) same ∙ omega (arith, none)
  | inr apart ↦ from below (omega (arith, after, apart)) within
]

pub deepest_found : (secret : Secret) (records : List Record) (level : ℕ) → 0 < level → level ≤ levels_of secret
    → 0 < free_at secret records (level - 1) → NoneFreeFrom secret records level → Some (level - 1) ≡ deepest secret records
deepest_found secret records level some within free from =
    sym (is_deepest secret records (level - 1) (omega (arith, some, within)) free
    (λ below after under. from below (omega (arith, after)) under))

pub deepest_nowhere : (secret : Secret) (records : List Record) → NoneFreeFrom secret records 0 → None ≡ deepest secret records
deepest_nowhere secret records from = by (deepest secret records) refl
  where
    by : (found : Option ℕ) → deepest secret records ≡ found → None ≡ found
    by None is = refl
    by (Some level) is =
        let (within, free, others) = deepest_is secret records level is in
        absurd (omega (arith, free, from level (omega arith) within))
