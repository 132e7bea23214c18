-- The current tree of a level with a free leaf.
use Rattle.std.proofs.Common.{◌≡◌, ◌∙◌, ℕ, ◌-◌, ◌^◌, ◌<◌, List, length, Option, Some, None}
use Rattle.std.proofs.Common.{sym, ap, subst, arith, if◌then◌else◌}
use Rattle.std.specs.Prelude.{is_some}
use Rattle.std.proofs.lemmas.Option.{none-some, same_Some}
use Rattle.typecodes.specs.Types.{height_of}
use Rattle.state_file.specs.Laws.{leaves_at, levels_of}
use Rattle.state_file.specs.declared.record.Key.{Key}
use Rattle.state_file.specs.declared.record.Record.{Record}
use Rattle.state_file.specs.declared.record.Secret.{Secret}
use Rattle.sign_core.specs.declared.trees.Tree.{Tree}
use Rattle.sign_core.specs.Records.{current, free_at, the_key, next_at}
use Rattle.sign_core.proofs.records.Parts.{next_of}
use Rattle.sign_core.specs.inner.KeyTrees.{IsTreeAt}
use Rattle.sign_core.specs.Trees.{tree_at, with_next}
use Rattle.sign_core.specs.Textbook.{Trees, secret_at, trees_of}
use Rattle.sign_core.proofs.records.Keys.{key_stands}
use Rattle.sign_core.proofs.chains.ChainsInMemory.{current_stands, leaves_of_level, pair_at}
use Rattle.sign_core.proofs.records.CurrentTrees.{current_is}

-- ---- the current tree of a level with a free leaf

pub record HasFree (secret : Secret) (records : List Record) (level place leaf : ℕ) : Type 0 where
  pub current_is : current level records ≡ Some place
  pub leaf_is : leaf ≡ next_at secret records level
  pub free : next_at secret records level < leaves_at secret level

free_by : (secret : Secret) (records : List Record) (found : Option ℕ) (tree : Tree) (n : ℕ) → with_next secret records found ≡ Some tree
    → 0 < (if is_some found then n - next_of secret records found else 0)
    → (found ≡ Some tree.place) × (tree.next ≡ next_of secret records found) × (next_of secret records found < n)
free_by secret records None tree n is free = absurd (omega (arith, free))
free_by secret records (Some place) tree n is free =
    let same = same_Some _ tree is in
    (ap (λ (t : Tree). Some t.place) same, sym (ap (λ (t : Tree). t.next) same), omega (arith, free))

none_free : (secret : Secret) (records : List Record) (found : Option ℕ) (n : ℕ) → with_next secret records found ≡ None
    → 0 < (if is_some found then n - next_of secret records found else 0) → ⊥
none_free secret records None n is free = omega (arith, free)
none_free secret records (Some place) n is free = none-some _ (sym is)

pub has_free : (secret : Secret) (records : List Record) (level : ℕ) (found : Option Tree) (tree : Tree) → found ≡ tree_at secret records level
    → found ≡ Some tree → 0 < free_at secret records level → HasFree secret records level tree.place tree.next
has_free secret records level found tree is some free =
    let (at, next, below) = free_by secret records (current level records) tree (leaves_at secret level) (sym is ∙ some) free in
    record { current_is = at; leaf_is = next; free = below }

pub not_free : (secret : Secret) (records : List Record) (level : ℕ) (found : Option Tree) → found ≡ tree_at secret records level
    → found ≡ None → 0 < free_at secret records level → ⊥
not_free secret records level found is none free = none_free secret records (current level records) (leaves_at secret level) (sym is ∙ none) free

-- ---- the tree stands, and the leaf is one of its leaves

pub tree_stands : (records : List Record) (level place : ℕ) → current level records ≡ Some place → IsTreeAt records level place
tree_stands records level place is = current_stands records (length records) level place (current_is level records place is)

pub leaf_inside : (key : Key) (trees : Trees) (records : List Record) (level place leaf : ℕ) → the_key records ≡ Some key → trees_of key.secret ≡ Some trees
    → level < levels_of key.secret → HasFree key.secret records level place leaf → leaf < 2 ^ height_of (secret_at trees records place).pair.tree
leaf_inside key trees records level place leaf keyed these within_limit has =
    let at = tree_stands records level place has.current_is in
    subst (λ n. leaf < n)
    (leaves_of_level key.secret trees level these within_limit
    ∙ ap (λ p. 2 ^ height_of p.tree) (sym (pair_at key trees records level place (key_stands records key keyed) these at)))
    (omega (arith, has.leaf_is, has.free))
