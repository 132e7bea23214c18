-- What a cache keeps of a secret's tree, and which caches a step makes or leaves.
use Rattle.std.specs.Prelude.{◌≡◌, ◌⊎◌, ℕ, ◌<◌, ◌≤◌, List, Some}
use Rattle.merkle.specs.Tree.{Joins, Leaves}
use Rattle.state_file.specs.declared.record.Key.{Key}
use Rattle.state_file.specs.declared.record.Record.{Record}
use Rattle.sign_core.specs.Caches.{Cached, HasLevel, HasRenewed, HasXmss, cache_at}
use Rattle.sign_core.specs.Records.{current}
use Rattle.sign_core.specs.Textbook.{Trees, secret_at, trees_of}

-- A cache of a secret's tree has the tree's height, leaves and joins.
pub record IsTreeCache (height : ℕ) (leaves : Leaves) (joins : Joins) (kept_height : ℕ) (kept_leaves : Leaves)
    (kept_joins : Joins) : Type 0 where
  pub same_height : kept_height ≡ height
  pub same_leaves : kept_leaves ≡ leaves
  pub same_joins : kept_joins ≡ joins

-- The cache of a level's current tree is there, if the tree's record stands before this place.
abbrev pub HasOwn : Trees → List Record → (level before : ℕ) → Cached → Type 0
HasOwn trees records level before cached = (tree : ℕ) → current level records ≡ Some tree → tree < before
    → HasLevel cached level (secret_at trees records tree)

-- The caches of the levels down to this one stay, and an XMSS tree's.
pub record KeepsDownTo (level : ℕ) (old new : Cached) : Type 0 where
  pub levels : (k : ℕ) → k ≤ level → cache_at new.levels k ≡ cache_at old.levels k
  pub xmss : new.xmss ≡ old.xmss

-- Each current tree whose record stands at this place or behind it is of a level down to this one, and has its cache.
abbrev pub HasBegunTo : Key → List Record → (level start : ℕ) → Cached → Type 0
HasBegunTo key records level start cached = (trees : Trees) (lower tree : ℕ) → trees_of key.secret ≡ Some trees
    → current lower records ≡ Some tree → start ≤ tree
    → (lower ≤ level) × HasLevel cached lower (secret_at trees records tree)

-- Each level has the cache that it had; or, down to this one, its current tree's.
pub record RenewsDownTo (key : Key) (records : List Record) (lowest : ℕ) (old new : Cached) : Type 0 where
  pub levels : (level : ℕ) → (cache_at new.levels level ≡ cache_at old.levels level)
      ⊎ ((level ≤ lowest) × HasRenewed key records level new)
  pub xmss : (new.xmss ≡ old.xmss) ⊎ HasXmss key new
