-- The caches of current trees, and which one is missing for a signature.
use Rattle.std.specs.Prelude.{◌≡◌, ◌≢◌, ◌⊎◌, ℕ, ◌<◌, ◌≤◌, ◌-◌, List, length, slice_index_or, Option, None, Some}
use Rattle.typecodes.specs.declared.secret.LmsSecret.{LmsSecret}
use Rattle.typecodes.specs.declared.secret.XmssSecret.{XmssSecret}
use Rattle.state_file.specs.declared.record.Key.{Key}
use Rattle.state_file.specs.declared.record.Record.{Record}
use Rattle.state_file.specs.declared.record.Secret.TheVariants.{Xmss}
use Rattle.sign_core.specs.Records.{current}
use Rattle.sign_core.specs.Textbook.{Trees, secret_at, trees_of}

-- A signer's caches as callers see them: for each level the secret of its cached LMS tree, and the secret of a cached
-- XMSS tree.
pub record Cached : Type 0 where
  pub levels : List (Option LmsSecret)
  pub xmss : Option XmssSecret

-- the secret of the tree whose cache a level has
abbrev pub cache_at : List (Option LmsSecret) → (level : ℕ) → Option LmsSecret
cache_at levels level = slice_index_or levels level None

abbrev pub HasLevel : Cached → (level : ℕ) → LmsSecret → Type 0
HasLevel cached level secret = cache_at cached.levels level ≡ Some secret

abbrev pub HasCurrent : Trees → List Record → (level : ℕ) → Cached → Type 0
HasCurrent trees records level cached =
    (tree : ℕ) × (current level records ≡ Some tree) × HasLevel cached level (secret_at trees records tree)

-- The cache of a current tree is missing, at some level down to this one, for a tree whose record stands before this
-- place.
pub record LacksLevel (key : Key) (records : List Record) (lowest before : ℕ) (cached : Cached) : Type 0 where
  pub trees : Trees
  pub of_key : trees_of key.secret ≡ Some trees
  pub level : ℕ
  pub down_to : level ≤ lowest
  pub tree : ℕ
  pub is_current : current level records ≡ Some tree
  pub earlier : tree < before
  pub lacks : HasLevel cached level (secret_at trees records tree) → ⊥

pub record LacksXmss (key : Key) (cached : Cached) : Type 0 where
  pub secret : XmssSecret
  pub of_key : key.secret ≡ Xmss secret
  pub lacks : cached.xmss ≢ Some secret

-- A cache that a signature needs is missing: a current LMS tree's, down to this level and by the records before this
-- place, or an XMSS key's.
abbrev pub LacksCache : Key → List Record → (lowest : Option ℕ) → (before : ℕ) → Cached → Type 0
LacksCache key records None before cached = ⊥
LacksCache key records (Some lowest) before cached =
    LacksLevel key records lowest before cached ⊎ LacksXmss key cached

-- All of them are there.
abbrev pub HasCaches : Key → List Record → (lowest : Option ℕ) → (before : ℕ) → Cached → Type 0
HasCaches key records lowest before cached = LacksCache key records lowest before cached → ⊥

-- The cache of a level's current tree is missing, and the tree's record stands before this place.
pub record LacksOwn (trees : Trees) (records : List Record) (level before : ℕ) (cached : Cached) : Type 0 where
  pub tree : ℕ
  pub is_current : current level records ≡ Some tree
  pub earlier : tree < before
  pub lacks : HasLevel cached level (secret_at trees records tree) → ⊥

-- A level lacked its current tree's cache, and memory was refused for it: the level has none now. The current trees
-- above have theirs, and the caches below are as they were.
pub record LosesLevel (key : Key) (records : List Record) (lowest before : ℕ) (old new : Cached) : Type 0 where
  pub trees : Trees
  pub of_key : trees_of key.secret ≡ Some trees
  pub level : ℕ
  pub down_to : level ≤ lowest
  pub lacked : LacksOwn trees records level before old
  pub above : 1 ≤ level → HasCaches key records (Some (level - 1)) before new
  pub here : cache_at new.levels level ≡ None
  pub below : (k : ℕ) → level < k → cache_at new.levels k ≡ cache_at old.levels k
  pub xmss : new.xmss ≡ old.xmss

pub record LosesXmss (key : Key) (old new : Cached) : Type 0 where
  pub lacked : LacksXmss key old
  pub here : new.xmss ≡ None
  pub levels : new.levels ≡ old.levels

-- Memory was refused for a cache that a signature needs: a level's, or an XMSS key's.
abbrev pub LosesCache : Key → List Record → (lowest before : ℕ) → (old new : Cached) → Type 0
LosesCache key records lowest before old new = LosesLevel key records lowest before old new ⊎ LosesXmss key old new

-- Each current tree whose record stands at this place or behind it has its cache.
abbrev pub HasBegun : Key → List Record → (start : ℕ) → Cached → Type 0
HasBegun key records start cached = (trees : Trees) (level tree : ℕ) → trees_of key.secret ≡ Some trees
    → current level records ≡ Some tree → start ≤ tree → HasLevel cached level (secret_at trees records tree)

-- Each current tree down to this level has its cache.
abbrev pub HasAll : Key → List Record → (lowest : ℕ) → Cached → Type 0
HasAll key records lowest cached = HasCaches key records (Some lowest) (length records) cached

-- A level has its current tree's cache.
abbrev pub HasRenewed : Key → List Record → (level : ℕ) → Cached → Type 0
HasRenewed key records level cached =
    (trees : Trees) × (trees_of key.secret ≡ Some trees) × HasCurrent trees records level cached

-- An XMSS key has its tree's cache.
abbrev pub HasXmss : Key → Cached → Type 0
HasXmss key cached = (secret : XmssSecret) × (key.secret ≡ Xmss secret) × (cached.xmss ≡ Some secret)

-- Each level has the cache that it had, or its current tree's. So has an XMSS key.
pub record KeepsOrRenews (key : Key) (records : List Record) (old new : Cached) : Type 0 where
  pub levels : (level : ℕ) → (cache_at new.levels level ≡ cache_at old.levels level) ⊎ HasRenewed key records level new
  pub xmss : (new.xmss ≡ old.xmss) ⊎ HasXmss key new
