-- Which lists of records a signer may stand on. A tree is named by the place of the record that makes it: the Key makes
-- tree 0, an Extend at place k tree k.
use Rattle.std.specs.Prelude.{◌≡◌, ◌≢◌, ℕ, zero, suc, ◌+◌, ◌-◌, ◌^◌, ◌<◌, ◌≤◌, List, [], ◌∷◌, length, replicate}
use Rattle.std.specs.Prelude.{slice_get, Bool, true, false, Option, Some, None}
use Rattle.typecodes.specs.declared.types.LmsPair.{LmsPair}
use Rattle.typecodes.specs.Types.{height_of, xmss_height_of}
use Rattle.state_file.specs.File.{SpellsRecords}
use Rattle.state_file.specs.declared.record.Bound.{Bound}
use Rattle.state_file.specs.declared.record.Extend.{Extend}
use Rattle.state_file.specs.declared.record.Key.{Key}
use Rattle.state_file.specs.declared.record.Record.{Record}
use Rattle.state_file.specs.declared.record.Record.TheVariants.{Key as KeyRecord, Extend as ExtendRecord}
use Rattle.state_file.specs.declared.record.Record.TheVariants.{Bound as BoundRecord, Retire, Moved}
use Rattle.state_file.specs.declared.record.Secret.{Secret}
use Rattle.state_file.specs.declared.record.Secret.TheVariants.{Lms, Hss, Xmss}
use Rattle.state_file.specs.declared.record.Version.TheVariants.{One}

-- ---- keys

-- the number of levels; only HSS may have more than one
abbrev pub levels_of : Secret → ℕ
levels_of (Hss levels identifier seed) = length levels
levels_of _ = 1

-- the level whose trees sign messages
abbrev pub bottom_of : Secret → ℕ
bottom_of secret = levels_of secret - 1

abbrev pub tree_leaves_at : List LmsPair → ℕ → ℕ
tree_leaves_at [] level = 0
tree_leaves_at (pair ∷ rest) zero = 2 ^ height_of pair.tree
tree_leaves_at (pair ∷ rest) (suc level) = tree_leaves_at rest level

abbrev pub leaves_at : Secret → ℕ → ℕ
leaves_at (Lms secret) level = 2 ^ height_of secret.pair.tree
leaves_at (Hss levels identifier seed) level = tree_leaves_at levels level
leaves_at (Xmss secret) level = 2 ^ xmss_height_of secret.tree

-- the I of a key's tree; XMSS has none
abbrev pub identifier_of_secret : Secret → Option (List ℕ)
identifier_of_secret (Lms secret) = Some secret.identifier
identifier_of_secret (Hss levels identifier seed) = Some identifier
identifier_of_secret (Xmss secret) = None

-- the I that a record brings, if any
abbrev pub identifier_of : Record → Option (List ℕ)
identifier_of (KeyRecord key) = identifier_of_secret key.secret
identifier_of (ExtendRecord extend) = Some extend.identifier
identifier_of _ = None

-- Bindings record C; for XMSS these bytes are zero.
abbrev pub HasRandomizer : Secret → List ℕ → Type 0
HasRandomizer (Lms secret) randomizer = Unit {0}
HasRandomizer (Hss levels identifier seed) randomizer = Unit {0}
HasRandomizer (Xmss secret) randomizer = randomizer ≡ replicate 32 0

-- ---- trees

-- The last Extend of a level before place k is at place j.
pub record IsLastExtend (records : List Record) (k level j : ℕ) : Type 0 where
  pub extend : Extend
  pub stands : slice_get records j ≡ Some (ExtendRecord extend)
  pub of_level : extend.level ≡ level
  pub before : j < k
  pub last : (i : ℕ) (other : Extend) → j < i → i < k → slice_get records i ≡ Some (ExtendRecord other)
      → other.level ≢ level

-- The current tree of a level before place k. At level 0 it is the Key's. Below, it is the tree of the level's last
-- Extend, if the tree that was current above at that Extend still is.
abbrev pub IsCurrent : List Record → ℕ → ℕ → ℕ → Type 0
IsCurrent records k zero tree = tree ≡ 0
IsCurrent records k (suc level) tree =
    IsLastExtend records k (suc level) tree
    × ((above : ℕ) × IsCurrent records k level above × IsCurrent records tree level above)

-- The record at place k names a leaf of a tree: an Extend its parent leaf, a Bound its leaf in the current bottom tree.
abbrev pub Names : Secret → List Record → ℕ → Record → (tree leaf : ℕ) → Type 0
Names secret records k (KeyRecord key) tree leaf = ⊥
Names secret records k (ExtendRecord extend) tree leaf = (level : ℕ) × (extend.level ≡ level + 1)
    × IsCurrent records k level tree × (leaf ≡ extend.parent_leaf)
Names secret records k (BoundRecord bound) tree leaf = IsCurrent records k (bottom_of secret) tree × (leaf ≡ bound.leaf)
Names secret records k (Retire upto) tree leaf = ⊥
Names secret records k Moved tree leaf = ⊥

-- ---- legal lists

-- What a record at place k needs by itself: current trees, and numbers in range. A Moved is the last record, under a
-- Key of version 1.
abbrev pub Fits : Key → List Record → ℕ → Record → Type 0
Fits key records k (KeyRecord other) = k ≡ 0
Fits key records k (ExtendRecord extend) =
    (level : ℕ) × (extend.level ≡ level + 1) × (extend.level < levels_of key.secret)
    × ((tree : ℕ) × IsCurrent records k level tree) × (extend.parent_leaf < leaves_at key.secret level)
Fits key records k (BoundRecord bound) =
    ((tree : ℕ) × IsCurrent records k (bottom_of key.secret) tree)
    × (bound.leaf < leaves_at key.secret (bottom_of key.secret)) × HasRandomizer key.secret bound.randomizer
Fits key records k (Retire upto) =
    ((tree : ℕ) × IsCurrent records k (bottom_of key.secret) tree)
    × (upto ≤ leaves_at key.secret (bottom_of key.secret))
Fits key records k Moved = (key.version ≡ One) × (k + 1 ≡ length records)

pub record IsLegal (records : List Record) : Type 0 where
  -- it begins with a Key
  pub key : Key
  pub first : slice_get records 0 ≡ Some (KeyRecord key)
  -- each record fits; so there is no other Key, and nothing after a Moved
  pub fits : (k : ℕ) (entry : Record) → slice_get records k ≡ Some entry → Fits key records k entry
  -- no two trees have the same I
  pub identifiers : (j k : ℕ) (a b : Record) (identifier : List ℕ) → j < k → slice_get records j ≡ Some a
      → slice_get records k ≡ Some b
      → identifier_of a ≡ Some identifier → identifier_of b ≢ Some identifier
  -- no two bindings have the same name
  pub names : (j k : ℕ) (a b : Bound) → j < k → slice_get records j ≡ Some (BoundRecord a)
      → slice_get records k ≡ Some (BoundRecord b) → a.name ≢ b.name
  -- of two records that name leaves of one tree, the later names the greater leaf
  pub rising : (j k : ℕ) (a b : Record) (tree leaf later : ℕ) → j < k → slice_get records j ≡ Some a
      → slice_get records k ≡ Some b
      → Names key.secret records j a tree leaf → Names key.secret records k b tree later → leaf < later
  -- no record names a leaf that was retired before
  pub retired : (j k : ℕ) (upto : ℕ) (b : Record) (tree leaf : ℕ) → j < k → slice_get records j ≡ Some (Retire upto)
      → slice_get records k ≡ Some b
      → IsCurrent records j (bottom_of key.secret) tree → Names key.secret records k b tree leaf → upto ≤ leaf

-- ---- files that were moved

abbrev pub is_moved : Option Record → Bool
is_moved (Some Moved) = true
is_moved _ = false

abbrev pub has_moved : List Record → Bool
has_moved records = is_moved (slice_get records (length records - 1))

-- ---- signing

-- A content can sign: it spells a legal list that doesn't end with a Moved.
pub record CanSign (content : List ℕ) : Type 0 where
  pub records : List Record
  pub spelled : SpellsRecords content records
  pub legal : IsLegal records
  pub stays : slice_get records (length records - 1) ≢ Some Moved
