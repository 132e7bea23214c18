-- What a key's records determine, for every scheme: current trees, their free leaves, what a new name needs, and
-- bindings. A tree is named by the place of the record that makes it.
use Rattle.std.specs.Prelude.{◌≡◌, ◌⊎◌, ℕ, zero, suc, ◌+◌, ◌-◌, ◌≤◌, Bool, true, false, not, List, [], ◌∷◌}
use Rattle.std.specs.Prelude.{length, take, map, reverse, fold, max, nat_eq, nat_lt, nat_le, find, slice_get, is_some}
use Rattle.std.specs.Prelude.{Option, Some, None, option_map, unwrap_or, if◌then◌else◌, ◌&&◌, replicate}
use Rattle.std.specs.Cmp.Lexicographic.{pointwise}
use Rattle.std.specs.List.{range_with_len}
use Rattle.std.specs.Option.{option_map_or}
use Rattle.state_file.specs.Laws.{bottom_of, identifier_of, leaves_at, levels_of}
pub use Rattle.state_file.specs.Laws.{has_moved, is_moved}
use Rattle.state_file.specs.Slot.{name_most}
use Rattle.state_file.specs.declared.record.Bound.{Bound}
use Rattle.state_file.specs.declared.record.Key.{Key}
use Rattle.state_file.specs.declared.record.Record.{Record}
use Rattle.state_file.specs.declared.record.Record.TheVariants.{Key as KeyRecord, Extend as ExtendRecord}
use Rattle.state_file.specs.declared.record.Record.TheVariants.{Bound as BoundRecord, Retire, Moved}
use Rattle.state_file.specs.declared.record.Secret.{Secret}
use Rattle.state_file.specs.declared.record.Secret.TheVariants.{Lms, Hss, Xmss}
use Rattle.state_file.specs.declared.record.Version.{Version}
use Rattle.state_file.specs.declared.record.Version.TheVariants.{One, Two}
use Rattle.typecodes.specs.declared.spec.Spec.{Spec}
use Rattle.typecodes.specs.declared.spec.Spec.TheVariants as spec

-- ---- the key

-- the key: record 0
abbrev pub the_key : List Record → Option Key
the_key (KeyRecord key ∷ rest) = Some key
the_key _ = None

-- the types of a secret's trees
abbrev pub types_of : Secret → Spec
types_of (Lms secret) = spec.Lms secret.pair
types_of (Hss levels identifier seed) = spec.Hss levels
types_of (Xmss secret) = spec.Xmss secret.tree

-- ---- trees

-- whether a record makes a tree of a level below the top
abbrev pub makes : ℕ → Record → Bool
makes level (ExtendRecord extend) = nat_eq extend.level level
makes level _ = false

-- the place of the last Extend of a level, in records from place k on; else what was found before
abbrev pub last_extend : (level k : ℕ) → Option ℕ → List Record → Option ℕ
last_extend level k found [] = found
last_extend level k found (entry ∷ rest) = last_extend level (k + 1) (if makes level entry then Some k else found) rest

abbrev pub same_tree : Option ℕ → Option ℕ → Bool
same_tree (Some a) (Some b) = nat_eq a b
same_tree _ _ = false

-- the tree of an Extend at place j, if the tree above is still the one that was current before it
abbrev pub under : (above : List Record → Option ℕ) → List Record → Option ℕ → Option ℕ
under above records None = None
under above records (Some j) = if same_tree (above (take j records)) (above records) then Some j else None

-- The current tree of a level. At level 0 it is the Key's; below, the tree of the level's last Extend, if its parent is
-- the current tree above.
abbrev pub current : ℕ → List Record → Option ℕ
current zero = λ records. Some 0
current (suc level) = λ records. under (current level) records (last_extend (suc level) 0 None records)

-- ---- leaves

-- this tree, if there is one, and a number above leaves in it
abbrev pub in_tree : Option ℕ → ℕ → Option (ℕ × ℕ)
in_tree found n = option_map (λ tree. (tree, n)) found

-- the tree in which a record names or retires leaves, and the number above these leaves
abbrev pub reaches : Secret → (before : List Record) → Record → Option (ℕ × ℕ)
reaches secret before (ExtendRecord extend) = in_tree (current (extend.level - 1) before) (extend.parent_leaf + 1)
reaches secret before (BoundRecord bound) = in_tree (current (bottom_of secret) before) (bound.leaf + 1)
reaches secret before (Retire upto) = in_tree (current (bottom_of secret) before) upto
reaches secret before _ = None

-- the number that is reached in one tree; 0 where none is
abbrev pub reached_number : (tree : ℕ) → Option (ℕ × ℕ) → ℕ
reached_number tree None = 0
reached_number tree (Some (other, n)) = if nat_eq other tree then n else 0

-- the numbers that records from place k on reach in a tree
abbrev pub reached_numbers : Secret → (all : List Record) → (tree k : ℕ) → List Record → List ℕ
reached_numbers secret all tree k [] = []
reached_numbers secret all tree k (entry ∷ rest) =
    reached_number tree (reaches secret (take k all) entry) ∷ reached_numbers secret all tree (k + 1) rest

-- the least number above every leaf that records name or retire in a tree
abbrev pub next_leaf : Secret → List Record → (tree : ℕ) → ℕ
next_leaf secret records tree = fold max 0 (reached_numbers secret records tree 0 records)

-- The same without a fold: no record names or retires a leaf from it on, and where it isn't 0, one reaches it.
pub record IsNext (secret : Secret) (records : List Record) (tree next : ℕ) : Type 0 where
  pub above : (k n : ℕ) (entry : Record) → slice_get records k ≡ Some entry
      → reaches secret (take k records) entry ≡ Some (tree, n) → n ≤ next
  pub least : (next ≡ 0) ⊎ ((k : ℕ) × (entry : Record) × (slice_get records k ≡ Some entry)
      × (reaches secret (take k records) entry ≡ Some (tree, next)))

-- the next leaf of a level's current tree, 0 where there is none
abbrev pub next_at : Secret → List Record → (level : ℕ) → ℕ
next_at secret records level = unwrap_or (option_map (next_leaf secret records) (current level records)) 0

-- how many leaves are free in a level's current tree, 0 where there is none
abbrev pub free_at : Secret → List Record → (level : ℕ) → ℕ
free_at secret records level =
    if is_some (current level records) then leaves_at secret level - next_at secret records level else 0

-- and at each level, from the top down
abbrev pub free_counts : Secret → List Record → List ℕ
free_counts secret records = map (free_at secret records) (range_with_len 0 (levels_of secret))

-- ---- what a new name needs

-- the deepest level whose current tree has a free leaf
abbrev pub deepest : Secret → List Record → Option ℕ
deepest secret records =
    find (λ level. nat_lt 0 (free_at secret records level)) (reverse (range_with_len 0 (levels_of secret)))

-- How many records a new name needs: an Extend for each level below the deepest with a free leaf, and a Bound. Each
-- takes the next leaf of its parent tree, or of the bottom tree.
abbrev pub wanted_count : Secret → (deepest_level : ℕ) → ℕ
wanted_count secret level = levels_of secret - level

-- ---- what is bound

abbrev pub are_same : List ℕ → List ℕ → Bool
are_same a b = pointwise nat_eq a b

-- a name's binding in records that begin at place k: the first that binds it, with its place
abbrev pub first_binding : (name : List ℕ) (k : ℕ) → List Record → Option (ℕ × Bound)
first_binding name k [] = None
first_binding name k (BoundRecord bound ∷ rest) =
    if are_same bound.name name then Some (k, bound) else first_binding name (k + 1) rest
first_binding name k (entry ∷ rest) = first_binding name (k + 1) rest

-- a name's binding, with the place of its record
abbrev pub binding_at : List Record → (name : List ℕ) → Option (ℕ × Bound)
binding_at records name = first_binding name 0 records

-- whether a name is longer than a file of the key's version can hold
abbrev pub is_long : Key → (name : List ℕ) → Bool
is_long key name = nat_lt (name_most key.version) (length name)

-- whether one of these records brings this I
abbrev pub has_identifier : List Record → (identifier : List ℕ) → Bool
has_identifier records identifier =
    is_some (find (λ entry. option_map_or (λ own. are_same own identifier) (identifier_of entry) false) records)

-- ---- which records can be added

-- whether a leaf of a level's current tree can be named
abbrev pub is_free : Secret → List Record → (level leaf : ℕ) → Bool
is_free secret records level leaf =
    is_some (current level records) && nat_lt leaf (leaves_at secret level)
    && nat_le (next_at secret records level) leaf

-- a binding's C is any; for XMSS it is zero
abbrev pub has_randomizer : Secret → (randomizer : List ℕ) → Bool
has_randomizer (Xmss secret) randomizer = are_same randomizer (replicate 32 0)
has_randomizer _ randomizer = true

-- how many leaves a level's current tree has, 0 where there is none
abbrev pub leaves_of_current : Secret → List Record → (level : ℕ) → ℕ
leaves_of_current secret records level = if is_some (current level records) then leaves_at secret level else 0

-- whether records of this version may go on in another file, in version 2
abbrev pub can_move : Version → Bool
can_move One = true
can_move Two = false

-- whether a record can follow these, a legal list of one record or more
abbrev pub can_follow_legal : Key → (before : List Record) → Record → Bool
can_follow_legal key before (KeyRecord other) = false
can_follow_legal key before (ExtendRecord extend) =
    nat_le 1 extend.level && nat_lt extend.level (levels_of key.secret)
    && is_free key.secret before (extend.level - 1) extend.parent_leaf && not (has_identifier before extend.identifier)
can_follow_legal key before (BoundRecord bound) =
    is_free key.secret before (bottom_of key.secret) bound.leaf && not (is_some (binding_at before bound.name))
    && has_randomizer key.secret bound.randomizer
can_follow_legal key before (Retire upto) =
    is_some (current (bottom_of key.secret) before) && nat_le upto (leaves_at key.secret (bottom_of key.secret))
can_follow_legal key before Moved = can_move key.version

abbrev pub can_follow : Option Key → (before : List Record) → Record → Bool
can_follow (Some key) before entry = not (has_moved before) && can_follow_legal key before entry
can_follow None [] (KeyRecord key) = true
can_follow None before entry = false

-- the first record, from place k on, that can't follow the records before it
abbrev pub next_illegal : (all : List Record) → (k : ℕ) → List Record → Option ℕ
next_illegal all k [] = None
next_illegal all k (entry ∷ rest) =
    if can_follow (the_key (take k all)) (take k all) entry then next_illegal all (k + 1) rest else Some k

abbrev pub first_illegal : List Record → Option ℕ
first_illegal records = next_illegal records 0 records
