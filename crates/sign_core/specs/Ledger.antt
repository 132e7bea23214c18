-- What a ledger holds of the records in memory, and that it matches them.
use Rattle.std.specs.Prelude.{◌≡◌, ◌⊎◌, ℕ, ◌+◌, ◌-◌, ◌^◌, ◌<◌, Bool, if◌then◌else◌, nat_eq, nat_le, min}
use Rattle.std.specs.Prelude.{List, [], ◌∷◌, ◌++◌, length, replicate, take, drop, slice_get}
use Rattle.std.specs.Prelude.{Option, Some, None, option_map, is_some}
use Rattle.std.specs.Cmp.Lexicographic.{pointwise}
use Rattle.std.specs.declared.hash.FoldHasher.{FoldHasher}
use Rattle.std.specs.declared.hash.BuildHasherDefault.{BuildHasherDefault}
use Rattle.std.specs.HashMap.{HashMap, get, spare}
use Rattle.state_file.specs.Laws.{IsLegal, bottom_of}
use Rattle.state_file.specs.declared.record.Bound.{Bound}
use Rattle.state_file.specs.declared.record.Key.{Key}
use Rattle.state_file.specs.declared.record.Record.{Record}
use Rattle.state_file.specs.declared.record.Record.TheVariants.{Key as KeyRecord, Extend as ExtendRecord}
use Rattle.state_file.specs.declared.record.Record.TheVariants.{Bound as BoundRecord, Retire, Moved}
use Rattle.state_file.specs.declared.record.Secret.{Secret}
use Rattle.sign_core.specs.declared.name_map.NameMap.{NameMap}
use Rattle.sign_core.specs.declared.ledger.Binding.{Binding}
use Rattle.sign_core.specs.declared.ledger.RecordedTree.{RecordedTree}
use Rattle.sign_core.specs.declared.ledger.LedgerFault.{LedgerFault}
use Rattle.sign_core.specs.declared.ledger.LedgerFault.TheVariants.{Empty, Illegal, OutOfMemory}
use Rattle.sign_core.specs.declared.trees.Tree.{Tree}
use Rattle.sign_core.specs.Records.{binding_at, first_illegal, has_identifier, has_moved, the_key}
use Rattle.sign_core.specs.Trees.{HasTrees}
use Rattle.sign_core.specs.Textbook.{AllHaveSizes, current_at}

-- A ledger as callers see it: its key, its records from the Key on, and for how many more records it has memory.
pub record Table : Type 0 where
  pub key : Key
  pub records : List Record
  pub spare : ℕ

-- ---- maps

abbrev pub ByText : Type 0 → Type 0
ByText V = HashMap (List ℕ) V (BuildHasherDefault FoldHasher)

abbrev pub of_text : {V : Type 0} → ByText V → List ℕ → Option V
of_text entries text = get (pointwise nat_eq) entries text

abbrev pub ByPlace : Type 0 → Type 0
ByPlace V = HashMap ℕ V (BuildHasherDefault FoldHasher)

abbrev pub of_place : {V : Type 0} → ByPlace V → ℕ → Option V
of_place entries place = get nat_eq entries place

-- ---- bindings by name

-- the key of a name of at most 22 bytes: how many bytes it has, and these, filled up by zeros
abbrev pub short_text : (name : List ℕ) → List ℕ
short_text name = length name ∷ (name ++ replicate (22 - length name) 0)

-- a name's binding, in the map of short names or in the other
abbrev pub bound_at : NameMap → (name : List ℕ) → Option Binding
bound_at bindings name =
    if nat_le (length name) 22 then of_text bindings.short (short_text name) else of_text bindings.long name

-- for how many more names there is memory, whatever their lengths
abbrev pub spare_of : NameMap → ℕ
spare_of bindings = min (spare bindings.short) (spare bindings.long)

-- ---- what is kept of a record

-- an Extend, with the tree that was current above it
abbrev pub recorded_entry : List Record → (place : ℕ) → Option Record → Option RecordedTree
recorded_entry records place (Some (ExtendRecord extend)) =
    Some (record { extend = extend; parent = current_at (extend.level - 1) records place })
recorded_entry records place (Some (KeyRecord key)) = None
recorded_entry records place (Some (BoundRecord bound)) = None
recorded_entry records place (Some (Retire upto)) = None
recorded_entry records place (Some Moved) = None
recorded_entry records place None = None

abbrev pub recorded_at : List Record → (place : ℕ) → Option RecordedTree
recorded_at records place = recorded_entry records place (slice_get records place)

-- a binding with its place, and the bottom tree that was current before it
abbrev pub kept_of : Secret → List Record → (ℕ × Bound) → Binding
kept_of secret records (place, bound) = record {
  place = place;
  leaf = bound.leaf;
  randomizer = bound.randomizer;
  digest = bound.digest;
  tree = current_at (bottom_of secret) records place;
}

abbrev pub binding_kept : Secret → List Record → (name : List ℕ) → Option Binding
binding_kept secret records name = option_map (kept_of secret records) (binding_at records name)

-- ---- a ledger

-- A ledger's parts match its records. It has the Extends by place, the bindings by name, each I after the Key's, and
-- the current trees with their next leaves. It knows the number of records, and whether a Moved is last.
pub record IsTableOf (records : List Record) (key : Key) (made : ByPlace RecordedTree) (bindings : NameMap)
    (identifiers : ByText ℕ) (levels : List (Option Tree)) (count : ℕ) (moved : Bool) : Type 0 where
  pub legal : IsLegal records
  pub keyed : the_key records ≡ Some key
  pub sizes : AllHaveSizes records
  pub counted : count ≡ length records
  pub moved_is : moved ≡ has_moved records
  pub trees_are : HasTrees key.secret records levels
  pub recorded_are : (place : ℕ) → of_place made place ≡ recorded_at records place
  pub bindings_are : (name : List ℕ) → bound_at bindings name ≡ binding_kept key.secret records name
  pub identifiers_are : (identifier : List ℕ)
      → is_some (of_text identifiers identifier) ≡ has_identifier (drop 1 records) identifier

abbrev pub TakesMemory : Record → Type 0
TakesMemory (ExtendRecord extend) = Unit {0}
TakesMemory (BoundRecord bound) = Unit {0}
TakesMemory (KeyRecord key) = ⊥
TakesMemory (Retire upto) = ⊥
TakesMemory Moved = ⊥

-- ---- records that are taken up

abbrev pub ledger_fault_number : LedgerFault → ℕ
ledger_fault_number Empty = 40
ledger_fault_number (Illegal k) = 44
ledger_fault_number OutOfMemory = 46

-- ---- a list of records that is taken up

-- The list is legal up to a record that takes memory, or up to the 2^32nd; it isn't the first.
pub record RunsOutOfMemory (records : List Record) : Type 0 where
  pub place : ℕ
  pub entry : Record
  pub stands : slice_get records place ≡ Some entry
  pub legal : IsLegal (take (place + 1) records)
  pub later : 0 < place
  pub lacking : TakesMemory entry ⊎ (place ≡ 2 ^ 32 - 1)

-- why a list isn't taken up
abbrev pub IsRefused : List Record → LedgerFault → Type 0
IsRefused records Empty = records ≡ []
IsRefused records (Illegal k) = first_illegal records ≡ Some k
IsRefused records OutOfMemory = RunsOutOfMemory records
