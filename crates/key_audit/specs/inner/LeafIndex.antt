-- What is kept of the leaves that signatures have used.
use Rattle.std.specs.Prelude.{◌≡◌, ◌≢◌, ℕ, ◌≤◌, true, false, ◌&&◌, List}
use Rattle.std.specs.Prelude.{◌++◌, Contains, map, min, Option, Some, None, if◌then◌else◌}
use Rattle.sign_core.specs.Ledger.{ByText, of_text}
use Rattle.sign_core.specs.Records.{are_same}
use Rattle.key_audit.specs.declared.leaf_index.FirstUse.{FirstUse}
use Rattle.key_audit.specs.declared.uses.LeafUse.{LeafUse}

-- a leaf's use for a digest, by the signature at a place
pub record UseAt : Type 0 where
  pub place : ℕ
  pub leaf : List ℕ
  pub digest : List ℕ

abbrev pub use_at : ℕ → LeafUse → UseAt
use_at place used = record { place = place; leaf = used.leaf; digest = used.digest }

-- ---- what is kept of one leaf

-- The kept use of a leaf: none comes earlier, and `one_digest` says whether all have its digest.
pub record IsFirstUse (P : UseAt → Type 0) (leaf : List ℕ) (first : FirstUse) : Type 0 where
  pub used : P (record { place = first.place; leaf = leaf; digest = first.digest })
  pub least : (other : UseAt) → P other → other.leaf ≡ leaf → first.place ≤ other.place
  pub alike : first.one_digest ≡ true → (other : UseAt) → P other → other.leaf ≡ leaf → other.digest ≡ first.digest
  pub mixed : first.one_digest ≡ false
      → (other : UseAt) × P other × (other.leaf ≡ leaf) × (other.digest ≢ first.digest)

abbrev pub IsKept : (P : UseAt → Type 0) (leaf : List ℕ) → Option FirstUse → Type 0
IsKept P leaf None = (other : UseAt) → P other → other.leaf ≢ leaf
IsKept P leaf (Some first) = IsFirstUse P leaf first

-- For the uses that have P, what is kept of each leaf is right.
abbrev pub AreKept : (P : UseAt → Type 0) → ByText FirstUse → Type 0
AreKept P entries = (leaf : List ℕ) → IsKept P leaf (of_text entries leaf)

-- what is kept of a leaf after one more use
abbrev pub with_use : Option FirstUse → (place : ℕ) (digest : List ℕ) → FirstUse
with_use None place digest = record { place = place; digest = digest; one_digest = true }
with_use (Some first) place digest =
    record { place = first.place; digest = first.digest; one_digest = first.one_digest && are_same first.digest digest }

-- One use was added, and other leaves keep theirs.
pub record AddsUse (place : ℕ) (used : LeafUse) (old new : ByText FirstUse) : Type 0 where
  pub here : of_text new used.leaf ≡ Some (with_use (of_text old used.leaf) place used.digest)
  pub elsewhere : (leaf : List ℕ) → leaf ≢ used.leaf → of_text new leaf ≡ of_text old leaf

-- All come from this place or before.
abbrev pub AreUpTo : ℕ → (UseAt → Type 0) → Type 0
AreUpTo place P = (other : UseAt) → P other → other.place ≤ place

-- The uses of one signature were added, to any uses from its place or before.
abbrev pub AddsUses : (place : ℕ) (uses : List LeafUse) (old new : ByText FirstUse) → Type 0
AddsUses place uses old new = (before : List UseAt) → AreUpTo place (Contains before) → AreKept (Contains before) old
    → AreKept (Contains (before ++ map (use_at place) uses)) new

-- ---- uses of a leaf for another digest

-- the first signature that used a leaf, if any use had another digest than this one
abbrev pub conflict_of_use : Option FirstUse → (digest : List ℕ) → Option ℕ
conflict_of_use None digest = None
conflict_of_use (Some first) digest =
    if first.one_digest && are_same first.digest digest then None else Some first.place

abbrev pub conflict_at : ByText FirstUse → LeafUse → Option ℕ
conflict_at entries used = conflict_of_use (of_text entries used.leaf) used.digest

-- The least such place for a list of uses, or none.
abbrev pub IsFirstConflict : ByText FirstUse → List LeafUse → Option ℕ → Type 0
IsFirstConflict entries uses None = (used : LeafUse) → Contains uses used → conflict_at entries used ≡ None
IsFirstConflict entries uses (Some i) =
    ((used : LeafUse) × Contains uses used × (conflict_at entries used ≡ Some i))
    × ((used : LeafUse) (k : ℕ) → Contains uses used → conflict_at entries used ≡ Some k → i ≤ k)

-- the lesser of two places
abbrev pub min_some : Option ℕ → Option ℕ → Option ℕ
min_some None b = b
min_some (Some a) None = Some a
min_some (Some a) (Some b) = Some (min a b)
