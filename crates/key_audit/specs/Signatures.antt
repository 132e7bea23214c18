-- How many new names a key can still sign, by what a listing shows.
use Rattle.std.specs.Prelude.{◌≡◌, ℕ, ◌+◌, ◌-◌, ◌*◌, ◌^◌, List, [], ◌∷◌, length, slice_get, Bool, true, false}
use Rattle.std.specs.Prelude.{Option, Some, None, if◌then◌else◌, nat_lt}
use Rattle.typecodes.specs.declared.spec.Spec.{Spec}
use Rattle.typecodes.specs.declared.spec.Spec.TheVariants.{Lms, Hss, Xmss}
use Rattle.typecodes.specs.declared.types.LmsPair.{LmsPair}
use Rattle.typecodes.specs.Types.{height_of, xmss_height_of}
use Rattle.state_file.specs.Laws.{has_moved}
use Rattle.state_file.specs.declared.record.Key.{Key}
use Rattle.state_file.specs.declared.record.Record.{Record}
use Rattle.sign_core.specs.Left.{signatures_left}
use Rattle.key_audit.specs.declared.listing.Entry.{Entry}
use Rattle.key_audit.specs.declared.listing.Entry.TheVariants.{Moved}
use Rattle.key_audit.specs.Listing.{Shown, shown_of}

-- how many leaves this pair's tree has; 1 without a pair
abbrev pub pair_leaves : Option LmsPair → ℕ
pair_leaves (Some pair) = 2 ^ height_of pair.tree
pair_leaves None = 1

-- how many leaves a tree of this level has
abbrev pub tree_leaves_at : Spec → (level : ℕ) → ℕ
tree_leaves_at (Lms pair) level = 2 ^ height_of pair.tree
tree_leaves_at (Hss levels) level = pair_leaves (slice_get levels level)
tree_leaves_at (Xmss tree) level = 2 ^ xmss_height_of tree

-- How many leaves the bottom trees can still have in use, from a level on: `trees` new trees of this level, which free
-- leaves above can sign, and the free leaves of this level's current tree and of those below.
unfoldable pub names_left : Spec → (level trees : ℕ) → (left : List ℕ) → ℕ
names_left spec level trees [] = trees
names_left spec level trees (free ∷ below) =
    names_left spec (level + 1) (trees * tree_leaves_at spec level + free) below

-- whether the last of these entries is a Moved
abbrev pub is_moved_entry : Option Entry → Bool
is_moved_entry (Some Moved) = true
is_moved_entry _ = false

abbrev pub ends_moved : List Entry → Bool
ends_moved entries = is_moved_entry (slice_get entries (length entries - 1))

-- How many new names the key can still sign by this file: no tree above the top one is ever made, and a file whose
-- records go on elsewhere signs none. A file also takes 2^31 records at most.
abbrev pub signatures_of : Shown → ℕ
signatures_of shown = if ends_moved shown.entries then 0 else names_left shown.spec 0 0 shown.left

-- It is the number that the signer's requests take from, one for each new name (`left_law` of `sign_core`).
abbrev pub CountLaw : Type 0
CountLaw = (records : List Record) (key : Key) → signatures_of (shown_of records key)
    ≡ (if has_moved records then 0 else signatures_left key.secret records)

-- the number, if it is less than 2^64
abbrev pub below_2_64 : ℕ → Option ℕ
below_2_64 n = if nat_lt n (2 ^ 64) then Some n else None
