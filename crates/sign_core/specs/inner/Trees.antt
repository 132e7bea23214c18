-- What private functions alone cite of `Trees.antt`'s subject.
use Rattle.std.specs.Prelude.{◌≡◌, ℕ, ◌-◌, List, [], ◌∷◌, ◌++◌, length, slice_get, Option, Some, None, max, nat_eq}
use Rattle.std.specs.Prelude.{nat_lt, if◌then◌else◌}
use Rattle.state_file.specs.declared.record.Extend.{Extend}
use Rattle.state_file.specs.declared.record.Key.{Key}
use Rattle.state_file.specs.declared.record.Record.{Record}
use Rattle.state_file.specs.declared.record.Record.TheVariants.{Key as KeyRecord, Extend as ExtendRecord}
use Rattle.state_file.specs.declared.record.Secret.{Secret}
use Rattle.sign_core.specs.Records.{current}
use Rattle.sign_core.specs.declared.trees.Tree.{Tree}
use Rattle.sign_core.specs.Trees.{HasTrees, kept_at}

-- the place of a current tree; 0 where there is none
abbrev pub place_of : Option Tree → ℕ
place_of None = 0
place_of (Some tree) = tree.place

-- A level has a new tree, the levels above it keep theirs, and those below it have none.
abbrev pub IsBegun : (old : List (Option Tree)) (level place : ℕ) (new : List (Option Tree)) → Type 0
IsBegun old level place new = (k : ℕ) → kept_at new k
    ≡ (if nat_eq k level then Some (record { place = place; next = 0 })
    else if nat_lt k level then kept_at old k else None)

-- a tree whose next leaf is raised to at least this number
abbrev pub raised : (next : ℕ) → Option Tree → Option Tree
raised next None = None
raised next (Some tree) = Some (record { place = tree.place; next = max tree.next next })

-- The next leaf of a level's tree is raised to a number, if it was below it; the other levels keep theirs.
abbrev pub IsRaised : (old : List (Option Tree)) (level next : ℕ) (new : List (Option Tree)) → Type 0
IsRaised old level next new =
    (k : ℕ) → kept_at new k ≡ (if nat_eq k level then raised next (kept_at old k) else kept_at old k)

-- Kept trees match a list that begins with a Key also after an Extend, under the current tree of the level above.
abbrev pub FollowsExtend : (old : List (Option Tree)) (level parent_leaf place : ℕ) (new : List (Option Tree)) → Type 0
FollowsExtend old level parent_leaf place new =
    (secret : Secret) (records : List Record) (key : Key) (extend : Extend) (above : ℕ)
    → slice_get records 0 ≡ Some (KeyRecord key) → length records ≡ place → extend.level ≡ level
    → extend.parent_leaf ≡ parent_leaf → current (level - 1) records ≡ Some above
    → HasTrees secret records old → HasTrees secret (records ++ ExtendRecord extend ∷ []) new
