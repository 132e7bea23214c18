-- The current trees of a key's levels, as a signer keeps them in memory.
use Rattle.std.specs.Prelude.{◌≡◌, ℕ, ◌<◌, List, slice_index_or, Option, Some, None}
use Rattle.state_file.specs.declared.record.Record.{Record}
use Rattle.state_file.specs.declared.record.Secret.{Secret}
use Rattle.sign_core.specs.Records.{current, next_leaf}
use Rattle.sign_core.specs.declared.trees.Tree.{Tree}

abbrev pub with_next : Secret → List Record → Option ℕ → Option Tree
with_next secret records None = None
with_next secret records (Some place) = Some (record { place = place; next = next_leaf secret records place })

abbrev pub tree_at : Secret → List Record → (level : ℕ) → Option Tree
tree_at secret records level = with_next secret records (current level records)

abbrev pub kept_at : List (Option Tree) → (level : ℕ) → Option Tree
kept_at levels level = slice_index_or levels level None

-- The tree kept for each level is its current one.
abbrev pub HasTrees : Secret → List Record → List (Option Tree) → Type 0
HasTrees secret records levels = (level : ℕ) → level < 8 → kept_at levels level ≡ tree_at secret records level
