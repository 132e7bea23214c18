-- The levels of an HSS key (RFC 8554 6.1).
use Rattle.std.specs.Prelude.{ℕ, ◌≤◌, List, length}
use Rattle.typecodes.specs.declared.types.LmsPair.{LmsPair}

-- L: a key has 1 to 8 levels
abbrev pub IsLevelCount : ℕ → Type 0
IsLevelCount n = (1 ≤ n) × (n ≤ 8)

-- the pairs of 1 to 8 levels, from the top down
abbrev pub AreLevels : List LmsPair → Type 0
AreLevels pairs = IsLevelCount (length pairs)
