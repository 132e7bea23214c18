-- How many leaves a tree is asked for together.
use Rattle.std.specs.Prelude.{ℕ}

-- as many as a hash has lanes. docs/CONTRIBUTING.md lists what else another number changes.
abbrev pub lanes : ℕ
lanes = 8
