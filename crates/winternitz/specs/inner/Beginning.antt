-- What the messages of each lane begin with.
use Rattle.std.specs.Prelude.{◌≡◌, ℕ, ◌<◌, List}
use Rattle.winternitz.specs.Lanes.{lanes}
use Rattle.winternitz.specs.declared.lanes.beginning.Beginning.{Beginning}
use Rattle.winternitz.specs.Beginning.{first_bytes_at}

-- the messages of each lane begin with these bytes
abbrev pub BeginsWith : Beginning → (ℕ → List ℕ) → Type 0
BeginsWith beginning first = (j : ℕ) → j < lanes → first_bytes_at beginning j ≡ first j
