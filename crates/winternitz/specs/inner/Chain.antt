-- One of many chains.
use Rattle.std.specs.Prelude.{ℕ, List, [], slice_index, slice_index_or}
use Rattle.winternitz.specs.Chain.{Steps, walk}

-- chain i's value, walked by the chain's own steps
abbrev pub walk_at : Steps → List ℕ → List ℕ → List (List ℕ) → ℕ → List ℕ
walk_at step from to values i = walk step i (slice_index from i) (slice_index to i) (slice_index_or values i [])
