-- What messages begin with in each lane.
use Rattle.std.specs.Prelude.{ℕ, List, [], ◌∷◌}
use Rattle.sha2.specs.Sha256.{digest_bytes}
use Rattle.winternitz.specs.Lanes.{lane}
use Rattle.winternitz.specs.declared.lanes.beginning.Beginning.{Beginning}

-- its words, side by side
abbrev pub all_words : Beginning → List (List ℕ)
all_words b = b.word0 ∷ b.word1 ∷ b.word2 ∷ b.word3 ∷ b.word4 ∷ []

-- the first 20 bytes of the messages in lane j
abbrev pub first_bytes_at : Beginning → ℕ → List ℕ
first_bytes_at beginning j = digest_bytes (lane j (all_words beginning)) 5
