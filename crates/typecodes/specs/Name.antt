-- Names under which messages are signed.
use Rattle.std.specs.Prelude.{ℕ, ◌≤◌, List, length, All}

-- 1 to 128 bytes, each a visible character of ASCII
pub record IsName (bytes : List ℕ) : Type 0 where
  pub non_empty : 1 ≤ length bytes
  pub within_limit : length bytes ≤ 128
  pub visible : All (λ b. (0x21 ≤ b) × (b ≤ 0x7e)) bytes
