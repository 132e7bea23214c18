-- What the reading of a number of levels goes on with.
use Rattle.std.proofs.Common.{◌≡◌, ℕ, ◌<◌, ◌≤◌, true, false, nat_le, le-leb, refl}
use Rattle.std.specs.Prelude.{◌&&◌}
use Rattle.std.proofs.lemmas.Bool.{lt-leb}
use Rattle.typecodes.proofs.Steps.{reading, steps}

pub number-within : (low high n : ℕ) → low ≤ n → n ≤ high → (nat_le low n && nat_le n high) ≡ true
number-within low high n above below = rw (le-leb low n above, le-leb n high below) refl

pub number-below : (low high n : ℕ) → n < low → (nat_le low n && nat_le n high) ≡ false
number-below low high n below = rw (lt-leb low n below) refl

pub number-above : (low high n : ℕ) → low ≤ n → high < n → (nat_le low n && nat_le n high) ≡ false
number-above low high n above past = rw (le-leb low n above, lt-leb n high past) refl

pub ruleset numbers = (reading, number-within, number-below, number-above)

-- for a function that reads all of its bytes as one layout, call by call
pub ruleset whole = (reading, steps)
