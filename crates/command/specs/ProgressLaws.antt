-- What a line of progress tells its reader: its numbers, how wide it is, and how often it is drawn.
use Rattle.std.specs.Prelude.{◌≡◌, ◌⊎◌, ◌↔◌, ℕ, ◌+◌, ◌-◌, ◌*◌, ◌/◌, ◌≤◌, ◌<◌, Bool, true, ◌&&◌, nat_le, nat_lt}
use Rattle.std.specs.Prelude.{if◌then◌else◌, List, [], ◌∷◌, ◌++◌, length, map, codes, decimal}
use Rattle.std.specs.List.{AllByRecursion, concat}
use Rattle.command.specs.Progress.{grouped, is_due, line_text, percent, seconds_left, short_text}

-- A number's digits, in groups of three from the right, with a comma between two groups.
pub record IsGrouped (number : ℕ) (text : List ℕ) : Type 0 where
  pub first : List ℕ
  pub groups : List (List ℕ)
  pub digits : decimal number ≡ first ++ concat groups
  pub spelled : text ≡ first ++ concat (map (λ group. codes "," ++ group) groups)
  pub first_is_short : (1 ≤ length first) × (length first ≤ 3)
  pub groups_of_three : AllByRecursion (λ group. length group ≡ 3) groups

-- how many characters a text of UTF-8 has: bytes 128 to 191 continue one (RFC 3629 3)
abbrev pub is_continuation : (byte : ℕ) → Bool
is_continuation byte = nat_le 128 byte && nat_lt byte 192

abbrev pub characters : List ℕ → ℕ
characters [] = 0
characters (byte ∷ bytes) = if is_continuation byte then characters bytes else 1 + characters bytes

pub record LineLaws : Type 0 where
  pub numbers : (number : ℕ) → number < 1000000000 → IsGrouped number (grouped number)
  -- it never goes back, and is 100 with the last leaf and not before
  pub percent_rises : (made more leaves : ℕ) → 0 < leaves → made ≤ more → percent made leaves ≤ percent more leaves
  pub percent_of_all : (leaves : ℕ) → 0 < leaves → percent leaves leaves ≡ 100
  pub percent_before : (made leaves : ℕ) → made < leaves → percent made leaves < 100
  -- The seconds that are left are the fewest that the other leaves fit into, if each takes as long as those until now.
  pub left : (spent made leaves seconds : ℕ)
      → (seconds_left spent made leaves ≤ seconds) ↔ (spent * (leaves - made) / made ≤ 1000 * seconds)
  pub nothing_left : (spent leaves : ℕ) → seconds_left spent leaves leaves ≡ 0
  -- it leaves a blank on a line of `columns`, or is the shortest there is
  pub fits : (has_blocks : Bool) (columns level made leaves seconds : ℕ)
      → (characters (line_text has_blocks columns level made leaves seconds) < columns)
      ⊎ (line_text has_blocks columns level made leaves seconds ≡ codes "   " ++ short_text made leaves seconds)
  -- a second after the work began at the earliest, and at most five times a second
  pub in_turn : (begun shown now : ℕ) → is_due begun shown now ≡ true → (begun + 1000 ≤ now) × (shown + 200 ≤ now)
