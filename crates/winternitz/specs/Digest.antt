-- The digits of a digest and its checksum (RFC 8554 3.1.3, 4.4 and Appendix B; RFC 8391 3.1.5), for digits of w bits. w
-- is 1, 2, 4 or 8.
use Rattle.std.specs.Prelude.{◌≡◌, ◌≤◌, ◌<◌, ◌==◌, ℕ, ◌+◌, ◌-◌, ◌*◌, ◌/◌, ◌^◌, List, ◌++◌, length, slice_index}
use Rattle.std.specs.Prelude.{take, map, sum_by, if◌then◌else◌}
use Rattle.std.specs.List.{range_with_len}
use Rattle.std.specs.Int.Digits.{number_from_digits, AllBelowBase}
use Rattle.byteorder.specs.Endian.{big_bytes}
use Rattle.typecodes.specs.Coefficient.{coef_of}

-- u: the digits of the 256 bits of a digest
abbrev pub message_count : ℕ → ℕ
message_count w = 256 / w

-- v: the digits that the greatest checksum needs
abbrev pub checksum_count : ℕ → ℕ
checksum_count w = if w == 1 then 9 else (if w == 2 then 5 else (if w == 4 then 3 else 2))

-- p: all of them
abbrev pub digit_count : ℕ → ℕ
digit_count w = message_count w + checksum_count w

-- ls: the shift that puts the checksum at the left end of 16 bits
abbrev pub checksum_shift : ℕ → ℕ
checksum_shift w = 16 - w * checksum_count w

-- the checksum before shifting: the sum of 2^w - 1 - d over all digits d
abbrev pub lacking_of : ℕ → List ℕ → ℕ
lacking_of w digits = sum_by (λ d. 2 ^ w - 1 - d) digits

-- the checksum, shifted to the left end of 16 bits
abbrev pub checksum_of : ℕ → List ℕ → ℕ
checksum_of w digits = lacking_of w digits * 2 ^ checksum_shift w

-- the list has n digits in the base, and reads as the number x
pub record AreDigitsOf (base n x : ℕ) (digits : List ℕ) : Type 0 where
  pub count : length digits ≡ n
  pub below : AllBelowBase base digits
  pub number : number_from_digits base digits ≡ x

-- The Winternitz digits of a digest: its own, as a big-endian number, and then its 16-bit checksum's, cut to p digits
-- in all.
pub record AreWinternitzDigits (w : ℕ) (digest digits : List ℕ) : Type 0 where
  pub message : List ℕ
  pub checksum : List ℕ
  pub message_digits : AreDigitsOf (2 ^ w) (message_count w) (number_from_digits 256 digest) message
  pub checksum_digits : AreDigitsOf (2 ^ w) (16 / w) (checksum_of w message) checksum
  pub all : digits ≡ take (digit_count w) (message ++ checksum)

-- The list has the whole checksum: v digits are enough for it before the shift, and the cut takes none of them away.
-- Requirement: RFC 8391 3.1.5, checksum
pub record HasWholeChecksum (w : ℕ) (digest digits : List ℕ) : Type 0 where
  pub message : List ℕ
  pub checksum : List ℕ
  pub message_digits : AreDigitsOf (2 ^ w) (message_count w) (number_from_digits 256 digest) message
  pub checksum_digits : AreDigitsOf (2 ^ w) (checksum_count w) (lacking_of w message) checksum
  pub all : digits ≡ message ++ checksum

-- No other digest's digits are all at least these: when digits grow, their checksum falls.
abbrev pub NoneAbove : ℕ → List ℕ → List ℕ → Type 0
NoneAbove w digest digits =
    (other others : List ℕ) → length other ≡ length digest → ((i : ℕ) → slice_index other i < 256)
    → AreWinternitzDigits w other others → ((i : ℕ) → slice_index digits i ≤ slice_index others i) → other ≡ digest

-- the first n digits of the bytes
abbrev pub first_digits : ℕ → ℕ → List ℕ → List ℕ
first_digits w n bytes = map (λ i. coef_of bytes i w) (range_with_len 0 n)

-- the same digits, as the standard computes them: coef of the digest and the checksum's two bytes
abbrev pub digits_of : ℕ → List ℕ → List ℕ
digits_of w digest =
    first_digits w (digit_count w) (digest ++ big_bytes 2 (checksum_of w (first_digits w (message_count w) digest)))
