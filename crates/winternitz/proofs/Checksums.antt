-- The checksum in its two bytes, and the digits of both.
use Rattle.std.proofs.Common.{◌≡◌, ◌∙◌, refl, sym, ap, subst, ℕ, zero, suc, ◌+◌, ◌-◌, ◌*◌, ◌/◌, ◌^◌, ◌<◌, ◌≤◌, List, ◌++◌, length, get_or, take, take_all, arith}
use Rattle.std.specs.Int.Digits.{number_from_digits}
use Rattle.std.proofs.Math.Seq.{take-append-add}
use Rattle.std.proofs.lemmas.List.Sums.{sum_by-le}
use Rattle.std.proofs.lemmas.List.Elements.{All-from_get_or, recursion_from_All}
use Rattle.std.proofs.lemmas.List.FromFn.{length-map-range_with_len, take-map-range_with_len}
use Rattle.byteorder.specs.Endian.{big_bytes}
use Rattle.typecodes.specs.Types.{IsWidth}
use Rattle.typecodes.specs.Coefficient.{coef_of}
use Rattle.winternitz.specs.Digest.{message_count, checksum_count, digit_count, checksum_shift, lacking_of, checksum_of, AreDigitsOf, AreWinternitzDigits, HasWholeChecksum, first_digits, digits_of}
use Rattle.winternitz.proofs.Widths.{by_width}
use Rattle.winternitz.proofs.Bases.{same_digits}
use Rattle.winternitz.proofs.Coefs.{digits_below, number_within, number_of_digits, first_digits-append}

-- the greatest unshifted checksum of a digest
pub lacking_at_most : (w : ℕ) (digits : List ℕ) → length digits ≡ message_count w
    → lacking_of w digits ≤ 256 / w * (2 ^ w - 1)
lacking_at_most w digits count =
    let each : (d : ℕ) → 2 ^ w - 1 - d ≤ 2 ^ w - 1 = λ d. omega arith in
    let sum = sum_by-le (λ d. 2 ^ w - 1 - d) (2 ^ w - 1) digits
    (All-from_get_or (λ d. 2 ^ w - 1 - d ≤ 2 ^ w - 1) digits 0 (λ i h. each (get_or digits i 0))) in
    let same : length digits * (2 ^ w - 1) ≡ 256 / w * (2 ^ w - 1) = ap (λ n. n * (2 ^ w - 1)) count in
    omega arith

-- it fits 16 bits, shifted or not
pub lacking_fits : (w s : ℕ) → IsWidth w → s ≤ 256 / w * (2 ^ w - 1) → (s < 2 ^ 16) × (s * 2 ^ checksum_shift w < 2 ^ 16)
lacking_fits w s is bound =
    by_width (λ w. s ≤ 256 / w * (2 ^ w - 1) → (s < 2 ^ 16) × (s * 2 ^ checksum_shift w < 2 ^ 16)) w is
    (λ h. (omega arith, omega arith)) (λ h. (omega arith, omega arith))
    (λ h. (omega arith, omega arith)) (λ h. (omega arith, omega arith)) bound

-- all the digits of bytes are their number's digits
all_digits : (w n : ℕ) → IsWidth w → (bytes : List ℕ) → ((i : ℕ) → get_or bytes i 0 < 256)
    → n ≡ length bytes * (8 / w)
    → AreDigitsOf (2 ^ w) n (number_from_digits 256 bytes) (first_digits w n bytes)
all_digits w n is bytes fits count = record {
  count = length-map-range_with_len (λ i. coef_of bytes i w) 0 n;
  below = recursion_from_All (λ d. d < 2 ^ w) (first_digits w n bytes) (digits_below w n bytes);
  number = ap (λ i. number_from_digits (2 ^ w) (first_digits w i bytes)) count
      ∙ number_of_digits w is bytes fits (length bytes) (omega arith)
      ∙ ap (number_from_digits 256) (take_all (length bytes) bytes (omega arith));
}

-- two bytes are below 256 and read as the number that they were made of
two_bytes_fit : (n i : ℕ) → get_or (big_bytes 2 n) i 0 < 256
two_bytes_fit n zero = omega arith
two_bytes_fit n (suc zero) = omega arith
two_bytes_fit n (suc (suc i)) = omega arith

two_bytes_number : (n : ℕ) → n < 2 ^ 16 → number_from_digits 256 (big_bytes 2 n) ≡ n
two_bytes_number n fits = omega arith

-- a digest has as many digits as the standard says
digest_count : (w : ℕ) → IsWidth w → (digest : List ℕ) → length digest ≡ 32 → message_count w ≡ length digest * (8 / w)
digest_count w is digest size =
    let count : 256 / w ≡ 32 * (8 / w) = by_width (λ w. 256 / w ≡ 32 * (8 / w)) w is refl refl refl refl in
    rw size count

-- the digits of a digest, and after them the first ones of its checksum, are the standard's list
pub standard_digits : (w : ℕ) → IsWidth w → (digest : List ℕ) → length digest ≡ 32
    → first_digits w (message_count w) digest
    ++ first_digits w (checksum_count w) (big_bytes 2 (checksum_of w (first_digits w (message_count w) digest)))
    ≡ digits_of w digest
standard_digits w is digest size =
    let two = big_bytes 2 (checksum_of w (first_digits w (message_count w) digest)) in
    let v = checksum_count w in
    subst (λ n. first_digits w n digest ++ first_digits w v two ≡ first_digits w (n + v) (digest ++ two))
    (sym (digest_count w is digest size)) (first_digits-append w is v digest two)

-- so are lists that were made like these
pub made_digits : (w v : ℕ) → IsWidth w → (digest message two digits : List ℕ) → length digest ≡ 32
    → message ≡ first_digits w (message_count w) digest → two ≡ big_bytes 2 (checksum_of w message)
    → v ≡ checksum_count w → digits ≡ message ++ first_digits w v two → digits ≡ digits_of w digest
made_digits w v is digest message two digits size first sum count all =
    all ∙ ap (λ t. message ++ first_digits w v t) sum ∙ ap (λ n. message ++ first_digits w n (big_bytes 2 (checksum_of w message))) count
    ∙ ap (λ m. m ++ first_digits w (checksum_count w) (big_bytes 2 (checksum_of w m))) first ∙ standard_digits w is digest size

-- and that list meets the definition
pub are_winternitz_digits : (w : ℕ) → IsWidth w → (digest : List ℕ) → length digest ≡ 32
    → ((i : ℕ) → get_or digest i 0 < 256) → AreWinternitzDigits w digest (digits_of w digest)
are_winternitz_digits w is digest size fits =
    let message = first_digits w (message_count w) digest in
    let count : length message ≡ message_count w =
    length-map-range_with_len (λ i. coef_of digest i w) 0 (message_count w) in
    let sum = checksum_of w message in
    let two = big_bytes 2 sum in
    let small : sum < 2 ^ 16 = (lacking_fits w _ is (lacking_at_most w message count)).1 in
    let places : 16 / w ≡ 2 * (8 / w) = by_width (λ w. 16 / w ≡ 2 * (8 / w)) w is refl refl refl refl in
    let room : checksum_count w ≤ 16 / w =
    by_width (λ w. checksum_count w ≤ 16 / w) w is (omega arith) (omega arith) (omega arith) (omega arith) in
    let checksum = first_digits w (16 / w) two in
    record {
      message = message;
      checksum = checksum;
      message_digits = all_digits w (message_count w) is digest fits (digest_count w is digest size);
      checksum_digits = subst (λ n. AreDigitsOf (2 ^ w) (16 / w) n checksum) (two_bytes_number sum small)
          (all_digits w (16 / w) is two (two_bytes_fit sum) places);
      all = sym (standard_digits w is digest size)
          ∙ ap (λ l. message ++ l) (sym (take-map-range_with_len (λ i. coef_of two i w) 0 (16 / w) (checksum_count w) room))
          ∙ sym (take-append-add message checksum (checksum_count w))
          ∙ ap (λ n. take (n + checksum_count w) (message ++ checksum)) count;
    }

-- the first digits of the checksum's two bytes are the unshifted checksum's
number_kept : (w s : ℕ) → IsWidth w → s * 2 ^ checksum_shift w < 2 ^ 16
    → number_from_digits (2 ^ w) (first_digits w (checksum_count w) (big_bytes 2 (s * 2 ^ checksum_shift w))) ≡ s
number_kept w s is small =
    let two = big_bytes 2 (s * 2 ^ checksum_shift w) in
    let fits = two_bytes_fit (s * 2 ^ checksum_shift w) in
    let count : checksum_count w ≡ 1 * (8 / w) + 1 = by_width (λ w. checksum_count w ≡ 1 * (8 / w) + 1) w is refl refl refl refl in
    let some : 1 ≤ 8 / w = by_width (λ w. 1 ≤ 8 / w) w is (omega arith) (omega arith) (omega arith) (omega arith) in
    let value = by_width
    (λ w. s * 2 ^ checksum_shift w < 2 ^ 16
    → number_from_digits 256 (take 1 (big_bytes 2 (s * 2 ^ checksum_shift w))) * (2 ^ w) ^ 1
    + get_or (big_bytes 2 (s * 2 ^ checksum_shift w)) 1 0 / 2 ^ (8 - w * 1) ≡ s)
    w is (λ h. omega arith) (λ h. omega arith) (λ h. omega arith) (λ h. omega arith) small in
    ap (λ n. number_from_digits (2 ^ w) (first_digits w n two)) count
    ∙ number_within w is two 1 (number_from_digits 256 (take 1 two)) (fits 1) (number_of_digits w is two fits 1 (omega arith)) 1 some
    ∙ value

-- so that the list has the checksum whole
pub has_whole_checksum : (w : ℕ) → IsWidth w → (digest : List ℕ) → length digest ≡ 32
    → ((i : ℕ) → get_or digest i 0 < 256) → HasWholeChecksum w digest (digits_of w digest)
has_whole_checksum w is digest size fits =
    let message = first_digits w (message_count w) digest in
    let count : length message ≡ message_count w =
    length-map-range_with_len (λ i. coef_of digest i w) 0 (message_count w) in
    let two = big_bytes 2 (checksum_of w message) in
    let checksum = first_digits w (checksum_count w) two in
    record {
      message = message;
      checksum = checksum;
      message_digits = all_digits w (message_count w) is digest fits (digest_count w is digest size);
      checksum_digits = record {
        count = length-map-range_with_len (λ i. coef_of two i w) 0 (checksum_count w);
        below = recursion_from_All (λ d. d < 2 ^ w) checksum (digits_below w (checksum_count w) two);
        number = number_kept w (lacking_of w message) is (lacking_fits w _ is (lacking_at_most w message count)).1;
      };
      all = sym (standard_digits w is digest size);
    }

-- a digest has no two lists of Winternitz digits
pub same_winternitz_digits : (w : ℕ) (digest xs ys : List ℕ)
    → AreWinternitzDigits w digest xs → AreWinternitzDigits w digest ys → xs ≡ ys
same_winternitz_digits w digest xs ys p q =
    let message : p.message ≡ q.message = same_digits _ _ _ _ _ p.message_digits q.message_digits in
    let here : AreDigitsOf (2 ^ w) (16 / w) (checksum_of w q.message) p.checksum =
    subst (λ m. AreDigitsOf (2 ^ w) (16 / w) (checksum_of w m) p.checksum) message p.checksum_digits in
    let checksum : p.checksum ≡ q.checksum = same_digits _ _ _ _ _ here q.checksum_digits in
    p.all ∙ ap (λ m. take (digit_count w) (m ++ p.checksum)) message
    ∙ ap (λ c. take (digit_count w) (q.message ++ c)) checksum ∙ sym q.all

-- a list that meets the definition has the checksum whole
pub whole_of_law : (w : ℕ) → IsWidth w → (digest digits : List ℕ) → length digest ≡ 32
    → ((i : ℕ) → get_or digest i 0 < 256) → AreWinternitzDigits w digest digits → HasWholeChecksum w digest digits
whole_of_law w is digest digits size fits law =
    let same : digits_of w digest ≡ digits =
    same_winternitz_digits w digest (digits_of w digest) digits (are_winternitz_digits w is digest size fits) law in
    subst (HasWholeChecksum w digest) same (has_whole_checksum w is digest size fits)
