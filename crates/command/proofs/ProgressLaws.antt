-- What a line of progress tells: proofs.
use Rattle.std.proofs.Common.{◌≡◌, ◌∙◌, refl, sym, ap, subst, ⊎_elim, inl, inr, arith, append_assoc, append-nil}
use Rattle.std.proofs.Common.{ℕ, zero, suc, ◌+◌, ◌-◌, ◌*◌, ◌/◌, ◌%◌, ◌^◌, ◌<◌, ◌≤◌, ◌⊎◌, ◌↔◌, min, Bool, true, false, lt-ltb, le-ltb, true≢false}
use Rattle.std.proofs.Common.{List, [], ◌∷◌, ◌++◌, length, decimal, codes, mul-zero}
use Rattle.std.specs.Prelude.{nat_lt, if◌then◌else◌}
use Rattle.std.proofs.Math.Nat.{div-lt_iff_lt-mul, div-mul-le_self, le-div_iff_mul-le, mul-div_right, zero-div}
use Rattle.std.proofs.lemmas.Fmt.{decimal_digit, decimal_nonempty, decimal_step, length-decimal-le}
use Rattle.std.proofs.lemmas.Bool.{cases_lt}
use Rattle.command.specs.Progress.{bar, full_block, group, grouped, has_room, in_seconds, is_due, light_block, long_text, percent, short_text, times}
use Rattle.command.specs.ProgressLaws.{IsGrouped, LineLaws, characters, is_continuation}

by_less : (C : Bool → Type 0) (a b : ℕ) → (a < b → C true) → (b ≤ a → C false) → C (nat_lt a b)
by_less C a b below above = ⊎_elim (λ l. subst C (sym (lt-ltb a b l)) (below l)) (λ l. subst C (sym (le-ltb a b l)) (above l)) (cases_lt a b)

-- ---- groups of three digits

abbrev three : ℕ → List ℕ
three m = (48 + m / 100) ∷ (48 + m / 10 % 10) ∷ (48 + m % 10) ∷ []

same_three : (a b c d e f : ℕ) → a ≡ d → b ≡ e → c ≡ f → (a ∷ b ∷ c ∷ []) ≡ (d ∷ e ∷ f ∷ [])
same_three a b c d e f p q r i = p i ∷ q i ∷ r i ∷ []

-- a number of three digits and more: its front, and its last three digits
decimal_three : (n : ℕ) → 1000 ≤ n → n < 2 ^ 64 → decimal n ≡ decimal (n / 1000) ++ three (n % 1000)
decimal_three n some small =
    let front : n / 10 / 10 / 10 ≡ n / 1000 = omega arith in
    let hundreds : 48 + n / 10 / 10 % 10 ≡ 48 + n % 1000 / 100 = omega arith in
    let tens : 48 + n / 10 % 10 ≡ 48 + n % 1000 / 10 % 10 = omega arith in
    let ones : 48 + n % 10 ≡ 48 + n % 1000 % 10 = omega arith in
    decimal_step n (omega arith) small
    ∙ ap (λ x. x ++ (48 + n % 10) ∷ []) (decimal_step (n / 10) (omega arith) (omega arith) ∙ ap (λ x. x ++ (48 + n / 10 % 10) ∷ []) (decimal_step (n / 10 / 10) (omega arith) (omega arith)))
    ∙ append_assoc (decimal (n / 10 / 10 / 10) ++ (48 + n / 10 / 10 % 10) ∷ []) ((48 + n / 10 % 10) ∷ []) ((48 + n % 10) ∷ [])
    ∙ append_assoc (decimal (n / 10 / 10 / 10)) ((48 + n / 10 / 10 % 10) ∷ []) ((48 + n / 10 % 10) ∷ (48 + n % 10) ∷ [])
    ∙ (λ i. decimal (front i) ++ same_three _ _ _ _ _ _ hundreds tens ones i)

-- a number of three digits at most has as many
below_ten : (m : ℕ) → m < 10 → codes ",00" ++ decimal m ≡ codes "," ++ three m
below_ten m small =
    let hundreds : 48 ≡ 48 + m / 100 = omega arith in
    let tens : 48 ≡ 48 + m / 10 % 10 = omega arith in
    let ones : 48 + m ≡ 48 + m % 10 = omega arith in
    ap (λ digits. codes ",00" ++ digits) (decimal_digit m small) ∙ (λ i. codes "," ++ same_three _ _ _ _ _ _ hundreds tens ones i)

below_hundred : (m : ℕ) → 10 ≤ m → m < 100 → codes ",0" ++ decimal m ≡ codes "," ++ three m
below_hundred m some small =
    let hundreds : 48 ≡ 48 + m / 100 = omega arith in
    let tens : 48 + m / 10 ≡ 48 + m / 10 % 10 = omega arith in
    ap (λ digits. codes ",0" ++ digits) (decimal_step m some (omega arith) ∙ ap (λ x. x ++ (48 + m % 10) ∷ []) (decimal_digit (m / 10) (omega arith)))
    ∙ (λ i. codes "," ++ hundreds i ∷ tens i ∷ (48 + m % 10) ∷ [])

below_thousand : (m : ℕ) → 100 ≤ m → m < 1000 → decimal m ≡ three m
below_thousand m some small =
    let hundreds : 48 + m / 10 / 10 ≡ 48 + m / 100 = omega arith in
    decimal_step m (omega arith) (omega arith)
    ∙ ap (λ x. x ++ (48 + m % 10) ∷ []) (decimal_step (m / 10) (omega arith) (omega arith) ∙ ap (λ x. x ++ (48 + m / 10 % 10) ∷ []) (decimal_digit (m / 10 / 10) (omega arith)))
    ∙ same_three _ _ _ _ _ _ hundreds refl refl

group_three : (m : ℕ) → m < 1000 → group m ≡ codes "," ++ three m
group_three m small =
    by_less (λ b. (if b then codes ",00" else (if nat_lt m 100 then codes ",0" else codes ",")) ++ decimal m ≡ codes "," ++ three m) m 10 (below_ten m)
    (λ some. by_less (λ b. (if b then codes ",0" else codes ",") ++ decimal m ≡ codes "," ++ three m) m 100 (below_hundred m some)
    (λ more. ap (λ digits. codes "," ++ digits) (below_thousand m more small)))

-- one to three digits
short_len : (n : ℕ) → n < 1000 → (1 ≤ length (decimal n)) × (length (decimal n) ≤ 3)
short_len n small = (decimal_nonempty n (omega arith), length-decimal-le 3 n (omega arith) small (omega arith))

abbrev Groups : ℕ → Bool → Bool → Type 0
Groups n short middle = IsGrouped n
    (if short then decimal n else (if middle then decimal (n / 1000) ++ group (n % 1000)
    else decimal (n / 1000000) ++ group (n / 1000 % 1000) ++ group (n % 1000)))

one_group : (n : ℕ) (middle : Bool) → n < 1000 → Groups n true middle
one_group n middle small = record {
  first = decimal n;
  groups = [];
  digits = sym (append-nil (decimal n));
  spelled = sym (append-nil (decimal n));
  first_is_short = short_len n small;
  groups_of_three = tt;
}

two_groups : (n : ℕ) → 1000 ≤ n → n < 1000000 → Groups n false true
two_groups n some small = record {
  first = decimal (n / 1000);
  groups = three (n % 1000) ∷ [];
  digits = decimal_three n some (omega arith);
  spelled = ap (λ x. decimal (n / 1000) ++ x) (group_three (n % 1000) (omega arith));
  first_is_short = short_len (n / 1000) (omega arith);
  groups_of_three = (refl, tt);
}

three_groups : (n : ℕ) → 1000000 ≤ n → n < 1000000000 → Groups n false false
three_groups n some small =
    let front : n / 1000 / 1000 ≡ n / 1000000 = omega arith in
    record {
      first = decimal (n / 1000000);
      groups = three (n / 1000 % 1000) ∷ three (n % 1000) ∷ [];
      digits = decimal_three n (omega arith) (omega arith)
          ∙ ap (λ x. x ++ three (n % 1000)) (decimal_three (n / 1000) (omega arith) (omega arith) ∙ ap (λ k. decimal k ++ three (n / 1000 % 1000)) front)
          ∙ append_assoc (decimal (n / 1000000)) (three (n / 1000 % 1000)) (three (n % 1000));
      spelled = append_assoc (decimal (n / 1000000)) (group (n / 1000 % 1000)) (group (n % 1000))
          ∙ (λ i. decimal (n / 1000000) ++ (group_three (n / 1000 % 1000) (omega arith) i ++ group_three (n % 1000) (omega arith) i));
      first_is_short = short_len (n / 1000000) (omega arith);
      groups_of_three = (refl, (refl, tt));
    }

grouped_is : (n : ℕ) → n < 1000000000 → IsGrouped n (grouped n)
grouped_is n small =
    by_less (λ b. Groups n b (nat_lt n 1000000)) n 1000 (one_group n (nat_lt n 1000000))
    (λ some. by_less (λ b. Groups n false b) n 1000000 (two_groups n some) (λ more. three_groups n more small))

-- ---- numbers

seconds_fit : (ms seconds : ℕ) → (in_seconds ms ≤ seconds) ↔ (ms ≤ 1000 * seconds)
seconds_fit ms seconds = (λ a. omega (arith, a), λ b. omega (arith, b))

nothing_more : (spent leaves : ℕ) → spent * (leaves - leaves) / leaves ≡ 0
nothing_more spent leaves =
    let none : leaves - leaves ≡ 0 = omega arith in
    ap (λ n. spent * n / leaves) none ∙ ap (λ n. n / leaves) (mul-zero spent) ∙ zero-div leaves

-- ---- the width

characters-append : (a b : List ℕ) → characters (a ++ b) ≡ characters a + characters b
characters-append [] b = omega arith
characters-append (byte ∷ bytes) b = more (is_continuation byte) _ _ _ (characters-append bytes b)
  where
    more : (on : Bool) (n m k : ℕ) → n ≡ m + k → (if on then n else 1 + n) ≡ (if on then m else 1 + m) + k
    more true n m k is = is
    more false n m k is = omega (arith, is)

characters-le : (a : List ℕ) → characters a ≤ length a
characters-le [] = omega arith
characters-le (byte ∷ bytes) = more (is_continuation byte) _ _ (characters-le bytes)
  where
    more : (on : Bool) (n m : ℕ) → n ≤ m → (if on then n else 1 + n) ≤ suc m
    more true n m le = omega (arith, le)
    more false n m le = omega (arith, le)

characters-times : (count : ℕ) (bytes : List ℕ) → characters bytes ≡ 1 → characters (times count bytes) ≡ count
unfolding times
characters-times zero bytes one = refl
characters-times (suc count) bytes one = omega (arith, characters-append (times count bytes) bytes, characters-times count bytes one, one)

characters-bar : (p : ℕ) → characters (bar p) ≡ 11
characters-bar p =
    let full = min (p / 10) 10 in
    omega (
      arith,
      characters-append (times full full_block ++ times (10 - full) light_block) (codes " "),
      characters-append (times full full_block) (times (10 - full) light_block),
      characters-times full full_block refl,
      characters-times (10 - full) light_block refl,
    )

-- a text leaves a blank behind three more columns, or is the short one
abbrev Fits : (columns : ℕ) → (short text : List ℕ) → Type 0
Fits columns short text = (length text + 3 < columns) ⊎ (text ≡ short)

either_fits : (columns : ℕ) (long short : List ℕ) → Fits columns short (if nat_lt (length long + 3) columns then long else short)
either_fits columns long short =
    by_less (λ b. Fits columns short (if b then long else short)) (length long + 3) columns (λ l. inl l) (λ l. inr refl)

abbrev LineFits : (columns : ℕ) → (short line : List ℕ) → Type 0
LineFits columns short line = (characters line < columns) ⊎ (line ≡ codes "   " ++ short)

blanks_fit : (columns : ℕ) (short text : List ℕ) → Fits columns short text → LineFits columns short (codes "   " ++ text)
blanks_fit columns short text (inl l) = inl (omega (arith, characters-append (codes "   ") text, characters-le text, l))
blanks_fit columns short text (inr is) = inr (ap (λ x. codes "   " ++ x) is)

line_fits : (has_blocks : Bool) (columns : ℕ) (short text : List ℕ) (p : ℕ) → Fits columns short text
    → LineFits columns short ((if has_room has_blocks columns (length text) then bar p else codes "   ") ++ text)
line_fits true columns short text p fits =
    by_less (λ b. LineFits columns short ((if b then bar p else codes "   ") ++ text)) (length text + 11) columns
    (λ l. inl (omega (arith, characters-append (bar p) text, characters-le text, characters-bar p, l))) (λ l. blanks_fit columns short text fits)
line_fits false columns short text p fits = blanks_fit columns short text fits

-- ---- when

due_then : (begun shown now : ℕ) → is_due begun shown now ≡ true → (begun + 1000 ≤ now) × (shown + 200 ≤ now)
due_then begun shown now =
    by_less (λ b. (if b then false else (if nat_lt (now - shown) 200 then false else true)) ≡ true → (begun + 1000 ≤ now) × (shown + 200 ≤ now)) (now - begun) 1000
    (λ l is. absurd (true≢false (sym is)))
    (λ later. by_less (λ b. (if b then false else true) ≡ true → (begun + 1000 ≤ now) × (shown + 200 ≤ now)) (now - shown) 200
    (λ l is. absurd (true≢false (sym is)))
    (λ enough is. (omega (arith, later), omega (arith, enough))))

pub laws : LineLaws
laws = record {
  numbers = grouped_is;
  percent_rises = λ made more leaves some le. (le-div_iff_mul-le some).1 (omega (arith, div-mul-le_self (made * 100) leaves, le));
  percent_of_all = λ leaves some. mul-div_right 100 some;
  percent_before = λ made leaves l. (div-lt_iff_lt-mul (omega (arith, l))).1 (omega (arith, l));
  left = λ spent made leaves seconds. seconds_fit (spent * (leaves - made) / made) seconds;
  nothing_left = λ spent leaves. ap in_seconds (nothing_more spent leaves);
  fits = λ has_blocks columns level made leaves seconds. line_fits has_blocks columns _ _ (percent made leaves) (either_fits columns (long_text level made leaves seconds) (short_text made leaves seconds));
  in_turn = due_then;
}
