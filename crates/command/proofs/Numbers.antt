-- The number of a text, digit by digit.
use Rattle.std.proofs.Common.{◌≡◌, ◌<◌, ◌≤◌, ◌∙◌, ◌+◌, ℕ, List, [], ◌∷◌, Some, None, true, false, drop, length, refl, slice_index_or, ap, sym, if◌then◌else◌, nat_lt}
use Rattle.std.specs.Char.{is_ascii_digit}
use Rattle.std.proofs.lemmas.Bool.{le-ltb, lt-ltb}
use Rattle.std.proofs.lemmas.List.{drop_all, drop_more}
use Rattle.command.specs.Number.{continued_number, decimal_number, with_digit}

next_digit : (most number : ℕ) (text : List ℕ) (i : ℕ) → i < length text
    → continued_number most number (drop i text)
    ≡ (if is_ascii_digit (slice_index_or text i 0)
    then (if nat_lt most (with_digit number (slice_index_or text i 0)) then None
    else continued_number most (with_digit number (slice_index_or text i 0)) (drop (i + 1) text))
    else None)
unfolding continued_number
next_digit most number text i within = ap (continued_number most number) (drop_more text i 0 within)

pub no_digit : (most number : ℕ) (text : List ℕ) (i : ℕ) → i < length text → is_ascii_digit (slice_index_or text i 0) ≡ false
    → continued_number most number (drop i text) ≡ None
no_digit most number text i within other = next_digit most number text i within ∙ rw other refl

pub too_great : (most number longer : ℕ) (text : List ℕ) (i : ℕ) → i < length text → is_ascii_digit (slice_index_or text i 0) ≡ true
    → longer ≡ with_digit number (slice_index_or text i 0) → most < longer → continued_number most number (drop i text) ≡ None
too_great most number longer text i within digit is above =
    next_digit most number text i within
    ∙ rw (digit, ap (nat_lt most) (sym is) ∙ lt-ltb most longer above) refl

pub one_digit : (most number longer : ℕ) (text : List ℕ) (i : ℕ) → i < length text → is_ascii_digit (slice_index_or text i 0) ≡ true
    → longer ≡ with_digit number (slice_index_or text i 0) → longer ≤ most
    → continued_number most number (drop i text) ≡ continued_number most longer (drop (i + 1) text)
one_digit most number longer text i within digit is below =
    next_digit most number text i within
    ∙ rw (digit, ap (nat_lt most) (sym is) ∙ le-ltb most longer below) (ap (λ n. continued_number most n (drop (i + 1) text)) (sym is))

pub all_digits : (most number : ℕ) (text : List ℕ) (i : ℕ) → length text ≤ i → continued_number most number (drop i text) ≡ Some number
unfolding continued_number
all_digits most number text i past = ap (continued_number most number) (drop_all i text past)

pub some_text : (most : ℕ) (text : List ℕ) → (length text ≡ 0 → ⊥) → decimal_number most text ≡ continued_number most 0 text
some_text most [] some = absurd (some refl)
some_text most (byte ∷ bytes) some = refl
