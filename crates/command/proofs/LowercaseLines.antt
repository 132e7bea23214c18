-- Whether a line of a text begins with a letter from a to z, byte by byte.
use Rattle.std.proofs.Common.{◌≡◌, ◌==◌, ◌&&◌, ◌||◌, ◌<◌, ◌≤◌, ◌∙◌, ◌+◌, ◌≢◌, ℕ, List, true, false, drop, length, refl, slice_index_or, ap, sym}
use Rattle.std.specs.Char.{is_ascii_lowercase}
use Rattle.std.proofs.lemmas.Bool.{and_left, and_right, ne_eqb}
use Rattle.std.proofs.lemmas.List.{drop_all, drop_more}
use Rattle.command.specs.LineFault.{has_lowercase_line}

next_line : (text : List ℕ) (i before : ℕ) → i < length text
    → has_lowercase_line before (drop i text)
    ≡ ((before == 10 && is_ascii_lowercase (slice_index_or text i 0)) || has_lowercase_line (slice_index_or text i 0) (drop (i + 1) text))
unfolding has_lowercase_line
next_line text i before within = ap (has_lowercase_line before) (drop_more text i 0 within)

pub lowercase_line : (text : List ℕ) (i before : ℕ) → i < length text → before ≡ 10 → is_ascii_lowercase (slice_index_or text i 0) ≡ true
    → true ≡ has_lowercase_line before (drop i text)
lowercase_line text i before within newline lowercase = sym (next_line text i before within ∙ rw (newline, lowercase) refl)

pub other_line : (text : List ℕ) (i before : ℕ) → i < length text → is_ascii_lowercase (slice_index_or text i 0) ≡ false
    → has_lowercase_line before (drop i text) ≡ has_lowercase_line (slice_index_or text i 0) (drop (i + 1) text)
other_line text i before within other =
    next_line text i before within ∙ ap (λ b. b || has_lowercase_line (slice_index_or text i 0) (drop (i + 1) text)) (and_right (before == 10) _ other)

pub same_line : (text : List ℕ) (i before : ℕ) → i < length text → before ≢ 10
    → has_lowercase_line before (drop i text) ≡ has_lowercase_line (slice_index_or text i 0) (drop (i + 1) text)
same_line text i before within other =
    next_line text i before within ∙ ap (λ b. b || has_lowercase_line (slice_index_or text i 0) (drop (i + 1) text)) (and_left _ _ (ne_eqb before 10 other))

pub no_line : (text : List ℕ) (i before : ℕ) → length text ≤ i → has_lowercase_line before (drop i text) ≡ false
unfolding has_lowercase_line
no_line text i before past = ap (has_lowercase_line before) (drop_all i text past)
