-- Bytes that are written part by part, each at the offset where the one before ends.
use Rattle.std.proofs.Common.{◌≡◌, ◌∙◌, sym, ap, ap₂, ℕ, ◌+◌, ◌-◌, ◌≤◌, arith, List, ◌++◌, length, take, slice_range, drop_at, length-take-le, take-add}
use Rattle.std.proofs.lemmas.List.{take_all, take-append-le}
use Rattle.std.proofs.lemmas.Slice.{take-put_mid}
use borrow.Rule.Slice.PartMut.{put_mid, post_of}

-- one part more is written
pub next_part : (x y a b c : List ℕ) (p q : ℕ) → take p x ≡ a → take q y ≡ take p x ++ b → b ≡ c → take q y ≡ a ++ c
next_part x y a b c p q before written is = written ∙ ap₂ (λ x y. x ++ y) before is

-- so it is where its bytes were lent, and came back as these
pub next_lent : (x a b c : List ℕ) (p k end : ℕ) → take p x ≡ a → end ≡ p + length b → p ≤ length x → b ≡ c
    → take end (put_mid p k x b) ≡ a ++ c
next_lent x a b c p k end before ends within is = take-put_mid p k x b end ends within ∙ ap₂ (λ x y. x ++ y) before is

-- the last one ends the bytes
pub all_parts : (x a : List ℕ) (p : ℕ) → take p x ≡ a → length x ≤ p → x ≡ a
all_parts x a p written all = sym (take_all p x all) ∙ written

-- what stood before the bytes that were read stays, and they follow it
pub take_split : (a b : ℕ) (old new : List ℕ) → a ≤ b → take a new ≡ take a old → take a old ++ slice_range new a b ≡ take b new
take_split a b old new h front =
    let same : a + (b - a) ≡ b = omega arith in
    ap (λ l. l ++ slice_range new a b) (sym front) ∙ sym (take-add a (b - a) new) ∙ ap (λ n. take n new) same

-- what was lent and came back is what stands there
pub slice_range-put_mid : (a k n : ℕ) (xs ys : List ℕ) → a ≤ length xs → n ≤ length ys → slice_range (put_mid a k xs ys) a (a + n) ≡ take n ys
slice_range-put_mid a k n xs ys within fits =
    let same : (a + n) - a ≡ n = omega arith in
    let after = post_of a k xs in
    ap (take ((a + n) - a)) (drop_at (take a xs) (ys ++ after) a (length-take-le a xs within)) ∙ ap (λ m. take m (ys ++ after)) same ∙ take-append-le n ys after fits
