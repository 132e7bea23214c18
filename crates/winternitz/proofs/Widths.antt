-- The four widths.
use Rattle.std.proofs.Common.{◌≡◌, refl, sym, subst, inl, inr, ℕ, ◌*◌, ◌/◌, ◌<◌, ◌≤◌, arith}
use Rattle.std.proofs.Math.Nat.{mul-le-mul_right}
use Rattle.std.proofs.lemmas.Nat.{div_below}
use Rattle.typecodes.specs.Types.{IsWidth}

-- what holds at each of the widths holds at w
pub by_width : (P : ℕ → Type 0) (w : ℕ) → IsWidth w → P 1 → P 2 → P 4 → P 8 → P w
by_width P w is one two four eight =
    elim is as (λ _. P w) [
      | inl e ↦ subst P (sym e) one
      | inr more ↦ elim more as (λ _. P w) [
        | inl e ↦ subst P (sym e) two
        | inr most ↦ elim most as (λ _. P w) [ inl e ↦ subst P (sym e) four | inr e ↦ subst P (sym e) eight ]
      ]
    ]

-- a byte is made of whole digits
pub whole_digits : (w : ℕ) → IsWidth w → w * (8 / w) ≡ 8
whole_digits w is = by_width (λ w. w * (8 / w) ≡ 8) w is refl refl refl refl

-- the first n digits lie inside of the bytes
pub place_inside : (w n len i : ℕ) → IsWidth w → n * w ≤ len * 8 → i < n → i * w / 8 < len
place_inside w n len i is room within =
    let some : 0 < w = by_width (λ w. 0 < w) w is (omega arith) (omega arith) (omega arith) (omega arith) in
    div_below (i * w) 8 len (omega arith) (omega (arith, mul-le-mul_right w within))
