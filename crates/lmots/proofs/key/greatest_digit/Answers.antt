use Rattle.std.proofs.Common.{◌≡◌, ◌∙◌, ◌-◌, ◌*◌, ◌%◌, ◌^◌, ℕ, inl, inr, refl, ap}
use Rattle.typecodes.specs.Types.{IsWidth}
use Rattle.lmots.proofs.key.greatest_digit.Goals as goal

-- width by width
greatest_is : (w : ℕ) → IsWidth w → 1 * 2 ^ w % 65536 - 1 ≡ 2 ^ w - 1
greatest_is w (inl e) = rw e refl
greatest_is w (inr (inl e)) = rw e refl
greatest_is w (inr (inr (inl e))) = rw e refl
greatest_is w (inr (inr (inr e))) = rw e refl

pub returns : goal.returns
returns c = greatest_is c.width.result c.width.ensures.is_width ∙ ap (λ w. 2 ^ w - 1) c.width.ensures.value
