-- Items of lists by their places: in a front, at the end, and in a beginning.
use Rattle.std.proofs.Common.{◌≡◌, ◌⊎◌, inl, inr, ℕ, zero, suc, ◌<◌, List, [], ◌∷◌, ◌++◌, length, take, Some, refl, ap, ◌∙◌, arith}
use Rattle.std.specs.Prelude.{slice_get}
use Rattle.std.proofs.lemmas.Option.{none-some, same_Some, slice_get_within}

pub slice_get_front : {A : Type 0} (xs ys : List A) (k : ℕ) → k < length xs → slice_get (xs ++ ys) k ≡ slice_get xs k
slice_get_front [] ys k below = absurd (omega (arith, below))
slice_get_front (x ∷ xs) ys zero below = refl
slice_get_front (x ∷ xs) ys (suc k) below = slice_get_front xs ys k (omega (arith, below))

pub slice_get_stays : {A : Type 0} (xs ys : List A) (k : ℕ) (x : A) → slice_get xs k ≡ Some x → slice_get (xs ++ ys) k ≡ Some x
slice_get_stays xs ys k x is = slice_get_front xs ys k (slice_get_within xs k x is) ∙ is

pub slice_get_new : {A : Type 0} (xs : List A) (new : A) → slice_get (xs ++ new ∷ []) (length xs) ≡ Some new
slice_get_new [] new = refl
slice_get_new (x ∷ xs) new = slice_get_new xs new

pub front_or_new : {A : Type 0} (xs : List A) (new : A) (k : ℕ) (x : A) → slice_get (xs ++ new ∷ []) k ≡ Some x
    → ((k < length xs) × (slice_get xs k ≡ Some x)) ⊎ ((k ≡ length xs) × (new ≡ x))
front_or_new [] new zero x is = inr (refl, same_Some new x is)
front_or_new [] new (suc k) x is = absurd (none-some x is)
front_or_new (first ∷ xs) new zero x is = inl (omega arith, is)
front_or_new (first ∷ xs) new (suc k) x is = elim (front_or_new xs new k x is) [
  | inl (below, at) ↦ inl (omega (arith, below), at)
  | inr (end, same) ↦ inr (ap suc end, same)
]

pub slice_get_take : {A : Type 0} (k : ℕ) (xs : List A) (i : ℕ) → i < k → slice_get (take k xs) i ≡ slice_get xs i
slice_get_take zero xs i below = absurd (omega (arith, below))
slice_get_take (suc k) [] i below = refl
slice_get_take (suc k) (x ∷ xs) zero below = refl
slice_get_take (suc k) (x ∷ xs) (suc i) below = slice_get_take k xs i (omega (arith, below))

pub take_with_next : {A : Type 0} (xs : List A) (k : ℕ) (x : A) → slice_get xs k ≡ Some x → take (suc k) xs ≡ take k xs ++ x ∷ []
take_with_next [] k x is = absurd (none-some x is)
take_with_next (first ∷ xs) zero x is = ap (λ y. y ∷ []) (same_Some first x is)
take_with_next (first ∷ xs) (suc k) x is = ap (λ l. first ∷ l) (take_with_next xs k x is)

pub slice_get_some : {A : Type 0} (xs : List A) (k : ℕ) → k < length xs → (x : A) × (slice_get xs k ≡ Some x)
slice_get_some [] k below = absurd (omega (arith, below))
slice_get_some (x ∷ xs) zero below = (x, refl)
slice_get_some (x ∷ xs) (suc k) below = slice_get_some xs k (omega (arith, below))
