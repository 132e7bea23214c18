-- Walks along a chain.
use Rattle.std.proofs.Common.{◌≡◌, ◌∙◌, ap, ℕ, zero, suc, ◌+◌, ◌-◌, ◌≤◌, List, arith}
use Rattle.winternitz.specs.Chain.{Steps, walk_steps, walk}

pub walk_none : (step : Steps) (c a : ℕ) (v : List ℕ) → v ≡ walk step c a a v
unfolding walk_steps
walk_none step c a v = let none : 0 ≡ a - a = omega arith in ap (λ n. walk_steps step c a n v) none

-- a walk of one step more ends with that step
pub walk_more : (step : Steps) (c a b : ℕ) (u v w : List ℕ)
    → a ≤ b → v ≡ walk step c a b u → w ≡ step c b v → w ≡ walk step c a (b + 1) u
unfolding walk_steps
walk_more step c a b u v w within before last =
    let count : suc (b - a) ≡ b + 1 - a = omega arith in
    let at : b ≡ a + (b - a) = omega arith in
    last ∙ ap (step c b) before ∙ ap (λ n. step c n (walk_steps step c a (b - a) u)) at
    ∙ ap (λ n. walk_steps step c a n u) count

-- the steps of one walk and those of the next
walk_steps-walk_steps : (step : Steps) (c a m n : ℕ) (v : List ℕ) → walk_steps step c (a + m) n (walk_steps step c a m v) ≡ walk_steps step c a (m + n) v
unfolding walk_steps
walk_steps-walk_steps step c a m zero v = let all : m ≡ m + 0 = omega arith in ap (λ k. walk_steps step c a k v) all
walk_steps-walk_steps step c a m (suc n) v =
    let at : a + m + n ≡ a + (m + n) = omega arith in
    let more : suc (m + n) ≡ m + suc n = omega arith in
    ap (λ p. step c p (walk_steps step c (a + m) n (walk_steps step c a m v))) at
    ∙ ap (step c (a + (m + n))) (walk_steps-walk_steps step c a m n v)
    ∙ ap (λ k. walk_steps step c a k v) more

pub walk-walk : (step : Steps) (c a b d : ℕ) (v : List ℕ) → a ≤ b → b ≤ d → walk step c b d (walk step c a b v) ≡ walk step c a d v
walk-walk step c a b d v first second =
    let at : b ≡ a + (b - a) = omega arith in
    let all : b - a + (d - b) ≡ d - a = omega arith in
    ap (λ p. walk_steps step c p (d - b) (walk_steps step c a (b - a) v)) at
    ∙ walk_steps-walk_steps step c a (b - a) (d - b) v
    ∙ ap (λ k. walk_steps step c a k v) all

-- ---- counted from where the walk begins

pub walk_begun : (step : Steps) (c a : ℕ) (v : List ℕ) → v ≡ walk step c a (a + 0) v
unfolding walk_steps
walk_begun step c a v = let none : 0 ≡ a + 0 - a = omega arith in ap (λ n. walk_steps step c a n v) none

pub walk_further : (step : Steps) (c a n at : ℕ) (u v w : List ℕ)
    → v ≡ walk step c a (a + n) u → at ≡ a + n → w ≡ step c at v → w ≡ walk step c a (a + (n + 1)) u
walk_further step c a n at u v w before here last =
    let more : a + n + 1 ≡ a + (n + 1) = omega arith in
    walk_more step c a (a + n) u v w (omega arith) before (last ∙ ap (λ p. step c p v) here)
    ∙ ap (λ b. walk step c a b u) more

-- ---- the same walk of equal chains, places and values

pub walk_same : (step : Steps) (c d a e b f : ℕ) (u v w : List ℕ) → d ≡ c → e ≡ a → f ≡ b → v ≡ u → w ≡ walk step d e f v → w ≡ walk step c a b u
walk_same step c d a e b f u v w chain begin end value walked =
    walked
    ∙ ap (λ k. walk step k e f v) chain
    ∙ ap (λ k. walk step c k f v) begin
    ∙ ap (λ k. walk step c a k v) end
    ∙ ap (walk step c a b) value
