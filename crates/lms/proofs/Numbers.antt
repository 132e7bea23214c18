-- The number of a node in 4 bytes, which keep the lowest 32 bits of any number.
use Rattle.std.proofs.Common.{◌≡◌, ℕ, ◌+◌, ◌-◌, ◌*◌, ◌/◌, ◌%◌, ◌^◌, ◌<◌, ◌≤◌, Option, Some, None, sym, ap, ◌∙◌, arith}
use Rattle.std.specs.Option.{SomeIff, unwrap_or}
use Rattle.std.proofs.Math.Nat.{mul-mod_left}
use Rattle.std.proofs.lemmas.Nat.{pow-add}
use Rattle.lmots.specs.Hashes.{u32str}

u32str-low : (x : ℕ) → u32str (x % 2 ^ 32) ≡ u32str x
u32str-low x =
    let first : x % 2 ^ 32 / 2 ^ 24 % 256 ≡ x / 2 ^ 24 % 256 = omega arith in
    let second : x % 2 ^ 32 / 2 ^ 16 % 256 ≡ x / 2 ^ 16 % 256 = omega arith in
    let third : x % 2 ^ 32 / 2 ^ 8 % 256 ≡ x / 2 ^ 8 % 256 = omega arith in
    let last : x % 2 ^ 32 % 256 ≡ x % 256 = omega arith in
    cc

-- a power of 2 that is shifted out leaves nothing of its lowest 32 bits
shifted_out : (n : ℕ) → 32 ≤ n → 2 ^ n % 2 ^ 32 ≡ 0
shifted_out n h =
    let parts : n ≡ (n - 32) + 32 = omega arith in
    ap (λ k. 2 ^ k % 2 ^ 32) parts ∙ ap (λ k. k % 2 ^ 32) (pow-add 2 (n - 32) 32) ∙ mul-mod_left (2 ^ (n - 32)) (2 ^ 32)

-- a shift, or 0 where it isn't one, is the lowest 32 bits of the power
pub shift-or-zero : (n : ℕ) (shifted : Option ℕ) → SomeIff shifted (n < 32) (1 * 2 ^ n % 2 ^ 32) → unwrap_or shifted 0 ≡ 2 ^ n % 2 ^ 32
shift-or-zero n None beyond = sym (shifted_out n (omega (arith, beyond)))
shift-or-zero n (Some x) is = omega (arith, is.1)

-- and adding to it wraps to the same bytes
pub u32str-wrapped : (power first j : ℕ) → first ≡ power % 2 ^ 32 → u32str ((first + j) % 2 ^ 32) ≡ u32str (power + j)
u32str-wrapped power first j low =
    let same : (first + j) % 2 ^ 32 ≡ (power + j) % 2 ^ 32 = omega arith in
    ap u32str same ∙ u32str-low (power + j)
