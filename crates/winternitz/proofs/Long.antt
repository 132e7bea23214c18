-- Messages with their padding in front of other bytes.
use Rattle.std.proofs.Common.{◌≡◌, ◌∙◌, ℕ, ◌<◌, ◌≤◌, ◌+◌, ◌-◌, ◌*◌, ◌/◌, ◌%◌, ◌^◌, List, ◌∷◌, ◌++◌, length, take, drop, replicate, arith, refl, sym, ap, ap₂, add-one, length-take-le}
use Rattle.std.proofs.lemmas.List.{take-append-drop, take-replicate}
use Rattle.std.specs.Int.{w64, to_be_bytes}
use Rattle.sha2.proofs.Absorbing256.{hash_after-append}
use Rattle.sha2.specs.Sha256.{digest_bytes, hash_after, initial_hash_256, padded_message, padding, sha256}

-- the first of bytes that are all alike but for one before them
first_and_alike : (x y n room : ℕ) → n ≤ room → take (n + 1) (x ∷ replicate room y) ≡ x ∷ replicate n y
first_and_alike x y n room within = rw (add-one, take-replicate n room y within) refl

-- the padding's first byte, its zeros, and the length in bits
pub padding_by_parts : (n zeros room : ℕ) (bytes : List ℕ) → n < 2 ^ 32 → zeros ≡ (119 - n % 64) % 64 → zeros ≤ room → bytes ≡ to_be_bytes w64 (8 * n)
    → take (zeros + 1) (128 ∷ replicate room 0) ++ bytes ≡ padding n
padding_by_parts n zeros room bytes low count within is =
    let bits : 8 * n ≡ n * 8 % 2 ^ 64 = omega arith in
    rw (first_and_alike 128 0 zeros room within, is, ← bits, ← count) refl

-- a message's padded bytes have its SHA-256, whatever stands behind them
pub sha256_by_front : (m bytes : List ℕ) (end : ℕ) → take end bytes ≡ padded_message m → end ≤ length bytes
    → digest_bytes (hash_after initial_hash_256 bytes (end / 64)) 8 ≡ sha256 m
unfolding sha256
sha256_by_front m bytes end is within =
    let front = take end bytes in
    let long : length front ≡ end = length-take-le end bytes within in
    let all : length (padded_message m) ≡ end = ap length (sym is) ∙ long in
    let count : end / 64 ≡ length (padded_message m) / 64 = omega arith in
    let blocks : hash_after initial_hash_256 bytes (end / 64) ≡ hash_after initial_hash_256 front (end / 64) =
    ap (λ b. hash_after initial_hash_256 b (end / 64)) (sym (take-append-drop end bytes))
    ∙ hash_after-append initial_hash_256 front (drop end bytes) (end / 64) (omega arith) in
    ap (λ h. digest_bytes h 8) (blocks ∙ ap₂ (hash_after initial_hash_256) is count)
