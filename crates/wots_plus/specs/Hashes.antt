-- The hashes of WOTS+ and of hash trees (RFC 8391, sections 3.1, 4.1 and 5.1), for SHA-256 with n = 32.
use Rattle.std.specs.Prelude.{ℕ, List, ◌++◌, map, bit_xor}
use Rattle.std.specs.List.{zip}
use Rattle.byteorder.specs.Endian.{big_bytes}
use Rattle.sha2.specs.Sha256.{sha256}

-- toByte(x, y): x as y bytes, big-endian (2.4)
abbrev pub to_byte : ℕ → ℕ → List ℕ
to_byte x y = big_bytes y x

-- F, H, H_msg and PRF of a key and a message (5.1)
abbrev pub hash_f : List ℕ → List ℕ → List ℕ
hash_f key message = sha256 (to_byte 0 32 ++ key ++ message)

abbrev pub hash_h : List ℕ → List ℕ → List ℕ
hash_h key message = sha256 (to_byte 1 32 ++ key ++ message)

abbrev pub hash_message : List ℕ → List ℕ → List ℕ
hash_message key message = sha256 (to_byte 2 32 ++ key ++ message)

abbrev pub prf : List ℕ → List ℕ → List ℕ
prf key message = sha256 (to_byte 3 32 ++ key ++ message)

-- A XOR B, byte by byte (2.3)
abbrev pub xor : List ℕ → List ℕ → List ℕ
xor a b = map (λ pair. bit_xor pair.0 pair.1) (zip a b)

-- An address without its keyAndMask: a function of that word (2.5).
abbrev pub Adrs : Type 0
Adrs = ℕ → List ℕ

-- one step of a chain: KEY = PRF(SEED, ADRS) with keyAndMask 0, BM = PRF(SEED, ADRS) with keyAndMask 1,
-- F(KEY, tmp XOR BM) (3.1.2)
abbrev pub step_at : List ℕ → Adrs → List ℕ → List ℕ
step_at seed adrs value = hash_f (prf seed (adrs 0)) (xor value (prf seed (adrs 1)))

-- RAND_HASH: KEY, BM_0 and BM_1 = PRF(SEED, ADRS) with keyAndMask 0, 1 and 2,
-- H(KEY, (LEFT XOR BM_0) || (RIGHT XOR BM_1)) (4.1.4)
abbrev pub rand_hash : List ℕ → Adrs → List ℕ → List ℕ → List ℕ
rand_hash seed adrs left right =
    hash_h (prf seed (adrs 0)) (xor left (prf seed (adrs 1)) ++ xor right (prf seed (adrs 2)))

-- a private value: SHA-256(toByte(4, 32) || S_XMSS || SEED || ADRS), ADRS with keyAndMask 0. The standard leaves this
-- choice open (3.1.7).
-- Requirement: RFC 8391 3.1.3, derived
-- Requirement: SP 800-208 6.2, xmss values
abbrev pub private_value_at : List ℕ → List ℕ → Adrs → List ℕ
private_value_at secret seed adrs = sha256 (to_byte 4 32 ++ secret ++ seed ++ adrs 0)
