-- A leaf's one-time key: its chains, its public hash, a signature's values and where they lead (RFC 8554, section 4 and
-- Appendix A). I is the tree's identifier, q the leaf's number.
use Rattle.std.specs.Prelude.{ℕ, ◌-◌, ◌^◌, List, ◌++◌, map, slice_index}
use Rattle.std.specs.List.{concat, range_with_len}
use Rattle.sha2.specs.Sha256.{sha256}
use Rattle.typecodes.specs.Types.{chains_of, width_of}
use Rattle.typecodes.specs.declared.types.OtsType.{OtsType}
use Rattle.winternitz.specs.Digest.{digits_of}
use Rattle.winternitz.specs.Chain.{AreEnds, ends_of, Steps, walk}
use Rattle.lmots.specs.Hashes.{message_separator, public_separator, u8str, u16str, u32str}

-- H(I || u32str(q) || u16str(i) || u8str(j) || tmp): step j of chain i (4.3)
abbrev pub step_of : List ℕ → ℕ → Steps
step_of identifier q i j value = sha256 (identifier ++ u32str q ++ u16str i ++ u8str j ++ value)

-- H(I || u32str(q) || u16str(i) || u8str(0xff) || SEED): the private value of chain i (Appendix A)
-- Requirement: RFC 8554 4.2, strength
-- Requirement: SP 800-208 6.1, lms values
abbrev pub private_value : List ℕ → ℕ → List ℕ → ℕ → List ℕ
private_value identifier q seed i = sha256 (identifier ++ u32str q ++ u16str i ++ u8str 0xff ++ seed)

-- the value of chain i after its first n steps, from its private value (4.3)
abbrev pub chain_value : List ℕ → ℕ → List ℕ → ℕ → ℕ → List ℕ
chain_value identifier q seed i n = walk (step_of identifier q) i 0 n (private_value identifier q seed i)

-- the ends of all chains of a key whose private values are derived from a seed (4.3)
abbrev pub ends_of_seed : List ℕ → ℕ → OtsType → List ℕ → List (List ℕ)
ends_of_seed identifier q ots seed =
    map (λ i. chain_value identifier q seed i (2 ^ width_of ots - 1)) (range_with_len 0 (chains_of ots))

-- K = H(I || u32str(q) || u16str(D_PBLC) || y[0] || .. || y[p-1]): the public hash of the ends of all chains (4.3)
abbrev pub public_hash : List ℕ → ℕ → List (List ℕ) → List ℕ
public_hash identifier q ends = sha256 (identifier ++ u32str q ++ u16str public_separator ++ concat ends)

-- I || u32str(q) || u16str(D_MESG) || C: what is hashed before the message (4.5)
abbrev pub message_prefix_of : List ℕ → ℕ → List ℕ → List ℕ
message_prefix_of identifier q randomizer = identifier ++ u32str q ++ u16str message_separator ++ randomizer

-- Q = H(I || u32str(q) || u16str(D_MESG) || C || message): the digest that is signed (4.5)
abbrev pub message_digest_of : List ℕ → ℕ → List ℕ → List ℕ → List ℕ
message_digest_of identifier q randomizer message =
    sha256 (identifier ++ u32str q ++ u16str message_separator ++ randomizer ++ message)

-- the values of a signature of the digest Q: each private value walked to the chain's digit of Q (4.5)
abbrev pub signed_values : List ℕ → ℕ → OtsType → List ℕ → List ℕ → List (List ℕ)
signed_values identifier q ots seed digest =
    map (λ i. chain_value identifier q seed i (slice_index (digits_of (width_of ots) digest) i))
    (range_with_len 0 (chains_of ots))

-- The values of a signature of Q climb to these ends, each from its chain's digit of Q (4.6, algorithm 4b, step 3).
abbrev pub ClimbTo : List ℕ → ℕ → OtsType → List ℕ → List (List ℕ) → List (List ℕ) → Type 0
ClimbTo identifier q ots digest values ends =
    AreEnds (step_of identifier q) (width_of ots) (digits_of (width_of ots) digest) values ends

-- the ends to which they climb
abbrev pub ends_of_signature : List ℕ → ℕ → OtsType → List ℕ → List (List ℕ) → List (List ℕ)
ends_of_signature identifier q ots digest values =
    ends_of (step_of identifier q) (width_of ots) (digits_of (width_of ots) digest) values
