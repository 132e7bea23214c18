-- A signature's values climb to the ends of the key's chains.
use Rattle.std.proofs.Common.{◌≡◌, sym, ℕ, ◌<◌, List, [], length, get_or}
use Rattle.std.specs.List.{concat}
use Rattle.sha2.proofs.Facts256.{length-sha256}
use Rattle.typecodes.specs.Fields.{first_values}
use Rattle.typecodes.specs.Types.{chains_of, width_of}
use Rattle.typecodes.specs.declared.types.OtsType.{OtsType}
use Rattle.winternitz.specs.Digest.{digits_of}
use Rattle.winternitz.proofs.Signing as chains
use Rattle.lmots.specs.Key.{ClimbTo, ends_of_seed, private_value, signed_values, step_of}
use Rattle.winternitz.proofs.Chains.{digits_are_chains}

-- the values of a signature climb to the ends of the key's chains
pub signed_climbs : (identifier : List ℕ) (q : ℕ) (ots : OtsType) (seed digest : List ℕ)
    → ClimbTo identifier q ots digest (signed_values identifier q ots seed digest) (ends_of_seed identifier q ots seed)
signed_climbs identifier q ots seed digest =
    chains.signed_climbs (step_of identifier q) (private_value identifier q seed) (width_of ots) (chains_of ots) digest
    (sym (digits_are_chains ots))

-- each of them has 32 bytes
pub signed_sizes : (identifier : List ℕ) (q : ℕ) (ots : OtsType) (seed digest : List ℕ) (i : ℕ) → i < chains_of ots
    → length (get_or (signed_values identifier q ots seed digest) i []) ≡ 32
signed_sizes identifier q ots seed digest =
    chains.signed_sizes (step_of identifier q) (private_value identifier q seed) (digits_of (width_of ots) digest) (chains_of ots)
    (λ i j v. length-sha256 _) (λ i. length-sha256 _)

-- what bytes that contain the values of a signature climb to
pub bytes_climb : (identifier : List ℕ) (q : ℕ) (ots : OtsType) (seed digest bytes : List ℕ) → bytes ≡ concat (signed_values identifier q ots seed digest)
    → ClimbTo identifier q ots digest (first_values (chains_of ots) bytes) (ends_of_seed identifier q ots seed)
bytes_climb identifier q ots seed digest bytes are =
    chains.bytes_climb (step_of identifier q) (private_value identifier q seed) (width_of ots) (chains_of ots) digest bytes
    (sym (digits_are_chains ots)) (λ i j v. length-sha256 _) (λ i. length-sha256 _) are
