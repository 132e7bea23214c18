-- A signature's values climb to the ends of the key's chains.
use Rattle.std.proofs.Common.{◌≡◌, refl, ℕ, ◌<◌, List, [], length, get_or}
use Rattle.std.specs.List.{concat}
use Rattle.sha2.proofs.Facts256.{length-sha256}
use Rattle.typecodes.specs.Fields.{first_values}
use Rattle.winternitz.specs.Digest.{digits_of}
use Rattle.winternitz.proofs.Signing as chains
use Rattle.wots_plus.specs.Key.{ClimbTo, ends_of_secret, private_value, signed_values, step_of}

pub signed_climbs : (seed : List ℕ) (leaf : ℕ) (secret digest : List ℕ)
    → ClimbTo seed leaf digest (signed_values seed leaf secret digest) (ends_of_secret seed leaf secret)
signed_climbs seed leaf secret digest = chains.signed_climbs (step_of seed leaf) (private_value seed leaf secret) 4 67 digest refl

-- each value has 32 bytes
pub signed_sizes : (seed : List ℕ) (leaf : ℕ) (secret digest : List ℕ) (i : ℕ) → i < 67
    → length (get_or (signed_values seed leaf secret digest) i []) ≡ 32
signed_sizes seed leaf secret digest =
    chains.signed_sizes (step_of seed leaf) (private_value seed leaf secret) (digits_of 4 digest) 67
    (λ i j v. length-sha256 _) (λ i. length-sha256 _)

pub bytes_climb : (seed : List ℕ) (leaf : ℕ) (secret digest bytes : List ℕ) → bytes ≡ concat (signed_values seed leaf secret digest)
    → ClimbTo seed leaf digest (first_values 67 bytes) (ends_of_secret seed leaf secret)
bytes_climb seed leaf secret digest bytes are =
    chains.bytes_climb (step_of seed leaf) (private_value seed leaf secret) 4 67 digest bytes
    refl (λ i j v. length-sha256 _) (λ i. length-sha256 _) are
