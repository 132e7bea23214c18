-- How many digits the digests of a type have.
use Rattle.std.proofs.Common.{◌≡◌, ◌≤◌, refl, arith}
use Rattle.typecodes.specs.declared.types.OtsType.{OtsType}
use Rattle.typecodes.specs.declared.types.OtsType.TheVariants.{W1, W2, W4, W8}
use Rattle.typecodes.specs.Types.{chains_of, width_of}
use Rattle.winternitz.specs.Digest.{digit_count}

-- one for each chain
pub digits_are_chains : (ots : OtsType) → digit_count (width_of ots) ≡ chains_of ots
digits_are_chains W1 = refl
digits_are_chains W2 = refl
digits_are_chains W4 = refl
digits_are_chains W8 = refl

-- at most 265 of them
pub chains_at_most : (ots : OtsType) → chains_of ots ≤ 265
chains_at_most W1 = omega arith
chains_at_most W2 = omega arith
chains_at_most W4 = omega arith
chains_at_most W8 = omega arith
