-- Where a signature's bytes have the chains' values.
use Rattle.std.proofs.Common.{◌≡◌, ◌∙◌, refl, sym, ap, ℕ, ◌+◌, ◌*◌, ◌<◌, ◌≤◌, List, [], length, take, drop, get_or, Ok, arith}
use Rattle.typecodes.specs.Fields.{values, first_values}
use Rattle.typecodes.specs.Cursor.{read}
use Rattle.typecodes.proofs.Parts.{values_at, values_read_at}
use Rattle.xmss.specs.Signature.{chain_values}

chains_are : (n : ℕ) (bytes : List ℕ) → n ≡ 67 → first_values n bytes ≡ chain_values bytes
unfolding chain_values
chains_are n bytes all = ap (λ n. first_values n bytes) all

chains_read : (n place : ℕ) (bytes all : List ℕ) (vs : List (List ℕ)) (from end : ℕ) → n ≡ 67 → all ≡ bytes → from ≡ place → from ≤ length all → read (values n) all from ≡ Ok (vs, end)
    → vs ≡ chain_values (drop place bytes)
chains_read n place bytes all vs from end count same at within found =
    values_read_at n place bytes all vs n from end same at refl within found ∙ chains_are n (drop place bytes) count

pub chains_read_at : (place : ℕ) (bytes all : List ℕ) (vs : List (List ℕ)) (from end : ℕ) → all ≡ bytes → from ≡ place → from ≤ length all → read (values 67) all from ≡ Ok (vs, end)
    → vs ≡ chain_values (drop place bytes)
chains_read_at place bytes all vs from end = chains_read 67 place bytes all vs from end refl

-- value i of them
of_chains : (n place : ℕ) (bytes : List ℕ) (vs : List (List ℕ)) (j i : ℕ) → n ≡ 67 → vs ≡ chain_values (drop place bytes) → i < 67 → j ≡ i
    → get_or vs j [] ≡ take 32 (drop (place + 32 * i) bytes)
of_chains n place bytes vs j i all vs_are within same =
    values_at n place bytes vs j i (vs_are ∙ sym (chains_are n (drop place bytes) all)) (omega arith) same

pub chain_at : (place : ℕ) (bytes : List ℕ) (vs : List (List ℕ)) (j i : ℕ) → vs ≡ chain_values (drop place bytes) → i < 67 → j ≡ i
    → get_or vs j [] ≡ take 32 (drop (place + 32 * i) bytes)
chain_at place bytes vs j i vs_are within same = of_chains 67 place bytes vs j i refl vs_are within same
