-- Steps of chains, by what their hashes begin with.
use Rattle.std.proofs.Common.{◌≡◌, ◌∙◌, sym, ap, ap₂, ℕ, ◌<◌, List, ◌++◌, replicate, slice_index}
use Rattle.std.proofs.lemmas.List.{append_assoc, get_or-replicate}
use Rattle.sha2.specs.Sha256.{sha256}
use Rattle.lmots.specs.Hashes.{u8str, u16str, u32str}
use Rattle.lmots.specs.Key.{step_of}
use Rattle.winternitz.specs.Lanes.{lanes, step_bytes}

-- a hash of I, q, and the bytes of a step is that step
pub step_hashed : (identifier : List ℕ) (q chain at : ℕ) (first value before digest : List ℕ)
    → digest ≡ sha256 (first ++ step_bytes chain at value) → first ≡ identifier ++ u32str q → value ≡ before
    → digest ≡ step_of identifier q chain at before
step_hashed identifier q chain at first value before digest hashed begins same =
    let whole : (identifier ++ u32str q) ++ step_bytes chain at value ≡ identifier ++ u32str q ++ u16str chain ++ u8str at ++ value =
    sym (append_assoc (identifier ++ u32str q ++ u16str chain) (u8str at) value
    ∙ append_assoc (identifier ++ u32str q) (u16str chain) (u8str at ++ value)) in
    let step : sha256 ((identifier ++ u32str q) ++ step_bytes chain at value) ≡ step_of identifier q chain at value = ap sha256 whole in
    hashed ∙ ap (λ f. sha256 (f ++ step_bytes chain at value)) begins ∙ step ∙ ap (step_of identifier q chain at) same

-- the same in a lane, where the chains of all lanes have one number and their steps another
pub step_hashed_in : (identifier : List ℕ) (q chain at j : ℕ) (first value before digest : List ℕ) → j < lanes
    → digest ≡ sha256 (first ++ step_bytes (slice_index (replicate lanes chain) j) (slice_index (replicate lanes at) j) value)
    → first ≡ identifier ++ u32str q → value ≡ before
    → digest ≡ step_of identifier q chain at before
step_hashed_in identifier q chain at j first value before digest low hashed begins same =
    step_hashed identifier q chain at first value before digest
    (hashed ∙ ap₂ (λ c a. sha256 (first ++ step_bytes c a value)) (get_or-replicate lanes j chain 0 low) (get_or-replicate lanes j at 0 low))
    begins same
