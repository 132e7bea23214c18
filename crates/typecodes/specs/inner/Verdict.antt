-- The answer for one level's signature of a digest.
use Rattle.std.specs.Prelude.{◌≡◌, ℕ, Result, Ok, Err}
use Rattle.typecodes.specs.declared.refusal.Refusal.{Refusal}
use Rattle.typecodes.specs.declared.refusal.Refusal.TheVariants.{RootMismatch}

-- The answer for a decoded signature of level i, by the digest of what it signs: it is valid, or leads to another root.
abbrev pub DigestVerdict : {A : Type 0} → Type 0 → ℕ → Result A Refusal → Type 0
DigestVerdict valid i (Ok _) = valid
DigestVerdict valid i (Err (RootMismatch level)) = (level ≡ i) × (valid → ⊥)
DigestVerdict valid i (Err other) = ⊥
