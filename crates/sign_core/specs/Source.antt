-- What a source of random bytes does, and what callers see of a `TapeSource` and an `RngSource`.
use Rattle.std.specs.Prelude.{◌≡◌, ℕ, ◌+◌, List, ◌++◌, Option, Some, None, Result, Ok, Err}
use Rattle.sign_core.specs.declared.source.RngSource.{RngSource}
use Rattle.sign_core.specs.declared.source.TapeSource.{TapeSource}

-- A source gives these bytes: they come first in what was known to come. What wasn't known before isn't afterwards.
abbrev pub Provides : Option (List ℕ) → List ℕ → Option (List ℕ) → Type 0
Provides None bytes left = left ≡ None
Provides (Some upcoming) bytes None = ⊥
Provides (Some upcoming) bytes (Some left) = upcoming ≡ bytes ++ left

-- A fill, by its answer: the count of failures, and the bytes still to come.
abbrev pub Fills : {A E : Type 0} (failures_before failures_after : ℕ) (upcoming left : Option (List ℕ))
    (bytes : List ℕ) → Result A E → Type 0
Fills before after upcoming left bytes (Ok _) = (after ≡ before) × Provides upcoming bytes left
Fills before after upcoming left bytes (Err _) = (after ≡ before + 1) × (left ≡ upcoming)

-- ---- a `TapeSource`

abbrev pub tape_rest_of : TapeSource → List ℕ
tape_rest_of source = source.bytes.now

abbrev pub tape_failures_of : TapeSource → ℕ
tape_failures_of source = source.failures

-- ---- an `RngSource`

abbrev pub rng_of : {T E : Type 0} → RngSource T E → T
rng_of source = source.rng

abbrev pub rng_failures_of : {T E : Type 0} → RngSource T E → ℕ
rng_failures_of source = source.failures
