-- What the contracts of signing share: an answer with its bytes, the records' key, the memory of an output, and the
-- caches that a request makes.
use Rattle.std.specs.Prelude.{◌≡◌, ◌⊎◌, ℕ, List, length, Option, Some, None, Bool, true, false, ◌||◌}
use Rattle.std.specs.Prelude.{Result, Ok, Err, max, ◌≤◌}
use Rattle.state_file.specs.declared.record.Bound.{Bound}
use Rattle.state_file.specs.declared.record.Key.{Key}
use Rattle.state_file.specs.declared.record.Record.{Record}
use Rattle.sign_core.specs.declared.fault.SignFault.{SignFault}
use Rattle.sign_core.specs.Caches.{Cached, HasCaches, KeepsOrRenews, LosesCache}
use Rattle.sign_core.specs.Records.{deepest, the_key}
use Rattle.sign_core.specs.Signer.{is_before_caches, is_before_repeat, is_fault, is_out_of_memory, signature_size}
use Rattle.state_file.specs.Laws.{bottom_of}
use Rattle.state_file.specs.declared.record.Secret.TheVariants.{Xmss}
use Rattle.typecodes.specs.declared.secret.XmssSecret.{XmssSecret}

-- the answer, with this value where it is Ok
abbrev pub answered_value : {A B : Type 0} → Result A SignFault → B → Result B SignFault
answered_value (Ok _) value = Ok value
answered_value (Err fault) value = Err fault

-- P holds of the records' key
abbrev pub UnderKey : List Record → (Key → Type 0) → Type 0
UnderKey records P = (key : Key) → the_key records ≡ Some key → P key

-- An output keeps its memory, which grows no further than a signature of the records' key takes.
abbrev pub KeepsCapacity : List Record → (old new : ℕ) → Type 0
KeepsCapacity records old new = (old ≤ new) × UnderKey records (λ key. new ≤ max old (signature_size key.secret))

-- ---- what a request makes

-- The output has memory for a signature, and the caches are there that it needs.
pub record IsPrepared (key : Key) (records : List Record) (lowest : Option ℕ) (before : ℕ) (cached : Cached)
    (capacity : ℕ) : Type 0 where
  pub room : signature_size key.secret ≤ capacity
  pub caches : HasCaches key records lowest before cached

-- 29 comes as long as a request isn't prepared, and so do earlier refusals.
abbrev pub is_unprepared : (is_early : SignFault → Bool) → SignFault → Bool
is_unprepared is_early fault = is_out_of_memory fault || is_early fault

-- With any other answer a request was prepared: for a bound name by the caches of the current trees that stood before
-- its record, for a new one by those down to the deepest level with a free leaf. So 29 comes before 28.
abbrev pub MakesCaches : {A : Type 0} → Key → List Record → Option (ℕ × Bound) → Cached → (capacity : ℕ)
    → Result A SignFault → Type 0
MakesCaches key records (Some (k, bound)) cached capacity answer =
    is_fault (is_unprepared is_before_repeat) answer ≡ false
    → IsPrepared key records (Some (bottom_of key.secret)) k cached capacity
MakesCaches key records None cached capacity answer =
    is_fault (is_unprepared is_before_caches) answer ≡ false
    → IsPrepared key records (deepest key.secret records) (length records) cached capacity

-- 29 (OutOfMemory) leaves the caches as they were, or one that the request needs couldn't be made. Or a new name has
-- all that it needs, and memory was refused for a later step: then each level has the cache that it had or its current
-- tree's.
abbrev pub LeavesCaches : {A : Type 0} → Key → (before after : List Record) → Option (ℕ × Bound) → (old new : Cached)
    → Result A SignFault → Type 0
LeavesCaches key before after (Some (k, bound)) old new answer = is_fault is_out_of_memory answer ≡ true
    → (new ≡ old) ⊎ LosesCache key before (bottom_of key.secret) k old new
LeavesCaches key before after None old new answer = is_fault is_out_of_memory answer ≡ true
    → (new ≡ old) ⊎ ((lowest : ℕ) × (deepest key.secret before ≡ Some lowest)
    × (LosesCache key before lowest (length before) old new
    ⊎ (HasCaches key before (Some lowest) (length before) new × KeepsOrRenews key after old new)))

-- After any other answer each level has the cache that it had, or its current tree's. So a level whose new tree wasn't
-- recorded has the cache that it had.
abbrev pub KeepsCaches : {A : Type 0} → Key → List Record → (old new : Cached) → Result A SignFault → Type 0
KeepsCaches key records old new answer =
    is_fault is_out_of_memory answer ≡ false → KeepsOrRenews key records old new

-- ---- an XMSS key

abbrev pub IsXmssKey : XmssSecret → Key → Type 0
IsXmssKey secret key = key.secret ≡ Xmss secret
