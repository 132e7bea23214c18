-- What a request for a new name makes room for, and why it is refused there.
use Rattle.std.specs.Prelude.{◌≡◌, ◌⊎◌, ℕ, ◌+◌, ◌-◌, ◌<◌, ◌≤◌, length, true, Some, Result, Ok, Err}
use Rattle.state_file.specs.declared.record.Key.{Key}
use Rattle.state_file.specs.Laws.{levels_of}
use Rattle.sign_core.specs.declared.fault.SignFault.{SignFault}
use Rattle.sign_core.specs.declared.fault.SignFault.TheVariants.{LedgerFull, OutOfMemory}
use Rattle.sign_core.specs.Caches.{LacksCache}
use Rattle.sign_core.specs.Signer.{KeepsAll, View, is_before_caches, is_fault, signature_size}
use Rattle.sign_core.specs.inner.Signing.{IsReady}

-- There is room for a new name's records and signature, and the caches of its trees are there; `level` is the deepest
-- with a free leaf. Or the store has no room (30), or memory is refused (29).
abbrev pub HasPrepared : {S R A : Type 0} (most level : ℕ) (key : Key) (old new : View S R) (capacity room : ℕ)
    → Result A SignFault → Type 0
HasPrepared most level key old new capacity room (Ok _) =
    IsReady most (levels_of key.secret - level) new × (room ≡ signature_size key.secret)
HasPrepared most level key old new capacity room (Err LedgerFull) =
    most < length old.records + (levels_of key.secret - level)
HasPrepared most level key old new capacity room (Err OutOfMemory) =
    (length old.records + (levels_of key.secret - level) ≤ most)
    × ((capacity < signature_size key.secret) ⊎ (old.spare < levels_of key.secret - level)
    ⊎ LacksCache key old.records (Some level) (length old.records) old.cached)
HasPrepared most level key old new capacity room (Err _) = ⊥

pub record Prepares {S R A : Type 0} (most level : ℕ) (old new : View S R) (capacity room : ℕ)
    (result : Result A SignFault) (key : Key) : Type 0 where
  pub keeps : KeepsAll old new
  pub caches : is_fault is_before_caches result ≡ true → new.cached ≡ old.cached
  pub spare : old.spare ≤ new.spare
  pub does : HasPrepared most level key old new capacity room result
