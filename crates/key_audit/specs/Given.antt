-- Signatures of one key, with their messages: which are valid, which use one leaf for different digests, and what a
-- check of them answers.
use Rattle.std.specs.Prelude.{◌≡◌, ◌≢◌, ℕ, ◌<◌, ◌^◌, List, codes, length, slice_get, Some, Result, Ok, Err, Contains}
use Rattle.sign_core.specs.declared.key.AnyPublic.{AnyPublic}
use Rattle.sign_core.specs.Once.{IsOneLeaf, IsValidUnder}
use Rattle.sign_core.specs.Uses.{LeafUse, MakesUses}
use Rattle.key_audit.specs.declared.given.Given.{Given}
use Rattle.key_audit.specs.declared.given.GivenFault.{GivenFault}
use Rattle.key_audit.specs.declared.given.GivenFault.TheVariants.{NotValid, LeafTwice, OutOfMemory}

-- ---- one signature

-- It is valid under the key for its message, which has fewer than 2^60 bytes, as every signed message does.
pub record IsValidGiven (public : AnyPublic) (given : Given) : Type 0 where
  pub verifies : IsValidUnder public given.message.items given.signature.items
  pub short : length given.message.items < 2 ^ 60

-- It makes this use of a leaf, at one of its levels.
abbrev pub Uses : AnyPublic → Given → LeafUse → Type 0
Uses public given used = (uses : List LeafUse)
    × MakesUses public given.message.items given.signature.items uses × Contains uses used

-- ---- two of them

-- They use one leaf of one tree for different digests, each at any of its levels.
pub record UseLeafTwice (public : AnyPublic) (a b : Given) : Type 0 where
  pub first : LeafUse
  pub second : LeafUse
  pub by_a : Uses public a first
  pub by_b : Uses public b second
  pub leaf : IsOneLeaf first second
  pub digests : first.digest ≢ second.digest

-- Signatures i and j do so.
pub record IsTwice (public : AnyPublic) (given : List Given) (i j : ℕ) : Type 0 where
  pub a : Given
  pub b : Given
  pub at_i : slice_get given i ≡ Some a
  pub at_j : slice_get given j ≡ Some b
  pub twice : UseLeafTwice public a b

-- ---- all of them

abbrev pub AreValid : AnyPublic → List Given → Type 0
AreValid public given = (k : ℕ) (each : Given) → slice_get given k ≡ Some each → IsValidGiven public each

-- Among the first n, no two do so.
abbrev pub NoneTwice : AnyPublic → List Given → ℕ → Type 0
NoneTwice public given n = (i j : ℕ) → i ≢ j → i < n → j < n → IsTwice public given i j → ⊥

pub record IsFirstNotValid (public : AnyPublic) (given : List Given) (i : ℕ) : Type 0 where
  pub each : Given
  pub stands : slice_get given i ≡ Some each
  pub not_valid : IsValidGiven public each → ⊥
  pub first : (k : ℕ) (other : Given) → k < i → slice_get given k ≡ Some other → IsValidGiven public other

-- Signature j is the first that shares a leaf with an earlier one, for another digest; i is the first of these.
pub record IsFirstTwice (public : AnyPublic) (given : List Given) (i j : ℕ) : Type 0 where
  pub earlier : i < j
  pub twice : IsTwice public given i j
  pub first : NoneTwice public given j
  pub least : (k : ℕ) → k < i → IsTwice public given k j → ⊥

-- The check's answer. Ok: all are valid, and no two use one leaf for different digests. 46 comes only where all are
-- valid and there is one.
abbrev pub Checks : {A : Type 0} → AnyPublic → List Given → Result A GivenFault → Type 0
Checks public given (Ok _) = AreValid public given × NoneTwice public given (length given)
Checks public given (Err (NotValid i)) = IsFirstNotValid public given i
Checks public given (Err (LeafTwice i j)) = AreValid public given × IsFirstTwice public given i j
Checks public given (Err OutOfMemory) = AreValid public given × (0 < length given)

abbrev pub given_fault_number : GivenFault → ℕ
given_fault_number (NotValid i) = 60
given_fault_number (LeafTwice i j) = 61
given_fault_number OutOfMemory = 46

abbrev pub given_fault_name : GivenFault → List ℕ
given_fault_name (NotValid place) = codes "NotValid"
given_fault_name (LeafTwice first second) = codes "LeafTwice"
given_fault_name OutOfMemory = codes "OutOfMemory"
