-- What a command does with a signer: a step of the signer first, and only after its Ok a file is written.
use Rattle.std.specs.Prelude.{ℕ, List, ◌≡◌, [], ◌∷◌, ◌++◌, length, Result, Ok, Err, Option, Some}
use Rattle.arrayvec.specs.ArrayVec.{ArrayVec}
use Rattle.state_file.specs.declared.record.Key.{Key}
use Rattle.state_file.specs.declared.store.Store as store
use Rattle.sign_core.specs.declared.fault.SignFault.{SignFault}
use Rattle.sign_core.specs.declared.key.AnyPublic.{AnyPublic}
use Rattle.sign_core.specs.Key.{SpellsKey}
use Rattle.sign_core.specs.Once.{public_of_key}
use Rattle.sign_core.specs.Signer.{Retires, View}
use Rattle.command.specs.declared.refusal.Refusal.{Refusal}
use Rattle.command.specs.declared.refusal.Refusal.TheVariants.{FileFailed, Signer}
use Rattle.command.specs.declared.trace.Role.TheVariants as role
use Rattle.command.specs.Trace.{Happening, not_written, written}

-- A refusal to sign is the answer, and no file was opened. Otherwise the signature was written to its file, whole, and
-- its size is the answer; or the file couldn't be written.
abbrev pub Delivers : Result (List ℕ) SignFault → (path : List ℕ) → (old new : List Happening) → Result ℕ Refusal
    → Type 0
Delivers (Err fault) path old new answer = (answer ≡ Err (Signer fault)) × (new ≡ old)
Delivers (Ok signature) path old new (Ok size) =
    (size ≡ length signature) × (new ≡ old ++ written role.Signature path signature ∷ [])
Delivers (Ok signature) path old new (Err refusal) =
    (refusal ≡ FileFailed) × (new ≡ old ++ not_written role.Signature path ∷ [])

-- the bytes of a public key, 56 to 68
abbrev pub PublicBytes : Type 0
PublicBytes = ArrayVec ℕ

-- Exactly the bytes of this public key were written to its file, and are the answer; or the file couldn't be written.
abbrev pub WritesPublic : AnyPublic → (path : List ℕ) → (old new : List Happening) → Result PublicBytes Refusal → Type 0
WritesPublic public path old new (Ok bytes) =
    SpellsKey public bytes.items × (new ≡ old ++ written role.Public path bytes.items ∷ [])
WritesPublic public path old new (Err refusal) =
    (refusal ≡ FileFailed) × (new ≡ old ++ not_written role.Public path ∷ [])

-- As `WritesPublic`, for the public key of this key.
abbrev pub Publishes : Option Key → (path : List ℕ) → (old new : List Happening) → Result PublicBytes Refusal → Type 0
Publishes key path old new (Ok bytes) =
    ((public : AnyPublic) × (public_of_key key ≡ Some public) × SpellsKey public bytes.items)
    × (new ≡ old ++ written role.Public path bytes.items ∷ [])
Publishes key path old new (Err refusal) =
    (refusal ≡ FileFailed) × (new ≡ old ++ not_written role.Public path ∷ [])

-- a signer's answer, as the command reports it
abbrev pub reported : {A : Type 0} → Result A SignFault → Result A Refusal
reported (Ok value) = Ok value
reported (Err fault) = Err (Signer fault)

-- The signer made a step of retiring the leaves below a number, and its answer is reported.
abbrev pub RetiresBelow : {S R : Type 0} → store.Ghosts S → (old new : View S R) → (upto : ℕ) → Result Unit Refusal
    → Type 0
RetiresBelow g old new upto answer =
    (retired : Result Unit SignFault) × Retires g old new upto retired × (answer ≡ reported retired)
