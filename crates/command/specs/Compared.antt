-- Whether a signature could be a key's, by their fields: what `list SIGNATURE PUBLIC` says.
use Rattle.std.specs.Prelude.{◌≡◌, ◌⊎◌, ◌↔◌, ℕ, List, Option, Some, Result, Ok, Err, Bool, true}
use Rattle.typecodes.specs.Layout.{HasFault, Spells}
use Rattle.typecodes.specs.declared.fault.ReadFault.{ReadFault}
use Rattle.typecodes.specs.declared.refusal.Refusal.TheVariants.{Unreadable}
use Rattle.lms.specs.declared.key.LmsPublic.{LmsPublic}
use Rattle.lms.specs.Signature.{Signature as LmsFields, signature as lms_signature}
use Rattle.hss.specs.declared.key.HssPublic.{HssPublic}
use Rattle.hss.specs.Signature.{Signature as HssFields, level_count, signature as hss_signature, signature_at}
use Rattle.xmss.specs.declared.key.XmssPublic.{XmssPublic}
use Rattle.xmss.specs.Signature.{Signature as XmssFields, signature as xmss_signature}
use Rattle.sign_core.specs.declared.key.AnyPublic.{AnyPublic}
use Rattle.sign_core.specs.declared.key.AnyPublic.TheVariants.{Lms, Hss, Xmss}
use Rattle.sign_core.specs.declared.key.KeyFault.{KeyFault}
use Rattle.command.specs.declared.answer.Done.{Done}
use Rattle.command.specs.declared.answer.Done.TheVariants.{Described as DescribedDone}
use Rattle.command.specs.declared.described.Described.{Described}
use Rattle.command.specs.declared.refusal.Refusal.{Refusal}
use Rattle.command.specs.declared.refusal.Refusal.TheVariants.{Key, Signature}
use Rattle.command.specs.declared.trace.Role.TheVariants as role
use Rattle.command.specs.Described.{Describes, SpellNoSignature}
use Rattle.command.specs.Files.{FailsFile, FailsToReadOrKeep, ReadsFile, ReadsKey, ReadsStart}
use Rattle.command.specs.Trace.{Happening}

-- ---- fields

-- The bytes spell a signature of the key's scheme and types. Its leaf is one of the tree, as each signature's is.
abbrev pub CouldBeLms : LmsPublic → List ℕ → Type 0
CouldBeLms key bytes = (s : LmsFields) × Spells lms_signature s bytes × (s.pair ≡ key.pair)

-- An HSS key fixes the number of levels, and the types of the top one.
abbrev pub CouldBeHss : HssPublic → List ℕ → Type 0
CouldBeHss key bytes = (s : HssFields) × Spells hss_signature s bytes × (level_count s ≡ key.levels)
    × ((signature_at s 0).pair ≡ key.top.pair)

abbrev pub CouldBeXmss : XmssPublic → List ℕ → Type 0
CouldBeXmss key bytes = (s : XmssFields) × Spells (xmss_signature key.tree) s bytes

-- The bytes spell a signature that could be the key's. Only verification says whether it is.
abbrev pub CouldBe : AnyPublic → List ℕ → Type 0
CouldBe (Lms key) bytes = CouldBeLms key bytes
CouldBe (Hss key) bytes = CouldBeHss key bytes
CouldBe (Xmss key) bytes = CouldBeXmss key bytes

-- The first fault of bytes that spell no signature of the key's scheme and, for XMSS, type.
abbrev pub SignatureHasFault : AnyPublic → List ℕ → ReadFault → Type 0
SignatureHasFault (Lms key) bytes fault = HasFault lms_signature bytes 0 fault
SignatureHasFault (Hss key) bytes fault = HasFault hss_signature bytes 0 fault
SignatureHasFault (Xmss key) bytes fault = HasFault (xmss_signature key.tree) bytes 0 fault

-- ---- files

-- The bytes are a signature: its fields, and whether it could be the key's. Or they are none, which is refused as
-- verification under the key refuses it.
abbrev pub ComparesKey : AnyPublic → (signature : List ℕ) → Result Done Refusal → Type 0
ComparesKey key signature answer =
    ((described : Described) × (could_be : Bool) × (answer ≡ Ok (DescribedDone described (Some could_be)))
    × Describes signature described × ((could_be ≡ true) ↔ CouldBe key signature))
    ⊎ ((fault : ReadFault) × (answer ≡ Err (Signature (Unreadable fault))) × SpellNoSignature signature
    × SignatureHasFault key signature fault)

-- .. of a file that was read; what is wrong with a key's comes first
abbrev pub Compares : Result AnyPublic KeyFault → (signature : List ℕ) → Result Done Refusal → Type 0
Compares (Ok key) signature answer = ComparesKey key signature answer
Compares (Err fault) signature answer = answer ≡ Err (Key fault)

-- The public key's file was read, and compared with the first bytes of the signature's, which decide. Or it couldn't be
-- read, which is the answer.
abbrev pub ComparesWith : (content : List ℕ → Option (List ℕ)) → (first public : List ℕ) → Result Done Refusal
    → (old new : List Happening) → Type 0
ComparesWith content first public answer old new =
    ((refusal : Refusal) × (answer ≡ Err refusal) × FailsFile role.Public public refusal old new)
    ⊎ ((bytes : List ℕ) × (key : Result AnyPublic KeyFault) × ReadsFile content role.Public public bytes old new
    × ReadsKey bytes key × Compares key first answer)

-- The signature's file was read, as far as it decides, and then the public key's. Or the first couldn't be read, which
-- is the answer, and no other file was opened.
abbrev pub ComparesFiles : (content : List ℕ → Option (List ℕ)) → (signature public : List ℕ) → Result Done Refusal
    → (old new : List Happening) → Type 0
ComparesFiles content signature public answer old new =
    ((refusal : Refusal) × (answer ≡ Err refusal) × FailsToReadOrKeep role.Signature signature refusal old new)
    ⊎ ((first : List ℕ) × (mid : List Happening) × ReadsStart content role.Signature signature first old mid
    × ComparesWith content first public answer mid new)
