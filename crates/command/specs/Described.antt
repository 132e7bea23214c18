-- What `list` says of a public key or a signature: the fields that the readers give, without verifying.
use Rattle.std.specs.Prelude.{◌≡◌, ◌⊎◌, ◌≤◌, ℕ, zero, suc, List, [], Option, Some, None, Result, Ok, Err}
use Rattle.std.specs.Prelude.{length, map, take}
use Rattle.std.specs.List.{range_with_len}
use Rattle.typecodes.specs.Layout.{Layout, Spells}
use Rattle.typecodes.specs.declared.types.XmssType.{XmssType}
use Rattle.lms.specs.declared.key.LmsPublic.{LmsPublic}
use Rattle.lms.specs.Signature.{Signature as LmsFields, signature as lms_signature}
use Rattle.hss.specs.Signature.{Signature as HssFields, key_at, level_count, signature as hss_signature, signature_at}
use Rattle.xmss.specs.Signature.{Signature as XmssFields, signature as xmss_signature}
use Rattle.sign_core.specs.declared.key.AnyPublic.{AnyPublic}
use Rattle.sign_core.specs.Key.{SpellsKey}
use Rattle.state_file.specs.declared.file.opening.OpenFault.TheVariants.{NoKey}
use Rattle.command.specs.declared.answer.Done.{Done}
use Rattle.command.specs.declared.answer.Done.TheVariants.{Described as DescribedDone}
use Rattle.command.specs.declared.described.Described.{Described}
use Rattle.command.specs.declared.described.Described.TheVariants.{Public, LmsSignature, HssSignature, XmssSignature}
use Rattle.command.specs.declared.described.SignedLevel.{SignedLevel}
use Rattle.command.specs.declared.refusal.Refusal.{Refusal}
use Rattle.command.specs.declared.refusal.Refusal.TheVariants.{Opening}
use Rattle.command.specs.declared.trace.Role.TheVariants as role
use Rattle.command.specs.Files.{FailsToReadOrKeep, ReadsStart, decisive}
use Rattle.command.specs.Trace.{Happening}

-- ---- the levels of an HSS signature

-- the public key of a level below the top, which the signature carries
abbrev pub carried_key : HssFields → ℕ → LmsPublic
carried_key s i = key_at (record { pair = s.bottom.pair; identifier = []; root = [] }) s i

-- the identifier of this key; the top level's key isn't in the signature
abbrev pub carried_identifier : HssFields → ℕ → Option (List ℕ)
carried_identifier s zero = None
carried_identifier s (suc i) = Some (carried_key s (suc i)).identifier

-- what is shown of a level, and of all levels from the top down
abbrev pub signed_level : HssFields → ℕ → SignedLevel
signed_level s i = record {
  pair = (signature_at s i).pair;
  leaf = (signature_at s i).q;
  identifier = carried_identifier s i;
}

abbrev pub signed_levels : HssFields → List SignedLevel
signed_levels s = map (signed_level s) (range_with_len 0 (level_count s))

-- ---- what bytes are

-- The bytes spell a public key or a signature, and these are its fields.
abbrev pub Describes : List ℕ → Described → Type 0
Describes bytes (Public key) = SpellsKey key bytes
Describes bytes (LmsSignature pair leaf) =
    (s : LmsFields) × Spells lms_signature s bytes × (pair ≡ s.pair) × (leaf ≡ s.q)
Describes bytes (HssSignature levels) =
    (s : HssFields) × Spells hss_signature s bytes × (levels.items ≡ signed_levels s)
Describes bytes (XmssSignature tree leaf) =
    (s : XmssFields) × Spells (xmss_signature tree) s bytes × (leaf ≡ s.index)

-- The bytes spell no value of a layout,
abbrev pub SpellNone : {V : Type 0} → Layout V → List ℕ → Type 0
SpellNone {V = V} layout bytes = (v : V) → Spells layout v bytes → ⊥

-- no signature of XMSS, of HSS, or of any scheme,
abbrev pub SpellNoXmss : List ℕ → Type 0
SpellNoXmss bytes = (tree : XmssType) → SpellNone (xmss_signature tree) bytes

abbrev pub SpellNoHss : List ℕ → Type 0
SpellNoHss bytes = SpellNone hss_signature bytes × SpellNoXmss bytes

abbrev pub SpellNoSignature : List ℕ → Type 0
SpellNoSignature bytes = SpellNone lms_signature bytes × SpellNoHss bytes

-- and no public key either.
abbrev pub SpellNothing : List ℕ → Type 0
SpellNothing bytes = ((key : AnyPublic) → SpellsKey key bytes → ⊥) × SpellNoSignature bytes

-- What bytes are, or that they are none of all this.
abbrev pub IsDescription : (IsNone : Type 0) → List ℕ → Option Described → Type 0
IsDescription IsNone bytes (Some described) = Describes bytes described
IsDescription IsNone bytes None = IsNone

-- ---- what a file is

-- A file is a public key or a signature. Or it is neither; each with more bytes than any signature has is taken so.
abbrev pub DescribesWhole : List ℕ → Option Described → Type 0
DescribesWhole whole described = IsDescription ((decisive ≤ length whole) ⊎ SpellNothing whole) whole described

-- what is neither is refused as a state file without a key
abbrev pub described_answer : Option Described → Result Done Refusal
described_answer (Some described) = Ok (DescribedDone described None)
described_answer None = Err (Opening NoKey)

-- The first bytes of a file, as many as decide of a signature, are described; that is right for the whole file.
abbrev pub DescribesStart : (first : List ℕ) → Result Done Refusal → Type 0
DescribesStart first answer = (described : Option Described) × (answer ≡ described_answer described)
    × ((whole : List ℕ) → first ≡ take decisive whole → DescribesWhole whole described)

-- The file at this path was opened and read, as far as bytes of a signature decide, and described. Or it couldn't be
-- read into memory, which is the answer.
abbrev pub DescribesFile : (content : List ℕ → Option (List ℕ)) → (path : List ℕ) → Result Done Refusal
    → (old new : List Happening) → Type 0
DescribesFile content path answer old new =
    ((refusal : Refusal) × (answer ≡ Err refusal) × FailsToReadOrKeep role.Signature path refusal old new)
    ⊎ ((first : List ℕ) × ReadsStart content role.Signature path first old new × DescribesStart first answer)
