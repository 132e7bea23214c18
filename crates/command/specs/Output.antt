-- What an output has taken, and what printing a text does to it.
use Rattle.std.specs.Prelude.{ℕ, List, [], ◌∷◌, Bool, true, false, Option, Some, None, ◌≡◌, ◌+◌, ◌++◌, Result, Ok, Err}
use Rattle.std.specs.Prelude.{codes, decimal}
use Rattle.std.specs.List.{fold}
use Rattle.std.specs.Io.KnownBytes.{Appends}
use Rattle.command.specs.declared.output.Part.{Part}
use Rattle.command.specs.declared.output.Part.TheVariants.{Text, Number, Bytes, Hex, Levels, Moved as MovedPart}
use Rattle.command.specs.declared.output.Part.TheVariants.{Spec, Entries, SignedLevels, CouldBe, Signatures, Behind}
use Rattle.command.specs.declared.described.SignedLevel.{SignedLevel}
use Rattle.hex.specs.Hex.{encode_lower}
use Rattle.key_audit.specs.declared.listing.Entry.{Entry}
use Rattle.key_audit.specs.declared.listing.Entry.TheVariants.{Key, Tree, Name, Retired, Moved}
use Rattle.typecodes.specs.declared.types.LmsPair.{LmsPair}
use Rattle.typecodes.specs.Spec.{pair_text, spec_text}

abbrev pub level_line : (level left : ℕ) → List ℕ
level_line level left = codes "level " ++ decimal level ++ codes " left " ++ decimal left ++ codes "\n"

-- a line for each level, from level `first` on
unfoldable pub level_lines : (first : ℕ) → (left : List ℕ) → List ℕ
level_lines first [] = []
level_lines first (left ∷ below) = level_line first left ++ level_lines (first + 1) below

-- the version of the file in which the records go on
abbrev pub moved_line : Option ℕ → List ℕ
moved_line None = []
moved_line (Some version) = codes "moved " ++ decimal version ++ codes "\n"

-- how many new names a key can still sign; None is 2^64 or more
abbrev pub signatures_line : Option ℕ → List ℕ
signatures_line None = codes "signatures at least 2^64\n"
signatures_line (Some number) = codes "signatures " ++ decimal number ++ codes "\n"

-- whether a signature could be a key's
abbrev pub could_be_line : Option Bool → List ℕ
could_be_line None = []
could_be_line (Some true) = codes "could be of this key yes\n"
could_be_line (Some false) = codes "could be of this key no\n"

-- the last record's slot, if bytes stand behind it
abbrev pub behind_line : Option ℕ → List ℕ
behind_line None = []
behind_line (Some slot) = codes "behind " ++ decimal slot ++ codes "\n"

abbrev pub entry_text : Entry → List ℕ
entry_text Key = codes " key"
entry_text (Tree level leaf) = (codes " tree level " ++ decimal level) ++ (codes " leaf " ++ decimal leaf)
entry_text (Name leaf name digest) =
    (codes " name " ++ name ++ (codes " leaf " ++ decimal leaf)) ++ codes " digest " ++ encode_lower digest
entry_text (Retired upto) = codes " retired upto " ++ decimal upto
entry_text Moved = codes " moved"

abbrev pub entry_line : (place : ℕ) → Entry → List ℕ
entry_line place entry = decimal place ++ entry_text entry ++ codes "\n"

-- a line for each record; the first one stands at place `first`
unfoldable pub entry_lines : (first : ℕ) → List Entry → List ℕ
entry_lines first [] = []
entry_lines first (entry ∷ rest) = entry_line first entry ++ entry_lines (first + 1) rest

-- a level of an HSS signature: its types, the index of its leaf, and the identifier of its key, if the signature has it
abbrev pub types_text : (level : ℕ) → LmsPair → List ℕ
types_text level pair = codes "level " ++ decimal level ++ codes " types " ++ pair_text pair

abbrev pub identifier_text : Option (List ℕ) → List ℕ
identifier_text None = []
identifier_text (Some identifier) = codes " identifier " ++ encode_lower identifier

abbrev pub signed_line : (level : ℕ) → SignedLevel → List ℕ
signed_line level signed =
    types_text level signed.pair ++ (codes " index " ++ decimal signed.leaf) ++ identifier_text signed.identifier
    ++ codes "\n"

-- a line for each level, from level `first` on
unfoldable pub signed_lines : (first : ℕ) → List SignedLevel → List ℕ
signed_lines first [] = []
signed_lines first (level ∷ below) = signed_line first level ++ signed_lines (first + 1) below

abbrev pub part_text : Part → List ℕ
part_text (Text text) = text.now
part_text (Number number) = decimal number
part_text (Bytes bytes) = bytes.now
part_text (Hex bytes) = encode_lower bytes.now
part_text (Levels left) = level_lines 0 left.now
part_text (MovedPart version) = moved_line version
part_text (Spec spec) = spec_text spec.now
part_text (Entries entries) = entry_lines 0 entries.now
part_text (SignedLevels levels) = signed_lines 0 levels.now
part_text (CouldBe could_be) = could_be_line could_be
part_text (Signatures number) = signatures_line number
part_text (Behind slot) = behind_line slot

abbrev pub text_of : List Part → List ℕ
text_of parts = fold (λ text part. text ++ part_text part) [] parts

-- the bytes that an output took, if known, and how many texts couldn't be written
pub record Taken : Type 0 where
  pub contents : Option (List ℕ)
  pub failures : ℕ

abbrev pub taken_of : Option (List ℕ) → ℕ → Taken
taken_of bytes count = record { contents = bytes; failures = count }

-- A failure is counted, and nothing else.
abbrev pub CountsFailure : {A E : Type 0} → Result A E → ℕ → ℕ → Type 0
CountsFailure (Ok _) old new = new ≡ old
CountsFailure (Err _) old new = new ≡ old + 1

-- The text was appended.
abbrev pub WritesText : List ℕ → Taken → Taken → Type 0
WritesText text old new = (new.failures ≡ old.failures) × Appends old.contents new.contents text

-- A text couldn't be written, which is counted.
abbrev pub Fails : Taken → Taken → Type 0
Fails old new = new.failures ≡ old.failures + 1

abbrev pub Prints : {A E : Type 0} → List ℕ → Taken → Taken → Result A E → Type 0
Prints text old new (Ok _) = WritesText text old new
Prints text old new (Err _) = Fails old new
