-- What reads of a message give, one after the other.
use Rattle.std.specs.Prelude.{◌≡◌, ◌⊎◌, ◌+◌, ◌≤◌, ◌<◌, ◌^◌, ℕ, List, [], ◌∷◌, ◌++◌, length, take}
use Rattle.std.specs.Prelude.{Option, Some, None, Result, Ok, Err, ⊤}
use Rattle.std.specs.Io.KnownBytes.{Consumes, IsAtEnd, Keeps}
use Rattle.std.specs.IoError.{error_kind}
use Rattle.std.specs.declared.io.Error.{Error}
use Rattle.std.specs.declared.io.ErrorKind.{ErrorKind}
use Rattle.std.specs.declared.io.ErrorKind.TheVariants.{UnexpectedEof}

-- what one read gave: some bytes, none at the end; or an error of this kind
abbrev pub ReadOutcome : Type 0
ReadOutcome = Result (List ℕ) ErrorKind

-- the outcome of a call that reads into a buffer
abbrev pub read_outcome : Result ℕ Error → List ℕ → ReadOutcome
read_outcome (Ok count) buffer = Ok (take count buffer)
read_outcome (Err error) buffer = Err (error_kind error)

-- how many bytes were given or taken
abbrev pub size_of : ReadOutcome → ℕ
size_of (Ok bytes) = length bytes
size_of (Err kind) = 0

-- What a read may do to a message: (state before, outcome, state after).
abbrev pub Transition : Type 0 → Type 1
Transition M = M → ReadOutcome → M → Type 0

-- Reads with these outcomes, one after the other, lead from one state of a message to another.
abbrev pub Transitions : {M : Type 0} → Transition M → List ReadOutcome → M → M → Type 0
Transitions transition [] old new = new ≡ old
Transitions {M} transition (first ∷ later) old new =
    (next : M) × transition old first next × Transitions transition later next new

-- Each of the reads gave a byte at least, and together they gave this text.
abbrev pub Gave : List ReadOutcome → List ℕ → Type 0
Gave [] text = text ≡ []
Gave (Ok bytes ∷ later) text = (1 ≤ length bytes) × ((rest : List ℕ) × (text ≡ bytes ++ rest) × Gave later rest)
Gave (Err kind ∷ later) text = ⊥

-- The message was read, and gave this text.
abbrev pub GivesText : {M : Type 0} → Transition M → List ℕ → M → M → Type 0
GivesText transition text old new =
    (outcomes : List ReadOutcome) × Transitions transition outcomes old new × Gave outcomes text

-- The message was read to its end, where a read gives nothing, and gave this text.
abbrev pub GivesAll : {M : Type 0} → Transition M → List ℕ → M → M → Type 0
GivesAll transition text old new =
    (outcomes : List ReadOutcome) × Transitions transition (outcomes ++ Ok [] ∷ []) old new × Gave outcomes text

-- It gave this text, and then a read failed with this kind of error.
abbrev pub FailsBy : {M : Type 0} → Transition M → ErrorKind → List ℕ → M → M → Type 0
FailsBy transition kind text old new =
    (outcomes : List ReadOutcome) × Transitions transition (outcomes ++ Err kind ∷ []) old new × Gave outcomes text

-- A read failed, whatever the kind of its error.
abbrev pub ReadFails : {M : Type 0} → Transition M → M → M → Type 0
ReadFails transition old new = (kind : ErrorKind) × (text : List ℕ) × FailsBy transition kind text old new

-- It gave 2^60 bytes.
abbrev pub GoesOn : {M : Type 0} → Transition M → M → M → Type 0
GoesOn transition old new = (text : List ℕ) × GivesText transition text old new × (2 ^ 60 ≤ length text)

-- The message can't be read: a read failed, or it gave 2^60 bytes.
abbrev pub CantBeRead : {M : Type 0} → Transition M → M → M → Type 0
CantBeRead transition old new = ReadFails transition old new ⊎ GoesOn transition old new

-- The message was read whole and gave this text, of fewer than 2^60 bytes. Where its bytes were known, these were they.
pub record ReadWhole {M : Type 0} (transition : Transition M) (remaining : M → Option (List ℕ)) (text : List ℕ)
    (old new : M) : Type 0 where
  pub gave : GivesAll transition text old new
  pub bytes : Consumes (remaining old) (remaining new) text
  pub end : IsAtEnd (remaining new)
  pub short : length text < 2 ^ 60

-- The bytes are all that a message will give, where that is known.
abbrev pub IsContent : Option (List ℕ) → List ℕ → Type 0
IsContent None text = ⊤
IsContent (Some content) text = text ≡ content

-- The message was read whole and fed: what took its bytes has the text after what it had before.
abbrev pub Feeds : {M H : Type 0} → Transition M → (M → Option (List ℕ)) → (H → List ℕ → Type 0) → H → H → M → M
    → Type 0
Feeds transition remaining holds before after old new =
    (text : List ℕ) × ReadWhole transition remaining text old new
    × ((head : List ℕ) → holds before head → holds after (head ++ text))

-- The message was read whole, and the answer is its digest; or it can't be read.
abbrev pub Digests : {M E : Type 0} → Transition M → (M → Option (List ℕ)) → (List ℕ → List ℕ) → Result (List ℕ) E → M
    → M → Type 0
Digests transition remaining digest_of (Ok digest) old new =
    (text : List ℕ) × ReadWhole transition remaining text old new × (digest ≡ digest_of text)
Digests transition remaining digest_of (Err error) old new = CantBeRead transition old new

-- The message was read whole; or it can't be read.
abbrev pub Discards : {M A E : Type 0} → Transition M → (M → Option (List ℕ)) → Result A E → M → M → Type 0
Discards transition remaining (Ok _) old new = (text : List ℕ) × ReadWhole transition remaining text old new
Discards transition remaining (Err error) old new = CantBeRead transition old new

-- A read of the next bytes of an input, with `left` bytes to come. It gives at most as many of the input's, and none
-- where none are left. It fails as a read of the input fails, or for an early end where the input is at its end.
abbrev pub ReadsPart : {M : Type 0} → Transition M → (M → Option (List ℕ)) → (left : ℕ) → M → ReadOutcome
    → (after : ℕ) → M → Type 0
ReadsPart transition remaining left old (Ok bytes) after new = (after + length bytes ≡ left)
    × (((bytes ≡ []) × (left ≡ 0) × (new ≡ old))
    ⊎ ((1 ≤ length bytes) × transition old (Ok bytes) new × Consumes (remaining old) (remaining new) bytes))
ReadsPart transition remaining left old (Err kind) after new = (after ≡ left) × (1 ≤ left)
    × ((transition old (Err kind) new × Keeps (remaining old) (remaining new))
    ⊎ ((kind ≡ UnexpectedEof) × transition old (Ok []) new × Consumes (remaining old) (remaining new) []
    × IsAtEnd (remaining new)))
