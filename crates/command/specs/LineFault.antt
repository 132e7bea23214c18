-- Why a line gives no request: the kinds of `clap`'s errors, and the texts that are printed.
use Rattle.std.specs.Prelude.{ℕ, List, [], ◌∷◌, ◌≡◌, ◌≤◌, ◌<◌, ◌+◌, ⊤, Result, Ok, Err, length, string_bytes}
use Rattle.std.specs.Prelude.{Bool, false, ◌==◌, ◌&&◌, ◌||◌}
use Rattle.std.specs.Char.{is_ascii_lowercase}
use Rattle.clap.specs.Kinds.{or_else}
use Rattle.clap.specs.Words.{IsAmong, Kinds, fault_of, subcommand_of}
use Rattle.clap.specs.declared.error.kind.ErrorKind.{ErrorKind}
use Rattle.clap.specs.declared.error.kind.ErrorKind.TheVariants as kind
use Rattle.command.specs.Line.{Task, hbsign_app, usage_kind, task_found}
use Rattle.command.specs.declared.line.ClapReader.{ClapReader}
use Rattle.command.specs.declared.usage_fault.UsageFault.{UsageFault}
use Rattle.command.specs.declared.line_fault.LineFault.{LineFault}
use Rattle.command.specs.declared.line_fault.LineFault.TheVariants.{Help, Version, Refused, OutOfMemory}

-- how often memory was refused, to `clap` and to the texts of its errors
abbrev pub refusals_of : ClapReader → ℕ
refusals_of reader = reader.refusals + reader.texts.refusals

-- A text begins with a letter from A to Z.
abbrev pub BeginsWithCapital : List ℕ → Type 0
BeginsWithCapital [] = ⊥
BeginsWithCapital (byte ∷ bytes) = (65 ≤ byte) × (byte ≤ 90)

-- In the text after this byte, a line begins with a letter from a to z; 10 ends a line.
unfoldable pub has_lowercase_line : ℕ → List ℕ → Bool
has_lowercase_line before [] = false
has_lowercase_line before (byte ∷ bytes) = (before == 10 && is_ascii_lowercase byte) || has_lowercase_line byte bytes

-- A text that can't be taken for an answer: it begins with a capital letter, and no line of it with a lowercase one.
abbrev pub IsHelp : List ℕ → Type 0
IsHelp text = BeginsWithCapital text × (has_lowercase_line 10 text ≡ false)

-- Help can't be taken for an answer, and a refusal isn't empty.
abbrev pub HasText : LineFault → Type 0
HasText (Help text) = IsHelp (string_bytes text)
HasText Version = ⊤
HasText (Refused text) = 0 < length (string_bytes text)
HasText OutOfMemory = ⊤

-- an error for a wrong line, and neither for help, the version nor refused memory
abbrev pub IsMistake : ErrorKind → Type 0
IsMistake kind.DisplayHelp = ⊥
IsMistake kind.DisplayVersion = ⊥
IsMistake kind.OutOfMemory = ⊥
IsMistake other = ⊤

-- The fault fits an error of `clap` of this kind: help exactly if help was requested, and the version exactly if the
-- version was. Refused memory is no line's fault.
abbrev pub IsFaultOf : LineFault → ErrorKind → Type 0
IsFaultOf (Help text) error = error ≡ kind.DisplayHelp
IsFaultOf Version error = error ≡ kind.DisplayVersion
IsFaultOf (Refused text) error = IsMistake error
IsFaultOf OutOfMemory error = ⊥

-- the usage fault of words that `clap` accepts but that are no task, as a kind of error
abbrev pub usage_faults : Result Task UsageFault → Kinds
usage_faults (Ok task) = []
usage_faults (Err fault) = usage_kind fault ∷ []

-- the kinds of error that a line may have: `clap`'s, or if there is none, the usage fault's
abbrev pub line_faults : List (List ℕ) → Kinds
line_faults words = or_else (fault_of hbsign_app words) (usage_faults (task_found (subcommand_of hbsign_app words)))

-- The words have this fault, by one of the errors that they may have.
abbrev pub HasLineFault : List (List ℕ) → LineFault → Type 0
HasLineFault words fault = (error : ErrorKind) × IsAmong error (line_faults words) × IsFaultOf fault error

-- Refused memory is counted, and nothing else.
abbrev pub CountsFault : LineFault → ℕ → ℕ → Type 0
CountsFault OutOfMemory old new = new ≡ old + 1
CountsFault other old new = new ≡ old

abbrev pub CountsRefusals : {A : Type 0} → Result A LineFault → ℕ → ℕ → Type 0
CountsRefusals (Ok request) old new = new ≡ old
CountsRefusals (Err fault) old new = CountsFault fault old new
