-- What a run of the program does: what it prints, and what it does to files.
use Rattle.command.specs.declared.line.TheConstants.{VERSION}
use Rattle.std.specs.Prelude.{ℕ, List, Result, ◌≡◌, ◌⊎◌, ◌∷◌, codes, ◌<◌, length, Err, [], string_bytes}
use Rattle.std.specs.Prelude.{Bool, true, false, ◌++◌}
use Rattle.std.specs.Str.{bytes_eq}
use Rattle.typecodes.specs.declared.message.Message as message
use Rattle.sign_core.specs.declared.source.Source as source
use Rattle.state_file.specs.declared.disk.Disk as disk
use Rattle.state_file.specs.declared.store.Store as store
use Rattle.state_file.specs.declared.store.file_store.FileStore.{FileStore}
use Rattle.command.specs.declared.refusal.Refusal.{Refusal}
use Rattle.command.specs.declared.answer.Done.{Done}
use Rattle.command.specs.declared.line_fault.LineFault.{LineFault}
use Rattle.command.specs.declared.line_fault.LineFault.TheVariants as fault
use Rattle.command.specs.declared.refusal.Refusal.TheVariants.{OutOfMemory}
use Rattle.command.specs.Files.{FilesSeen}
use Rattle.command.specs.Line.{AreTexts, FindsTask, IsLineOf, ServesTask, Task, serve}
use Rattle.command.specs.LineFault.{HasLineFault, HasText, line_faults}
use Rattle.command.specs.Answer.{IsOfWord, ReportsRequest, ReportsServing, answer_line}
use Rattle.command.specs.Output.{Taken, WritesText, Fails}
use Rattle.command.specs.Serve.{ServesIn}
use Rattle.command.specs.Streams.{OutputSeen, Streams, taken}
use Rattle.command.specs.Trace.{Happening}

-- The task is served, and its answer reported. The input and the output for errors are as they were.
abbrev pub ReportsAnswer : {K R I O : Type 0} {bound : _} → disk.Ghosts K → store.Ghosts (FileStore K bound)
    → source.Ghosts R → OutputSeen O → FilesSeen K → Task → (before after : List Happening)
    → (old new : Streams I O) → ℕ → Type 0
ReportsAnswer d g r o files task before after old new status =
    (answer : Result Done Refusal) × ServesTask d g r files task answer before after
    × ReportsRequest answer (taken o.contents o.failures old.output) (taken o.contents o.failures new.output) status
    × (new.input ≡ old.input) × (new.errors ≡ old.errors)

-- The requests of the input are served, each by a reply on the output. How that ended is reported on the output for
-- errors.
abbrev pub ReportsEnd : {K R I O : Type 0} {bound : _} → disk.Ghosts K → store.Ghosts (FileStore K bound)
    → source.Ghosts R → message.Ghosts I → OutputSeen O → FilesSeen K → (state random : List ℕ)
    → (before after : List Happening) → (old new : Streams I O) → ℕ → Type 0
ReportsEnd d g r m o files state random before after old new status =
    (served : Result ℕ Refusal)
    × ServesIn d g r m o.contents files state random (old.input, old.output) (new.input, new.output) served
    before after
    × ReportsServing served old.errors new.errors status

-- `serve` replies; every other task has an answer that is reported.
abbrev pub ReportsTask : {K R I O : Type 0} {bound : _} → disk.Ghosts K → store.Ghosts (FileStore K bound)
    → source.Ghosts R → message.Ghosts I → OutputSeen O → FilesSeen K → Task → (before after : List Happening)
    → (old new : Streams I O) → ℕ → Type 0
ReportsTask d g r m o files (serve state random) before after old new status =
    ReportsEnd d g r m o files state random before after old new status
ReportsTask d g r m o files task before after old new status =
    ReportsAnswer d g r o files task before after old new status

-- The words request `serve`.
abbrev pub AsksToServe : List (List ℕ) → Type 0
AsksToServe words = (state : List ℕ) × (random : List ℕ) × FindsTask words (serve state random)

-- Help or the version was written, with status 0; or the output failed, with status 3.
abbrev pub Helps : List ℕ → Taken → Taken → ℕ → Type 0
Helps text old new status = ((status ≡ 0) × WritesText text old new) ⊎ ((status ≡ 3) × Fails old new)

abbrev pub version_line : List ℕ
version_line = codes "hbsign " ++ VERSION.now ++ codes "\n"

-- A text was written, or the output failed.
abbrev pub Says : List ℕ → Taken → Taken → Type 0
Says text old new = WritesText text old new ⊎ Fails old new

-- A line was refused with this text: the output for errors has it, or failed. The output is as it was.
abbrev pub RefusesLineWith : List ℕ → (old new errors_old errors_new : Taken) → Type 0
RefusesLineWith text old new errors_old errors_new = (new ≡ old) × Says text errors_old errors_new

-- .. with a text that isn't empty
abbrev pub RefusesLine : (old new errors_old errors_new : Taken) → Type 0
RefusesLine old new errors_old errors_new =
    (text : List ℕ) × (0 < length text) × RefusesLineWith text old new errors_old errors_new

-- A name or a spec was refused: the output has the answer's line, and the output for errors is as it was.
abbrev pub RefusesWord : Taken → Taken → Taken → Taken → Type 0
RefusesWord old new errors_old errors_new =
    (answer : Result Done Refusal) × IsOfWord answer × WritesText (answer_line answer) old new
    × (errors_new ≡ errors_old)

-- A line, or a name or spec of it, was refused.
abbrev pub RefusesWords : Taken → Taken → Taken → Taken → Type 0
RefusesWords old new errors_old errors_new =
    RefusesLine old new errors_old errors_new ⊎ RefusesWord old new errors_old errors_new

-- The line begins with the word `serve`, so its output is for replies alone.
abbrev pub begins_with_serve : List (List ℕ) → Bool
begins_with_serve [] = false
begins_with_serve (word ∷ words) = bytes_eq word (codes "serve")

-- Refused memory is reported: as an answer on the output, or, if that is for replies alone, on the output for errors.
abbrev pub ReportsOutOfMemory : Bool → (old new errors_old errors_new : Taken) → ℕ → Type 0
ReportsOutOfMemory false old new errors_old errors_new status =
    ReportsRequest (Err OutOfMemory) old new status × (errors_new ≡ errors_old)
ReportsOutOfMemory true old new errors_old errors_new status =
    (new ≡ old) × ReportsServing (Err OutOfMemory) errors_old errors_new status

-- A line with this fault prints the text of help or the version, with status 0. Or it prints the text of a refusal on
-- the output for errors, with status 2; or it reports refused memory. The first argument says whether the line begins
-- with `serve`.
abbrev pub Explains : Bool → LineFault → (old new errors_old errors_new : Taken) → ℕ → Type 0
Explains serves (fault.Help text) old new errors_old errors_new status =
    Helps (string_bytes text) old new status × (errors_new ≡ errors_old)
Explains serves fault.Version old new errors_old errors_new status =
    Helps version_line old new status × (errors_new ≡ errors_old)
Explains serves (fault.Refused text) old new errors_old errors_new status =
    (status ≡ 2) × RefusesLineWith (string_bytes text) old new errors_old errors_new
Explains serves fault.OutOfMemory old new errors_old errors_new status =
    ReportsOutOfMemory serves old new errors_old errors_new status

-- The words have a fault, which is explained. No line of help can be taken for an answer. The input is as it was.
abbrev pub ExplainsLine : {I O : Type 0} → OutputSeen O → List (List ℕ) → (old new : Streams I O) → ℕ → Type 0
ExplainsLine o words old new status =
    (why : LineFault) × HasLineFault words why × HasText why
    × Explains (begins_with_serve words) why (taken o.contents o.failures old.output)
    (taken o.contents o.failures new.output) old.errors new.errors status
    × (new.input ≡ old.input)

-- Memory was refused before the line was read. This is reported, no file was opened, and the input is as it was.
abbrev pub ReportsNoMemory : {I O : Type 0} → OutputSeen O → List (List ℕ) → Type 0 → (before after : List Happening)
    → (old new : Streams I O) → ℕ → Type 0
ReportsNoMemory o words refused before after old new status =
    refused × (after ≡ before)
    × ReportsOutOfMemory (begins_with_serve words) (taken o.contents o.failures old.output)
    (taken o.contents o.failures new.output) old.errors new.errors status
    × (new.input ≡ old.input)

-- The output for errors may have a line of `serve`: the words request it, or they begin with it and memory was refused
-- before the line was read.
abbrev pub MayReportServing : List (List ℕ) → (refused : Type 0) → Type 0
MayReportServing words refused = AsksToServe words ⊎ ((begins_with_serve words ≡ true) × refused)

-- Where nothing is wrong with a line, the output for errors is as it was, unless it is a line of `serve`.
abbrev pub KeepsErrorsUnlessServing : List (List ℕ) → (errors_old errors_new : Taken) → Type 0
KeepsErrorsUnlessServing words errors_old errors_new = (errors_new ≡ errors_old) ⊎ AsksToServe words

-- The output has replies alone: it is as it was, or the requests of the input were served, each by a reply on it.
abbrev pub HasRepliesAlone : {K R I O : Type 0} {bound : _} → disk.Ghosts K → store.Ghosts (FileStore K bound)
    → source.Ghosts R → message.Ghosts I → OutputSeen O → FilesSeen K → (before after : List Happening)
    → (old new : Streams I O) → Type 0
HasRepliesAlone d g r m o files before after old new =
    (taken o.contents o.failures new.output ≡ taken o.contents o.failures old.output)
    ⊎ ((state : List ℕ) × (random : List ℕ) × (served : Result ℕ Refusal)
    × ServesIn d g r m o.contents files state random (old.input, old.output) (new.input, new.output) served
    before after)

-- What a run on these words does to files, its input and its outputs. Words without a fault: it serves a task that
-- `clap` finds in them; if the words are text, they are a line of this task. Words with a fault: it does what the fault
-- requests, and opens no file. Or memory was refused.
abbrev pub Runs : {K R I O : Type 0} {bound : _} → disk.Ghosts K → store.Ghosts (FileStore K bound) → source.Ghosts R
    → message.Ghosts I → OutputSeen O → List (List ℕ) → FilesSeen K → Type 0 → (before after : List Happening)
    → (old new : Streams I O) → ℕ → Type 0
Runs d g r m o words files refused before after old new status =
    ((line_faults words ≡ []) × ((task : Task) × FindsTask words task × (AreTexts words → IsLineOf words task)
    × ReportsTask d g r m o files task before after old new status))
    ⊎ ((after ≡ before) × ExplainsLine o words old new status)
    ⊎ ReportsNoMemory o words refused before after old new status

-- On a line of a task, a run serves this task, unless memory was refused.
abbrev pub RunsTask : {K R I O : Type 0} {bound : _} → disk.Ghosts K → store.Ghosts (FileStore K bound)
    → source.Ghosts R → message.Ghosts I → OutputSeen O → List (List ℕ) → FilesSeen K → Task → Type 0
    → (before after : List Happening) → (old new : Streams I O) → ℕ → Type 0
RunsTask d g r m o words files task refused before after old new status =
    ReportsTask d g r m o files task before after old new status
    ⊎ ReportsNoMemory o words refused before after old new status
