-- Lines of `serve`: they begin with this word, each line without a fault that does is one, and the output has replies
-- alone.
use Rattle.std.proofs.Common.{◌≡◌, ◌⊎◌, ◌∙◌, ℕ, Bool, List, [], ◌∷◌, Option, Some, None, Result, true, false, refl, codes, ap, subst, sym, inl, inr}
use Rattle.std.specs.Str.{bytes_eq}
use Rattle.std.proofs.lemmas.Bool.{false≢true}
use Rattle.std.proofs.lemmas.Slice.Eq.{bytes_eq-Decides}
use Rattle.clap.specs.Walk.{rows_after}
use Rattle.clap.specs.Words.{IsAmong, Text, fault_of, first_of, subcommand_of}
use Rattle.typecodes.specs.declared.message.Message as message
use Rattle.sign_core.specs.declared.source.Source as source
use Rattle.state_file.specs.declared.disk.Disk as disk
use Rattle.state_file.specs.declared.store.Store as store
use Rattle.state_file.specs.declared.store.file_store.FileStore.{FileStore}
use Rattle.command.specs.declared.usage_fault.UsageFault.{UsageFault}
use Rattle.command.specs.declared.line_fault.LineFault.{LineFault}
use Rattle.command.specs.declared.line_fault.LineFault.TheVariants.{OutOfMemory}
use Rattle.command.specs.Files.{FilesSeen}
use Rattle.command.specs.Line.{AreTexts, FindsTask, Task, hbsign_app, serve, serve_task, task_found}
use Rattle.command.specs.LineFault.{HasLineFault, usage_faults, line_faults}
use Rattle.command.specs.Output.{Taken}
use Rattle.command.specs.Program.{AsksToServe, Explains, HasRepliesAlone, KeepsErrorsUnlessServing, ReportsOutOfMemory, ReportsTask, begins_with_serve}
use Rattle.command.specs.Serve.{serve_app}
use Rattle.command.specs.Streams.{OutputSeen, Streams}
use Rattle.command.specs.Trace.{Happening}
use Rattle.command.proofs.Accepting.{begins_with_name, no_line_faults, nothing_fails, ok_same}
use Rattle.command.proofs.Commands.{serve_command}
use Rattle.command.proofs.Walking.{entered_rows, none_of, shape}

-- A line with a task of `serve` begins with this word.
pub begins : (words : List Text) (state random : Text) → AreTexts words → FindsTask words (serve state random)
    → begins_with_serve words ≡ true
begins [] state random texts (none, found) = absurd (nothing_fails none)
begins (word ∷ names) state random texts (none, found) =
    subst (λ w. bytes_eq w (codes "serve") ≡ true) (sym (begins_with_name word names (serve state random) texts.0 none found)) refl

-- A line without a fault that begins with this word is one of `serve`.
serves_found : (words : List Text) (state random : Option Text) → fault_of hbsign_app words ≡ []
    → task_found (subcommand_of hbsign_app words) ≡ serve_task state random → usage_faults (serve_task state random) ≡ []
    → AsksToServe words
serves_found words (Some s) (Some r) passes found none = (s, r, (passes, found))
serves_found words None random passes found none = absurd cc
serves_found words (Some s) None passes found none = absurd cc

asks_to_serve : (words : List Text) → begins_with_serve words ≡ true → line_faults words ≡ [] → AsksToServe words
asks_to_serve [] begins none = absurd (false≢true begins)
asks_to_serve (word ∷ names) begins none =
    let task = λ (w : Text). task_found (subcommand_of hbsign_app (w ∷ names)) in
    let (passes, complete) = none_of (fault_of hbsign_app (word ∷ names)) (usage_faults (task word)) none in
    let rows = rows_after (shape serve_app).rules [] names in
    let of_serve : Result Task UsageFault = serve_task (first_of (codes "STATE") rows) (first_of (codes "random") rows) in
    let found : task word ≡ of_serve = subst (λ w. task w ≡ of_serve) (sym ((bytes_eq-Decides word (codes "serve")).0 begins))
    (ap task_found (entered_rows (codes "serve") (shape serve_app) names serve_command.enters)) in
    serves_found (word ∷ names) (first_of (codes "STATE") rows) (first_of (codes "random") rows) passes found
    (subst (λ t. usage_faults t ≡ []) found complete)

-- If memory to read a line without a fault was refused, the output for errors is as it was, unless the line is one of
-- `serve`.
reported : (words : List Text) (serves : Bool) (old new errors_old errors_new : Taken) (status : ℕ)
    → serves ≡ begins_with_serve words → line_faults words ≡ []
    → ReportsOutOfMemory serves old new errors_old errors_new status
    → KeepsErrorsUnlessServing words errors_old errors_new
reported words true old new errors_old errors_new status is none reports = inr (asks_to_serve words (sym is) none)
reported words false old new errors_old errors_new status is none (reports, same) = inl same

pub errors_kept : (words : List Text) (serves : Bool) (fault : LineFault) (old new errors_old errors_new : Taken)
    (status : ℕ) → serves ≡ begins_with_serve words → line_faults words ≡ [] → (fault ≡ OutOfMemory) ⊎ HasLineFault words fault
    → Explains serves fault old new errors_old errors_new status → KeepsErrorsUnlessServing words errors_old errors_new
errors_kept words serves fault old new errors_old errors_new status is none (inl memory) explains =
    reported words serves old new errors_old errors_new status is none
    (subst (λ f. Explains serves f old new errors_old errors_new status) memory explains)
errors_kept words serves fault old new errors_old errors_new status is none (inr (error, among, kind)) explains =
    absurd (subst (IsAmong error) none among)

-- The output of a line of `serve` has replies alone: if its task was found,
pub replies_of_task : {K R I O : Type 0} {bound : _} (d : disk.Ghosts K) (g : store.Ghosts (FileStore K bound)) (r : source.Ghosts R)
    (m : message.Ghosts I) (o : OutputSeen O) (files : FilesSeen K) (words : List Text) (task : Task) (before after : List Happening)
    (old new : Streams I O) (status : ℕ) → FindsTask words task → AsksToServe words
    → ReportsTask d g r m o files task before after old new status → HasRepliesAlone d g r m o files before after old new
replies_of_task d g r m o files words task before after old new status (none, found) (state, random, (other, finds)) reports =
    let same : task ≡ serve state random = ok_same task (serve state random) (sym found ∙ finds) in
    let (served, serves, ended) = subst (λ t. ReportsTask d g r m o files t before after old new status) same reports in
    inr (state, random, served, serves)

-- .. or if memory to read the line was refused.
nothing_printed : (serves : Bool) (old new errors_old errors_new : Taken) (status : ℕ) → serves ≡ true
    → ReportsOutOfMemory serves old new errors_old errors_new status → new ≡ old
nothing_printed true old new errors_old errors_new status serving (same, reports) = same
nothing_printed false old new errors_old errors_new status serving reports = absurd (false≢true serving)

pub nothing_of_fault : (words : List Text) (serves : Bool) (fault : LineFault) (old new errors_old errors_new : Taken) (status : ℕ)
    → serves ≡ begins_with_serve words → AreTexts words → AsksToServe words → (fault ≡ OutOfMemory) ⊎ HasLineFault words fault
    → Explains serves fault old new errors_old errors_new status → new ≡ old
nothing_of_fault words serves fault old new errors_old errors_new status is texts (state, random, finds) (inl memory) explains =
    nothing_printed serves old new errors_old errors_new status (is ∙ begins words state random texts finds)
    (subst (λ f. Explains serves f old new errors_old errors_new status) memory explains)
nothing_of_fault words serves fault old new errors_old errors_new status is texts (state, random, (none, found)) (inr (error, among, kind)) explains =
    absurd (subst (IsAmong error) (no_line_faults words (serve state random) none found) among)
