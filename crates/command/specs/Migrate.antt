-- `migrate OLD NEW`: its words, and what it does.
use Rattle.std.specs.Prelude.{◌≡◌, ◌⊎◌, ◌++◌, ◌∷◌, [], ℕ, List, codes, Option, Some, None, Result, Ok, Err}
use Rattle.clap.specs.Words.{App, Text, new_app, with_rule}
use Rattle.key_audit.specs.declared.report.Report.{Report}
use Rattle.state_file.specs.declared.disk.Disk as disk
use Rattle.command.specs.declared.answer.Done.{Done}
use Rattle.command.specs.declared.answer.Done.TheVariants.{Migrated}
use Rattle.command.specs.declared.migrate.Migrate.{Migrate}
use Rattle.command.specs.declared.refusal.Refusal.{Refusal}
use Rattle.command.specs.declared.trace.Role.TheVariants as role
use Rattle.command.specs.Argument.{required_rule}
use Rattle.command.specs.FileDisk.{IsStateRefusal}
use Rattle.command.specs.Files.{FilesSeen}
use Rattle.command.specs.KeyFile.{AuditsOn, MigratesOn}
use Rattle.command.specs.Trace.{Happening, made, making, opened, opening_state}

abbrev pub migrate_app : App
migrate_app = with_rule (with_rule (new_app (codes "migrate")) (required_rule (codes "OLD")))
    (required_rule (codes "NEW"))

-- The values of the words; None if one is missing.
abbrev pub IsMigrate : (old new : Option Text) → Option Migrate → Type 0
IsMigrate old new (Some words) = (old ≡ Some words.old.now) × (new ≡ Some words.new.now)
IsMigrate old new None = (old ≡ None) ⊎ (new ≡ None)

abbrev pub migrate_answer : Result ℕ Refusal → Result Done Refusal
migrate_answer (Ok count) = Ok (Migrated count)
migrate_answer (Err refusal) = Err refusal

-- Both are open. The old file's records were audited; then they were migrated once. Or the audit was refused, which is
-- the answer, and the new file is as it was. Both were closed.
abbrev pub MigratesOpened : {K : Type 0} → disk.Ghosts K → FilesSeen K → (from to : K) → Result Done Refusal → Type 0
MigratesOpened {K} d files from to answer =
    ((looked left filled : K) × (report : Report) × (migrated : Result ℕ Refusal)
    × AuditsOn d from looked None (Ok report) × MigratesOn d looked to left filled migrated
    × files.IsClosedDisk left × files.IsClosedDisk filled × (answer ≡ migrate_answer migrated))
    ⊎ ((looked : K) × (refusal : Refusal) × AuditsOn d from looked None (Err refusal)
    × files.IsClosedDisk looked × files.IsClosedDisk to × (answer ≡ Err refusal))

-- After the old file was opened, either the new one couldn't be opened or made, or was locked. That is the answer, and
-- the old one was closed as it was. Or the new one was opened, and made if there was none, and the records migrated.
abbrev pub MigratesFrom : {K : Type 0} → disk.Ghosts K → FilesSeen K → (from : K) → (new : List ℕ)
    → Result Done Refusal → (before after : List Happening) → Type 0
MigratesFrom {K} d files from new answer before after =
    ((refusal : Refusal) × IsStateRefusal refusal × (answer ≡ Err refusal) × files.IsClosedDisk from
    × (after ≡ before ++ making {A = K} new (Err refusal) ∷ []))
    ⊎ ((to : K) × files.IsOpenedDisk new to × MigratesOpened d files from to answer
    × (after ≡ before ++ made new ∷ []))

-- Either the old state file couldn't be opened, or was locked, which is the answer, and the new one wasn't opened. Or
-- the old one was opened, and then the new one. No other file was opened.
abbrev pub MigratesIn : {K : Type 0} → disk.Ghosts K → FilesSeen K → (old new : List ℕ) → Result Done Refusal
    → (before after : List Happening) → Type 0
MigratesIn {K} d files old new answer before after =
    ((refusal : Refusal) × IsStateRefusal refusal × (answer ≡ Err refusal)
    × (after ≡ before ++ opening_state {A = K} old (Err refusal) ∷ []))
    ⊎ ((from : K) × files.IsOpenedDisk old from
    × MigratesFrom d files from new answer (before ++ opened role.State old ∷ []) after)
