-- Lines: the program's commands as `clap` knows them, what a line requests, and how it is served.
use Rattle.std.specs.Prelude.{true, codes, ◌≢◌, ⊤, ℕ, List, [], ◌∷◌, ◌≡◌}
use Rattle.std.specs.Option.{option_map}
use Rattle.std.specs.Prelude.{◌⊎◌, ◌++◌, Option, Some, None, Result, Ok, Err, if◌then◌else◌}
use Rattle.std.specs.Str.{IsUtf8, bytes_eq}
use Rattle.clap.specs.Words.{App, new_app, with_subcommand, Text, Row, all_of, fault_of, first_of, subcommand_of}
use Rattle.clap.specs.declared.error.kind.ErrorKind.{ErrorKind}
use Rattle.clap.specs.declared.error.kind.ErrorKind.TheVariants as kind
use Rattle.key_audit.specs.declared.report.Anchor.{Anchor}
use Rattle.sign_core.specs.declared.source.Source as source
use Rattle.state_file.specs.declared.disk.Disk as disk
use Rattle.state_file.specs.declared.record.Version.{Version}
use Rattle.state_file.specs.declared.record.Version.TheVariants.{Two}
use Rattle.state_file.specs.declared.store.Store as store
use Rattle.state_file.specs.declared.store.file_store.FileStore.{FileStore}
use Rattle.state_file.specs.File.{most_records}
use Rattle.command.specs.declared.usage_fault.UsageFault.{UsageFault}
use Rattle.command.specs.declared.usage_fault.UsageFault.TheVariants as usage
use Rattle.command.specs.declared.usage_fault.UsageFault.TheVariants.{Command, Number}
use Rattle.command.specs.declared.line.CommandLine.{CommandLine}
use Rattle.command.specs.declared.line.CommandLine.TheVariants.{Make, Sign, Verify, Retire, Audit, AuditGiven}
use Rattle.command.specs.declared.line.CommandLine.TheVariants.{Serve, Migrate, ListState, Public}
use Rattle.command.specs.declared.answer.Done.{Done}
use Rattle.command.specs.declared.refusal.Refusal.{Refusal}
use Rattle.command.specs.Argument.{default_random}
use Rattle.command.specs.Audit.{AuditsIn, anchor_of_texts, audit_app, tag_of_text}
use Rattle.command.specs.AuditGiven.{ChecksIn, Pair, audit_given_app, path_pairs, pairs_of, paths_of}
use Rattle.command.specs.Files.{FilesSeen}
use Rattle.command.specs.ListState.{ListsIn, list_app}
use Rattle.command.specs.Make.{MakesIn, format_of, make_app}
use Rattle.command.specs.Migrate.{MigratesIn, migrate_app}
use Rattle.command.specs.Number.{decimal_number}
use Rattle.command.specs.Public.{PublishesIn, public_app}
use Rattle.command.specs.Verify.{verify_app, VerifiesIn}
use Rattle.command.specs.Retire.{RetiresIn, most_leaves, retire_app}
use Rattle.command.specs.Serve.{serve_app}
use Rattle.command.specs.Sign.{SignsIn, sign_app}
use Rattle.command.specs.Trace.{Happening}

-- the program without its commands
abbrev pub bare_app : App
bare_app = record (new_app (codes "hbsign")) {
  top = record (new_app (codes "hbsign")).top {
    no_binary_name = true;
    has_version = true;
    subcommand_required = true;
    arg_required_else_help = true;
  };
}

abbrev pub hbsign_app : App
hbsign_app = with_subcommand (with_subcommand (with_subcommand (with_subcommand (with_subcommand (with_subcommand
    (with_subcommand (with_subcommand (with_subcommand (with_subcommand bare_app make_app.top) sign_app.top)
    verify_app.top) retire_app.top) audit_app.top) audit_given_app.top) serve_app.top) migrate_app.top) list_app.top)
    public_app.top

-- ---- the words of a line

-- a word that isn't read as an option: it doesn't begin with a hyphen (45), or is the hyphen alone
abbrev pub IsPlainWord : List ℕ → Type 0
IsPlainWord [] = ⊤
IsPlainWord (byte ∷ []) = ⊤
IsPlainWord (byte ∷ next ∷ bytes) = byte ≢ 45

abbrev pub ArePlainWords : List (List ℕ) → Type 0
ArePlainWords [] = ⊤
ArePlainWords (word ∷ words) = IsPlainWord word × ArePlainWords words

-- The words give these values. Either they are the values, and none looks like an option. Or `--` stands before some of
-- them or after all, and no word before it looks like an option.
abbrev pub GivesValues : List (List ℕ) → List (List ℕ) → Type 0
GivesValues words values =
    ((words ≡ values) × ArePlainWords values)
    ⊎ ((before : List (List ℕ)) × (after : List (List ℕ)) × (words ≡ before ++ codes "--" ∷ after)
    × (values ≡ before ++ after) × ArePlainWords before)

-- Each word is UTF-8, as each `str` is.
abbrev pub AreTexts : List (List ℕ) → Type 0
AreTexts [] = ⊤
AreTexts (word ∷ words) = IsUtf8 word × AreTexts words

-- A command's name, and then its values, with or without `--`.
abbrev pub IsCommandLine : List (List ℕ) → (name : List ℕ) → (values : List (List ℕ)) → Type 0
IsCommandLine words name values = (after : List (List ℕ)) × (words ≡ name ∷ after) × GivesValues after values

-- ---- what a line requests

-- a command, and what its words name
pub data Task : Type 0 where
  make : (state public spec : List ℕ) (version : Version) (random : List ℕ) → Task
  sign : (state name message out random : List ℕ) → Task
  verify : (public message signature : List ℕ) → Task
  retire : (state : List ℕ) (upto : ℕ) → Task
  audit : (state : List ℕ) (anchor : Option Anchor) → Task
  audit_given : (public : List ℕ) (files : List Pair) → Task
  serve : (state random : List ℕ) → Task
  migrate : (old new : List ℕ) → Task
  list : (file : List ℕ) (public : Option (List ℕ)) → Task
  publish : (state public : List ℕ) → Task

abbrev pub task_of : CommandLine → Task
task_of (Make words) = make words.state.now words.public.now words.spec.now words.version words.random.now
task_of (Sign words) =
    sign words.state.now words.name.now words.message.now words.out.now words.random.now
task_of (Verify files) = verify files.public.now files.message.now files.signature.now
task_of (Retire words) = retire words.state.now words.upto
task_of (Audit words) = audit words.state.now words.anchor
task_of (AuditGiven words) = audit_given words.public.now (pairs_of words)
task_of (Serve words) = serve words.state.now words.random.now
task_of (Migrate words) = migrate words.old.now words.new.now
task_of (ListState words) = list words.file.now (option_map (λ path. path.now) words.public)
task_of (Public words) = publish words.state.now words.public.now

-- ---- what `clap` finds in a line

-- the task of each command, by the values of its words; None is a missing one
abbrev pub make_formatted : (state public spec : Text) → Option Version → (random : Text) → Result Task UsageFault
make_formatted state public spec (Some version) random = Ok (make state public spec version random)
make_formatted state public spec None random = Err usage.Format

abbrev pub make_task : (state public spec format random : Option Text) → Result Task UsageFault
make_task (Some state) (Some public) (Some spec) (Some format) (Some random) =
    make_formatted state public spec (format_of format) random
make_task _ _ _ _ _ = Err Command

abbrev pub sign_task : (state name message out random : Option Text) → Result Task UsageFault
sign_task (Some state) (Some name) (Some message) (Some out) (Some random) = Ok (sign state name message out random)
sign_task _ _ _ _ _ = Err Command

abbrev pub verify_task : Option Text → Option Text → Option Text → Result Task UsageFault
verify_task (Some public) (Some message) (Some signature) = Ok (verify public message signature)
verify_task _ _ _ = Err Command

abbrev pub retire_number : Text → Option ℕ → Result Task UsageFault
retire_number state (Some upto) = Ok (retire state upto)
retire_number state None = Err Number

abbrev pub retire_task : Option Text → Option Text → Result Task UsageFault
retire_task (Some state) (Some upto) = retire_number state (decimal_number most_leaves upto)
retire_task _ _ = Err Command

abbrev pub audit_anchored : Text → Result (Option Anchor) UsageFault → Result Task UsageFault
audit_anchored state (Ok anchor) = Ok (audit state anchor)
audit_anchored state (Err fault) = Err fault

abbrev pub audit_task : (state count tag : Option Text) → Result Task UsageFault
audit_task (Some state) count tag = audit_anchored state (anchor_of_texts count tag)
audit_task None _ _ = Err Command

abbrev pub serve_task : (state random : Option Text) → Result Task UsageFault
serve_task (Some state) (Some random) = Ok (serve state random)
serve_task _ _ = Err Command

abbrev pub migrate_task : (old new : Option Text) → Result Task UsageFault
migrate_task (Some old) (Some new) = Ok (migrate old new)
migrate_task _ _ = Err Command

abbrev pub list_task : (file public : Option Text) → Result Task UsageFault
list_task (Some file) public = Ok (list file public)
list_task None public = Err Command

abbrev pub publish_task : (state public : Option Text) → Result Task UsageFault
publish_task (Some state) (Some public) = Ok (publish state public)
publish_task _ _ = Err Command

abbrev pub audit_given_pairs : Text → Option (List Pair) → Result Task UsageFault
audit_given_pairs public (Some pairs) = Ok (audit_given public pairs)
audit_given_pairs public None = Err usage.Pairs

abbrev pub audit_given_task : Option Text → Option (List Text) → Result Task UsageFault
audit_given_task (Some public) (Some paths) = audit_given_pairs public (path_pairs paths)
audit_given_task _ _ = Err Command

-- the task of a command with a fixed number of values, by its name and the values that are found
abbrev pub fixed_task_named : (name : Text) (found : Text → Option Text) → Result Task UsageFault
fixed_task_named name found =
    if bytes_eq name (codes "make")
    then make_task (found (codes "STATE")) (found (codes "PUBLIC")) (found (codes "SPEC")) (found (codes "format"))
    (found (codes "random"))
    else (if bytes_eq name (codes "sign")
    then sign_task (found (codes "STATE")) (found (codes "NAME")) (found (codes "MESSAGE")) (found (codes "OUT"))
    (found (codes "random"))
    else (if bytes_eq name (codes "verify")
    then verify_task (found (codes "PUBLIC")) (found (codes "MESSAGE")) (found (codes "SIGNATURE"))
    else (if bytes_eq name (codes "retire")
    then retire_task (found (codes "STATE")) (found (codes "UPTO"))
    else (if bytes_eq name (codes "audit")
    then audit_task (found (codes "STATE")) (found (codes "count")) (found (codes "tag"))
    else (if bytes_eq name (codes "serve")
    then serve_task (found (codes "STATE")) (found (codes "random"))
    else (if bytes_eq name (codes "migrate")
    then migrate_task (found (codes "OLD")) (found (codes "NEW"))
    else (if bytes_eq name (codes "list")
    then list_task (found (codes "FILE")) (found (codes "PUBLIC"))
    else (if bytes_eq name (codes "public")
    then publish_task (found (codes "STATE")) (found (codes "PUBLIC"))
    else Err Command))))))))

-- .. of any command, by the rows of its values
abbrev pub task_named : Text → List Row → Result Task UsageFault
task_named name rows =
    if bytes_eq name (codes "audit-given")
    then audit_given_task (first_of (codes "PUBLIC") rows) (all_of (codes "FILES") rows)
    else fixed_task_named name (λ id. first_of id rows)

abbrev pub task_found : Option (Text × List Row) → Result Task UsageFault
task_found None = Err Command
task_found (Some (name, rows)) = task_named name rows

-- `clap` accepts these words, and finds this task.
abbrev pub FindsTask : List (List ℕ) → Task → Type 0
FindsTask words task = (fault_of hbsign_app words ≡ []) × (task_found (subcommand_of hbsign_app words) ≡ Ok task)

-- The line of a task: `verify PUBLIC MESSAGE SIGNATURE`, `retire STATE UPTO`, `migrate OLD NEW`, `list FILE`,
-- `list SIGNATURE PUBLIC` or `public STATE PUBLIC`. For a command with options or any number of files, each line in
-- which `clap` finds the task.
abbrev pub IsLineOf : List (List ℕ) → Task → Type 0
IsLineOf words (make state public spec version random) = FindsTask words (make state public spec version random)
IsLineOf words (sign state name message out random) = FindsTask words (sign state name message out random)
IsLineOf words (verify public message signature) =
    IsCommandLine words (codes "verify") (public ∷ message ∷ signature ∷ [])
IsLineOf words (retire state upto) = (text : List ℕ) × (decimal_number most_leaves text ≡ Some upto)
    × IsCommandLine words (codes "retire") (state ∷ text ∷ [])
IsLineOf words (audit state anchor) = FindsTask words (audit state anchor)
IsLineOf words (audit_given public files) = FindsTask words (audit_given public files)
IsLineOf words (serve state random) = FindsTask words (serve state random)
IsLineOf words (migrate old new) = IsCommandLine words (codes "migrate") (old ∷ new ∷ [])
IsLineOf words (list file None) = IsCommandLine words (codes "list") (file ∷ [])
IsLineOf words (list file (Some public)) = IsCommandLine words (codes "list") (file ∷ public ∷ [])
IsLineOf words (publish state public) = IsCommandLine words (codes "public") (state ∷ public ∷ [])

-- A line of values, without `--random`, or with it at the end: then no value looks like an option.
abbrev pub IsLineWithOption : List (List ℕ) → (name : List ℕ) → (values : List (List ℕ)) → (random : List ℕ) → Type 0
IsLineWithOption words name values random =
    (IsCommandLine words name values × (random ≡ default_random))
    ⊎ ((words ≡ name ∷ (values ++ codes "--random" ∷ random ∷ [])) × ArePlainWords values × IsPlainWord random)

-- A line of `make` that ends with `--format`, or with `--format` and then `--random`. No value looks like an option.
pub record IsFormattedLine (words : List (List ℕ)) (state public spec : List ℕ) (version : Version)
    (random : List ℕ) : Type 0 where
  pub format : List ℕ
  pub plain : ArePlainWords (state ∷ public ∷ spec ∷ format ∷ random ∷ [])
  pub format_is : format_of format ≡ Some version
  pub words_are : ((words ≡ codes "make" ∷ state ∷ public ∷ spec ∷ codes "--format" ∷ format ∷ [])
      × (random ≡ default_random))
      ⊎ (words ≡ codes "make" ∷ state ∷ public ∷ spec ∷ codes "--format" ∷ format ∷ codes "--random" ∷ random ∷ [])

-- .. or without `--format`, for a key of version 2
abbrev pub IsMakeLine : List (List ℕ) → (state public spec : List ℕ) → Version → (random : List ℕ) → Type 0
IsMakeLine words state public spec version random =
    ((version ≡ Two) × IsLineWithOption words (codes "make") (state ∷ public ∷ spec ∷ []) random)
    ⊎ IsFormattedLine words state public spec version random

-- A line of `audit` that ends with an anchor. No value looks like an option.
pub record IsAnchoredLine (words : List (List ℕ)) (state : List ℕ) (anchor : Anchor) : Type 0 where
  pub count : List ℕ
  pub tag : List ℕ
  pub words_are : words ≡ codes "audit" ∷ state ∷ codes "--count" ∷ count ∷ codes "--tag" ∷ tag ∷ []
  pub plain : ArePlainWords (state ∷ count ∷ tag ∷ [])
  pub count_is : decimal_number most_records count ≡ Some anchor.count
  pub tag_is : tag_of_text tag ≡ Some anchor.tag

-- .. or without one
abbrev pub IsAuditLine : List (List ℕ) → (state : List ℕ) → Option Anchor → Type 0
IsAuditLine words state None = IsCommandLine words (codes "audit") (state ∷ [])
IsAuditLine words state (Some anchor) = IsAnchoredLine words state anchor

-- The line of a task as help shows it: `make STATE PUBLIC SPEC [--format N] [--random FILE]`,
-- `sign STATE NAME MESSAGE OUT [--random FILE]`, `verify PUBLIC MESSAGE SIGNATURE`, `retire STATE UPTO`,
-- `audit STATE [--count K --tag T]`, `audit-given PUBLIC FILES..` with at least one pair of files,
-- `serve STATE [--random FILE]`, `migrate OLD NEW`, `list FILE [PUBLIC]`, or `public STATE PUBLIC`.
abbrev pub IsShownLineOf : List (List ℕ) → Task → Type 0
IsShownLineOf words (make state public spec version random) = IsMakeLine words state public spec version random
IsShownLineOf words (sign state name message out random) =
    IsLineWithOption words (codes "sign") (state ∷ name ∷ message ∷ out ∷ []) random
IsShownLineOf words (verify public message signature) = IsLineOf words (verify public message signature)
IsShownLineOf words (retire state upto) = IsLineOf words (retire state upto)
IsShownLineOf words (audit state anchor) = IsAuditLine words state anchor
IsShownLineOf words (audit_given public files) =
    (files ≢ []) × IsCommandLine words (codes "audit-given") (public ∷ paths_of files)
IsShownLineOf words (serve state random) = IsLineWithOption words (codes "serve") (state ∷ []) random
IsShownLineOf words (migrate old new) = IsLineOf words (migrate old new)
IsShownLineOf words (list file public) = IsLineOf words (list file public)
IsShownLineOf words (publish state public) = IsLineOf words (publish state public)

abbrev pub usage_kind : UsageFault → ErrorKind
usage_kind Command = kind.MissingSubcommand
usage_kind Number = kind.ValueValidation
usage_kind usage.Format = kind.ValueValidation
usage_kind usage.Count = kind.ValueValidation
usage_kind usage.Tag = kind.ValueValidation
usage_kind usage.Anchor = kind.MissingRequiredArgument
usage_kind usage.Pairs = kind.WrongNumberOfValues

-- ---- how a task is served

-- How a task is served whose answer is reported. `serve` has replies instead.
abbrev pub ServesTask : {K R : Type 0} {bound : _} → disk.Ghosts K → store.Ghosts (FileStore K bound) → source.Ghosts R
    → FilesSeen K → Task → Result Done Refusal → List Happening → List Happening → Type 0
ServesTask d g r files (make state public spec version random) answer old new =
    MakesIn d g r files state public spec version random answer old new
ServesTask d g r files (sign state name message out random) answer old new =
    SignsIn d g r files state name message out random answer old new
ServesTask d g r files (verify public message signature) answer old new =
    VerifiesIn files.content public message signature answer old new
ServesTask d g r files (retire state upto) answer old new = RetiresIn d g files state upto answer old new
ServesTask d g r files (audit state anchor) answer old new = AuditsIn d files state anchor answer old new
ServesTask d g r files (audit_given public pairs) answer old new =
    ChecksIn files.content public pairs answer old new
ServesTask d g r files (serve state random) answer old new = ⊥
ServesTask d g r files (migrate from to) answer old new = MigratesIn d files from to answer old new
ServesTask d g r files (list file public) answer old new = ListsIn d files file public answer old new
ServesTask d g r files (publish state public) answer old new = PublishesIn d files state public answer old new
