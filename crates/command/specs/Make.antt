-- `make STATE PUBLIC SPEC [--format N] [--random FILE]`: its words, and what it does.
use Rattle.std.specs.Prelude.{◌≡◌, ◌≢◌, ◌⊎◌, ◌++◌, ◌∷◌, [], ℕ, List, codes, Option, Some, None, Result, Ok, Err}
use Rattle.clap.specs.Words.{App, Text, new_app, with_rule}
use Rattle.typecodes.specs.declared.spec.Spec.{Spec}
use Rattle.typecodes.specs.Spec.{IsSpec, spec_text}
use Rattle.typecodes.specs.Types.{named}
use Rattle.sign_core.specs.declared.source.Source as source
use Rattle.sign_core.specs.Records.{the_key}
use Rattle.sign_core.specs.Signer.{View}
use Rattle.state_file.specs.declared.disk.Disk as disk
use Rattle.state_file.specs.declared.record.Version.{Version}
use Rattle.state_file.specs.declared.store.Store as store
use Rattle.state_file.specs.declared.store.file_store.FileStore.{FileStore}
use Rattle.state_file.specs.FileStore.{disk_of}
use Rattle.state_file.specs.Slot.{version_code, versions}
use Rattle.command.specs.declared.answer.Done.{Done}
use Rattle.command.specs.declared.answer.Done.TheVariants.{Published}
use Rattle.command.specs.declared.usage_fault.UsageFault.{UsageFault}
use Rattle.command.specs.declared.usage_fault.UsageFault.TheVariants.{Command, Format}
use Rattle.command.specs.declared.make.Make.{Make}
use Rattle.command.specs.declared.refusal.Refusal.{Refusal}
use Rattle.command.specs.declared.refusal.Refusal.TheVariants.{BadSpec, FileFailed}
use Rattle.command.specs.declared.trace.Role.TheVariants as role
use Rattle.command.specs.Argument.{default_rule, random_rule, required_rule}
use Rattle.command.specs.FileDisk.{IsStateRefusal}
use Rattle.command.specs.Files.{FilesSeen, KeepsOtherContents, ShowsContent}
use Rattle.command.specs.KeyFile.{MakesOn, given_back}
use Rattle.command.specs.Number.{decimal_number}
use Rattle.command.specs.Signing.{PublicBytes, Publishes}
use Rattle.command.specs.Trace.{Happening, made, making, not_opened, opened}

-- version 2 of the state file
abbrev pub default_format : List ℕ
default_format = codes "2"

abbrev pub make_app : App
make_app = with_rule (with_rule (with_rule (with_rule (with_rule (new_app (codes "make"))
    (required_rule (codes "STATE"))) (required_rule (codes "PUBLIC"))) (required_rule (codes "SPEC")))
    (default_rule (codes "format") default_format)) random_rule

abbrev pub version_numbered : Option ℕ → Option Version
version_numbered (Some number) = named version_code versions number
version_numbered None = None

-- 1 or 2
abbrev pub format_of : Text → Option Version
format_of text = version_numbered (decimal_number 2 text)

-- The values of the words; or one is missing, or the format isn't 1 or 2.
abbrev pub IsMake : (state public spec format random : Option Text) → Result Make UsageFault → Type 0
IsMake state public spec format random (Ok words) = (state ≡ Some words.state.now) × (public ≡ Some words.public.now)
    × (spec ≡ Some words.spec.now) × ((text : Text) × (format ≡ Some text) × (format_of text ≡ Some words.version))
    × (random ≡ Some words.random.now)
IsMake state public spec format random (Err Format) = (state ≢ None) × (public ≢ None) × (spec ≢ None)
    × ((text : Text) × (format ≡ Some text) × (format_of text ≡ None)) × (random ≢ None)
IsMake state public spec format random (Err Command) =
    (state ≡ None) ⊎ (public ≡ None) ⊎ (spec ≡ None) ⊎ (format ≡ None) ⊎ (random ≡ None)
IsMake state public spec format random (Err _) = ⊥

-- A key was made on a disk, and only then its public key written to a file. Or one of the two was refused, which is the
-- answer; if no key was made, the public key's file wasn't opened. `after` is the disk that the signer, or the refusal,
-- has.
abbrev pub MakesAndPublishes : {K R : Type 0} {bound : _} → disk.Ghosts K → store.Ghosts (FileStore K bound)
    → source.Ghosts R → (before after : K) → Version → Spec → (random : R) → (public : List ℕ)
    → Result PublicBytes Refusal → (old new : List Happening) → Type 0
MakesAndPublishes {K} {R} {bound} d g r before after version spec random public answer old new =
    ((refusal : Refusal) × (answer ≡ Err refusal) × (new ≡ old)
    × MakesOn {bound = bound} d g r before version spec random (Err (given_back refusal after)))
    ⊎ ((signer : View (FileStore K bound) R) × MakesOn d g r before version spec random (Ok signer)
    × Publishes (the_key signer.records) public old new answer × (after ≡ disk_of signer.store))

-- On the disk of an open state file: the file of random bytes was opened, and a key made and published. Or the file
-- couldn't be opened, and the disk is as it was.
abbrev pub MakesOpened : {K R : Type 0} {bound : _} → disk.Ghosts K → store.Ghosts (FileStore K bound)
    → source.Ghosts R → (content : List ℕ → Option (List ℕ)) → (before after : K) → Version → Spec
    → (public random : List ℕ) → Result PublicBytes Refusal → (old new : List Happening) → Type 0
MakesOpened {K} {R} {bound} d g r content before after version spec public random answer old new =
    ((answer ≡ Err FileFailed) × (after ≡ before) × (new ≡ old ++ not_opened role.Random random ∷ []))
    ⊎ ((source : R) × ShowsContent (content random) (r.upcoming source)
    × MakesAndPublishes {bound = bound} d g r before after version spec source public answer
    (old ++ opened role.Random random ∷ []) new)

abbrev pub make_answer : Result PublicBytes Refusal → Result Done Refusal
make_answer (Ok bytes) = Ok (Published bytes)
make_answer (Err refusal) = Err refusal

-- Either the state file couldn't be opened or made, or was locked, which is the answer. Or it was opened, and made if
-- there was none, a key was made once on its disk, and it was closed. The content of the file of random bytes is known
-- if that is another file.
abbrev pub MakesAt : {K R : Type 0} {bound : _} → disk.Ghosts K → store.Ghosts (FileStore K bound) → source.Ghosts R
    → FilesSeen K → Version → Spec → (state public random : List ℕ) → Result Done Refusal
    → (old new : List Happening) → Type 0
MakesAt {K} {R} {bound} d g r files version spec state public random answer old new =
    ((refusal : Refusal) × IsStateRefusal refusal × (answer ≡ Err refusal)
    × (new ≡ old ++ making {A = K} state (Err refusal) ∷ []))
    ⊎ ((before after : K) × (content : List ℕ → Option (List ℕ)) × (published : Result PublicBytes Refusal)
    × KeepsOtherContents state files.content content × files.IsOpenedDisk state before
    × MakesOpened {bound = bound} d g r content before after version spec public random published
    (old ++ made state ∷ []) new × files.IsClosedDisk after × (answer ≡ make_answer published))

-- The text is no spec, which is the answer (51), and no file was opened. Or it is one, and a key of it was made.
abbrev pub MakesIn : {K R : Type 0} {bound : _} → disk.Ghosts K → store.Ghosts (FileStore K bound) → source.Ghosts R
    → FilesSeen K → (state public spec : List ℕ) → Version → (random : List ℕ) → Result Done Refusal
    → (old new : List Happening) → Type 0
MakesIn {K} {R} {bound} d g r files state public text version random answer old new =
    (((spec : Spec) → IsSpec spec → text ≢ spec_text spec) × (answer ≡ Err BadSpec) × (new ≡ old))
    ⊎ ((spec : Spec) × IsSpec spec × (text ≡ spec_text spec)
    × MakesAt {bound = bound} d g r files version spec state public random answer old new)
