-- `public STATE PUBLIC`: its words, and what it does.
use Rattle.std.specs.Prelude.{◌≡◌, ◌⊎◌, ◌++◌, ◌∷◌, [], ℕ, List, codes, Option, Some, None, Result, Ok, Err}
use Rattle.clap.specs.Words.{App, Text, new_app, with_rule}
use Rattle.key_audit.specs.declared.report.Report.{Report}
use Rattle.state_file.specs.declared.disk.Disk as disk
use Rattle.command.specs.declared.answer.Done.{Done}
use Rattle.command.specs.declared.answer.Done.TheVariants.{Published}
use Rattle.command.specs.declared.public.Public.{Public}
use Rattle.command.specs.declared.refusal.Refusal.{Refusal}
use Rattle.command.specs.declared.refusal.Refusal.TheVariants.{FileFailed}
use Rattle.command.specs.declared.trace.Role.TheVariants as role
use Rattle.command.specs.Argument.{required_rule}
use Rattle.command.specs.Files.{FilesSeen}
use Rattle.command.specs.KeyFile.{AuditsOn}
use Rattle.command.specs.Signing.{PublicBytes, WritesPublic}
use Rattle.command.specs.Trace.{Happening, not_opened, opened_unlocked}

abbrev pub public_app : App
public_app = with_rule (with_rule (new_app (codes "public")) (required_rule (codes "STATE")))
    (required_rule (codes "PUBLIC"))

-- The values of the words; None if one is missing.
abbrev pub IsPublic : (state public : Option Text) → Option Public → Type 0
IsPublic state public (Some words) = (state ≡ Some words.state.now) × (public ≡ Some words.public.now)
IsPublic state public None = (state ≡ None) ⊎ (public ≡ None)

abbrev pub public_answer : Result PublicBytes Refusal → Result Done Refusal
public_answer (Ok bytes) = Ok (Published bytes)
public_answer (Err refusal) = Err refusal

-- If the audit accepted the state file, its public key was written to a file, or couldn't be. Otherwise the refusal is
-- the answer, and the public key's file wasn't opened.
abbrev pub PublishesAudited : Result Report Refusal → (path : List ℕ) → (old new : List Happening)
    → Result PublicBytes Refusal → Type 0
PublishesAudited (Ok report) path old new answer = WritesPublic report.public path old new answer
PublishesAudited (Err refusal) path old new answer = (answer ≡ Err refusal) × (new ≡ old)

-- Either the state file couldn't be opened, which is the answer. Or it was opened for reading alone and without a lock,
-- its disk was audited, only then the public key was written, and the state file was closed.
abbrev pub PublishesIn : {K : Type 0} → disk.Ghosts K → FilesSeen K → (state public : List ℕ) → Result Done Refusal
    → (old new : List Happening) → Type 0
PublishesIn {K} d files state public answer old new =
    ((answer ≡ Err FileFailed) × (new ≡ old ++ not_opened role.State state ∷ []))
    ⊎ ((before after : K) × (audited : Result Report Refusal) × (published : Result PublicBytes Refusal)
    × files.IsOpenedDisk state before × AuditsOn d before after None audited
    × PublishesAudited audited public (old ++ opened_unlocked state ∷ []) new published × files.IsClosedDisk after
    × (answer ≡ public_answer published))
