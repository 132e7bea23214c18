-- `audit STATE [--count K] [--tag T]`: its words, and what it does.
use Rattle.std.specs.Prelude.{◌≡◌, ◌⊎◌, ◌++◌, ◌∷◌, [], ℕ, List, codes, Option, Some, None, Result, Ok, Err}
use Rattle.clap.specs.Words.{App, Text, new_app, with_rule}
use Rattle.hex.specs.Hex.{decode_sized}
use Rattle.hex.specs.declared.error.FromHexError.{FromHexError}
use Rattle.key_audit.specs.declared.report.Anchor.{Anchor}
use Rattle.key_audit.specs.declared.report.Report.{Report}
use Rattle.sign_core.specs.Key.{SpellsKey}
use Rattle.state_file.specs.declared.disk.Disk as disk
use Rattle.command.specs.declared.answer.Done.{Done}
use Rattle.command.specs.declared.answer.Done.TheVariants.{Audited}
use Rattle.command.specs.declared.audit.Audit.{Audit}
use Rattle.command.specs.declared.usage_fault.UsageFault.{UsageFault}
use Rattle.command.specs.declared.usage_fault.UsageFault.TheVariants as usage
use Rattle.command.specs.declared.refusal.Refusal.{Refusal}
use Rattle.command.specs.Argument.{option_rule, required_rule}
use Rattle.command.specs.FileDisk.{IsStateRefusal}
use Rattle.command.specs.Files.{FilesSeen}
use Rattle.state_file.specs.File.{most_records}
use Rattle.command.specs.KeyFile.{AuditsOn}
use Rattle.command.specs.Number.{decimal_number}
use Rattle.command.specs.Signing.{PublicBytes}
use Rattle.command.specs.Trace.{Happening, opened_to_read, opening_state_to_read}

abbrev pub audit_app : App
audit_app = with_rule (with_rule (with_rule (new_app (codes "audit")) (required_rule (codes "STATE")))
    (option_rule (codes "count"))) (option_rule (codes "tag"))

-- ---- the words of an anchor

abbrev pub decoded : Result (List ℕ) FromHexError → Option (List ℕ)
decoded (Ok bytes) = Some bytes
decoded (Err _) = None

-- from 64 hex digits
abbrev pub tag_of_text : Text → Option (List ℕ)
tag_of_text text = decoded (decode_sized text 32)

abbrev pub anchor_of_parts : Option ℕ → Option (List ℕ) → Result (Option Anchor) UsageFault
anchor_of_parts (Some count) (Some tag) = Ok (Some (record { count = count; tag = tag }))
anchor_of_parts None _ = Err usage.Count
anchor_of_parts (Some _) None = Err usage.Tag

-- both texts, or neither
abbrev pub anchor_of_texts : (count tag : Option Text) → Result (Option Anchor) UsageFault
anchor_of_texts None None = Ok None
anchor_of_texts (Some count) (Some tag) = anchor_of_parts (decimal_number most_records count) (tag_of_text tag)
anchor_of_texts None (Some _) = Err usage.Anchor
anchor_of_texts (Some _) None = Err usage.Anchor

-- The values of the words; or the state file is missing, or the anchor is wrong.
abbrev pub IsAudit : (state count tag : Option Text) → Result Audit UsageFault → Type 0
IsAudit state count tag (Ok words) = (state ≡ Some words.state.now) × (anchor_of_texts count tag ≡ Ok words.anchor)
IsAudit state count tag (Err fault) = ((state ≡ None) × (fault ≡ usage.Command))
    ⊎ ((path : Text) × (state ≡ Some path) × (anchor_of_texts count tag ≡ Err fault))

-- ---- what it does

-- The answer of an audit; a report has the bytes of the public key with it.
abbrev pub IsAudited : Result Report Refusal → Result Done Refusal → Type 0
IsAudited (Ok report) answer = (bytes : PublicBytes) × SpellsKey report.public bytes.items
    × (answer ≡ Ok (Audited bytes report))
IsAudited (Err refusal) answer = answer ≡ Err refusal

-- Either the state file couldn't be opened, or was locked, which is the answer. Or it was opened for reading alone, its
-- disk was audited, and it was closed. No other file was opened.
abbrev pub AuditsIn : {K : Type 0} → disk.Ghosts K → FilesSeen K → (state : List ℕ) → Option Anchor
    → Result Done Refusal → (old new : List Happening) → Type 0
AuditsIn {K} d files state anchor answer old new =
    ((refusal : Refusal) × IsStateRefusal refusal × (answer ≡ Err refusal)
    × (new ≡ old ++ opening_state_to_read {A = K} state (Err refusal) ∷ []))
    ⊎ ((before after : K) × (audited : Result Report Refusal) × files.IsOpenedDisk state before
    × AuditsOn d before after anchor audited × files.IsClosedDisk after × IsAudited audited answer
    × (new ≡ old ++ opened_to_read state ∷ []))
