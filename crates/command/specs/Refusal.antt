-- Refusals: their numbers, names and lines.
use Rattle.std.specs.declared.io.ErrorKind.{ErrorKind}
use Rattle.std.specs.declared.io.ErrorKind.TheVariants as kind
use Rattle.command.specs.declared.refusal.Refusal.{Refusal}
use Rattle.command.specs.declared.refusal.Refusal.TheVariants.{OutOfMemory, FileFailed, Key, Signature}
use Rattle.command.specs.declared.refusal.Refusal.TheVariants.{Signer, Opening, Preparing, Audit, Given, Locked}
use Rattle.command.specs.declared.refusal.Refusal.TheVariants.{BadName, BadSpec, Migration, Serving}
use Rattle.sign_core.specs.declared.fault.SignFault.TheVariants as sign
use Rattle.sign_core.specs.Fault.{serve_fault_name, serve_fault_number, sign_fault_name, sign_fault_number}
use Rattle.sign_core.specs.Key.{key_fault_name, key_fault_number}
use Rattle.key_audit.specs.declared.given.GivenFault.TheVariants as given
use Rattle.key_audit.specs.declared.report.AuditFault.TheVariants as audit
use Rattle.key_audit.specs.Audit.{audit_fault_name, audit_fault_number}
use Rattle.key_audit.specs.Given.{given_fault_name, given_fault_number}
use Rattle.state_file.specs.declared.file.opening.OpenFault.TheVariants as opening
use Rattle.state_file.specs.declared.migration.MigrateFault.TheVariants as migrate
use Rattle.state_file.specs.Format.{format_fault_name, format_fault_number}
use Rattle.state_file.specs.MigrateFault.{migrate_fault_name, migrate_fault_number}
use Rattle.state_file.specs.Opening.{open_fault_name, open_fault_number}
use Rattle.std.specs.Prelude.{ℕ, length, List, codes, [], ◌++◌, decimal}
use Rattle.typecodes.specs.Refusal.{refusal_name, refusal_number}
use Rattle.sign_core.specs.declared.key.KeyFault.TheVariants.{Length as KeyLength, Unreadable as UnreadableKey}
use Rattle.typecodes.specs.declared.refusal.Refusal.TheVariants.{Unreadable, TypeMismatch, LevelMismatch}
use Rattle.typecodes.specs.declared.refusal.Refusal.TheVariants.{RootMismatch, MessageRead}

-- how a failed call on a file is reported: 46 for refused memory, 53 otherwise
abbrev pub refusal_of : ErrorKind → Refusal
refusal_of kind.OutOfMemory = OutOfMemory
refusal_of _ = FileFailed

abbrev pub number_of : Refusal → ℕ
number_of (Key fault) = key_fault_number fault
number_of (Signature refusal) = refusal_number refusal
number_of (Signer fault) = sign_fault_number fault
number_of (Opening fault) = open_fault_number fault
number_of (Preparing fault) = format_fault_number fault
number_of (Audit fault) = audit_fault_number fault
number_of (Given fault) = given_fault_number fault
number_of (Migration fault) = migrate_fault_number fault
number_of (Serving fault) = serve_fault_number fault
number_of OutOfMemory = 46
number_of FileFailed = 53
number_of Locked = 54
number_of BadName = 34
number_of BadSpec = 51

abbrev pub name_of : Refusal → List ℕ
name_of (Key fault) = key_fault_name fault
name_of (Signature refusal) = refusal_name refusal
name_of (Signer fault) = sign_fault_name fault
name_of (Opening fault) = open_fault_name fault
name_of (Preparing fault) = format_fault_name fault
name_of (Audit fault) = audit_fault_name fault
name_of (Given fault) = given_fault_name fault
name_of (Migration fault) = migrate_fault_name fault
name_of (Serving fault) = serve_fault_name fault
name_of OutOfMemory = codes "OutOfMemory"
name_of FileFailed = codes "FileFailed"
name_of Locked = codes "Locked"
name_of BadName = codes "BadName"
name_of BadSpec = codes "BadSpec"

-- after the name: an offset, a length, a level, a slot, or the places of files
abbrev pub detail_of : Refusal → List ℕ
detail_of (Key (UnreadableKey fault)) = codes " at " ++ decimal fault.place
detail_of (Signature (Unreadable fault)) = codes " at " ++ decimal fault.place
detail_of (Key (KeyLength length)) = codes " of " ++ decimal length
detail_of (Signature (TypeMismatch level)) = codes " level " ++ decimal level
detail_of (Signature LevelMismatch) = []
detail_of (Signature (RootMismatch level)) = codes " level " ++ decimal level
detail_of (Signature MessageRead) = []
detail_of (Signer (sign.Damaged slot)) = codes " slot " ++ decimal slot
detail_of (Signer (sign.Unreadable slot)) = codes " slot " ++ decimal slot
detail_of (Signer (sign.Illegal slot)) = codes " slot " ++ decimal slot
detail_of (Opening (opening.Damaged slot)) = codes " slot " ++ decimal slot
detail_of (Audit (audit.Damaged slot)) = codes " slot " ++ decimal slot
detail_of (Audit (audit.Illegal slot)) = codes " slot " ++ decimal slot
detail_of (Migration (migrate.Damaged slot)) = codes " slot " ++ decimal slot
detail_of (Migration (migrate.Illegal slot)) = codes " slot " ++ decimal slot
detail_of (Given (given.NotValid place)) = codes " file " ++ decimal place
detail_of (Given (given.LeafTwice first second)) =
    codes " files " ++ decimal first ++ codes " " ++ decimal second
detail_of _ = []

abbrev pub refusal_line : Refusal → List ℕ
refusal_line refusal =
    codes "refused " ++ decimal (number_of refusal) ++ codes " " ++ name_of refusal ++ detail_of refusal
