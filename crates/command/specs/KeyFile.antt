-- A signer on the disk of a state file: how it is opened, and what a command does with it.
use Rattle.std.specs.Prelude.{◌≡◌, ◌⊎◌, ℕ, List, Option, Result, Ok, Err}
use Rattle.key_audit.specs.declared.listing.Listing.{Listing}
use Rattle.key_audit.specs.declared.report.Anchor.{Anchor}
use Rattle.key_audit.specs.declared.report.AuditFault.{AuditFault}
use Rattle.key_audit.specs.declared.report.Report.{Report}
use Rattle.key_audit.specs.Audit.{AuditsReplayed}
use Rattle.key_audit.specs.Listing.{ListsReplayed}
use Rattle.typecodes.specs.declared.message.Message as message
use Rattle.typecodes.specs.declared.spec.Spec.{Spec}
use Rattle.state_file.specs.declared.disk.Disk as disk
use Rattle.state_file.specs.declared.file.format.FormatFault.{FormatFault}
use Rattle.state_file.specs.declared.file.opening.OpenFault.{OpenFault}
use Rattle.state_file.specs.declared.migration.MigrateFault.{MigrateFault}
use Rattle.state_file.specs.declared.record.Version.{Version}
use Rattle.state_file.specs.declared.refused.Refused.{Refused}
use Rattle.state_file.specs.declared.store.Store as store
use Rattle.state_file.specs.declared.store.file_store.FileStore.{FileStore}
use Rattle.state_file.specs.FileStore.{FindsRecords, PreparesDisk, disk_of}
use Rattle.sign_core.specs.declared.fault.ServeFault.{ServeFault}
use Rattle.sign_core.specs.declared.fault.SignFault.{SignFault}
use Rattle.sign_core.specs.declared.source.Source as source
use Rattle.sign_core.specs.declared.source.TapeSource.{TapeSource}
use Rattle.sign_core.specs.Migration.{Migrates}
use Rattle.sign_core.specs.Serving.{Serves}
use Rattle.sign_core.specs.Signer.{Creates, OpensReplayed, Signs, View}
use Rattle.command.specs.declared.refusal.Refusal.{Refusal}
use Rattle.command.specs.declared.refusal.Refusal.TheVariants.{Audit, Migration, Opening, Preparing, Serving, Signer}
use Rattle.command.specs.Signing.{RetiresBelow}

abbrev pub given_back : {T F : Type 0} → F → T → Refused T F
given_back fault given = record { fault = fault; given = given }

-- The disk's records were found, and a signer opened on them, without a second reading. Or one of the two was refused,
-- and the disk is handed back.
abbrev pub OpensOn : {K R : Type 0} {bound : _} → disk.Ghosts K → store.Ghosts (FileStore K bound) → (given : K)
    → (random : R) → Result (View (FileStore K bound) R) (Refused K Refusal) → Type 0
OpensOn {K} {R} {bound} d g given random (Ok signer) =
    (found : FileStore K bound) × FindsRecords d given (Ok found) × OpensReplayed g found random (Ok signer)
OpensOn {K} {R} {bound} d g given random (Err refused) =
    ((fault : OpenFault) × FindsRecords {bound = bound} d given (Err (given_back fault refused.given))
    × (refused.fault ≡ Opening fault))
    ⊎ ((found : FileStore K bound) × (fault : SignFault) × (after : FileStore K bound) × (unused : R)
    × FindsRecords d given (Ok found) × OpensReplayed g found random (Err (given_back fault (after, unused)))
    × (refused.fault ≡ Signer fault) × (refused.given ≡ disk_of after))

-- A signer was opened on the disk, retired the leaves, and gave the disk back; or it couldn't be opened. A retire draws
-- nothing.
abbrev pub RetiresOn : {K : Type 0} {bound : _} → disk.Ghosts K → store.Ghosts (FileStore K bound) → (old new : K)
    → (upto : ℕ) → Result Unit Refusal → Type 0
RetiresOn {K} {bound} d g old new upto answer =
    ((random : TapeSource) × (refusal : Refusal) × (answer ≡ Err refusal)
    × OpensOn {bound = bound} d g old random (Err (given_back refusal new)))
    ⊎ ((random : TapeSource) × (before after : View (FileStore K bound) TapeSource)
    × OpensOn d g old random (Ok before) × RetiresBelow g before after upto answer × (new ≡ disk_of after.store))

-- The disk was prepared, and a signer made on it with a new key. Or one of the two was refused, and the disk is handed
-- back.
abbrev pub MakesOn : {K R : Type 0} {bound : _} → disk.Ghosts K → store.Ghosts (FileStore K bound) → source.Ghosts R
    → (given : K) → Version → Spec → (random : R) → Result (View (FileStore K bound) R) (Refused K Refusal) → Type 0
MakesOn {K} {R} {bound} d g r given version spec random (Ok signer) =
    (prepared : FileStore K bound) × PreparesDisk d given (Ok prepared)
    × Creates g r version spec prepared random (Ok signer)
MakesOn {K} {R} {bound} d g r given version spec random (Err refused) =
    ((fault : FormatFault) × PreparesDisk {bound = bound} d given (Err (given_back fault refused.given))
    × (refused.fault ≡ Preparing fault))
    ⊎ ((prepared : FileStore K bound) × (fault : SignFault) × (after : FileStore K bound) × (drawn : R)
    × PreparesDisk d given (Ok prepared)
    × Creates g r version spec prepared random (Err (given_back fault (after, drawn)))
    × (refused.fault ≡ Signer fault) × (refused.given ≡ disk_of after))

-- The output has the signature, or the refusal is reported.
abbrev pub ReportsSigning : Result (List ℕ) SignFault → (output : List ℕ) → Result Unit Refusal → Type 0
ReportsSigning (Ok signature) output answer = (output ≡ signature) × (answer ≡ Ok tt)
ReportsSigning (Err fault) output answer = answer ≡ Err (Signer fault)

-- The signer made a step of signing this name's message, and its answer is reported.
abbrev pub SignsFor : {S R M : Type 0} → store.Ghosts S → source.Ghosts R → message.Ghosts M → (old new : View S R)
    → (name : List ℕ) → (before after : M) → (capacity : ℕ) → (output : List ℕ) → Result Unit Refusal → Type 0
SignsFor g r m old new name before after capacity output answer =
    (signed : Result (List ℕ) SignFault) × Signs g r m old new name before after capacity signed
    × ReportsSigning signed output answer

-- A signer was opened on the disk, signed the message under the name, and gave the disk back; or it couldn't be opened,
-- and the message is as it was.
abbrev pub SignsOn : {K R M : Type 0} {bound : _} → disk.Ghosts K → store.Ghosts (FileStore K bound) → source.Ghosts R
    → message.Ghosts M → (old new : K) → (random : R) → (name : List ℕ) → (before after : M) → (capacity : ℕ)
    → (output : List ℕ) → Result Unit Refusal → Type 0
SignsOn {K} {R} {M} {bound} d g r m old new random name before after capacity output answer =
    ((refusal : Refusal) × (answer ≡ Err refusal) × (after ≡ before)
    × OpensOn {bound = bound} d g old random (Err (given_back refusal new)))
    ⊎ ((opened left : View (FileStore K bound) R) × OpensOn d g old random (Ok opened)
    × SignsFor g r m opened left name before after capacity output answer × (new ≡ disk_of left.store))

abbrev pub serve_reported : Result ℕ ServeFault → Result ℕ Refusal
serve_reported (Ok replies) = Ok replies
serve_reported (Err fault) = Err (Serving fault)

-- A signer was opened on the disk, answered the requests of an input on an output, and gave the disk back. Or it
-- couldn't be opened, and the input and the output are as they were. `contents` has the bytes of an output, if known.
abbrev pub ServesOn : {K R I W : Type 0} {bound : _} → disk.Ghosts K → store.Ghosts (FileStore K bound)
    → source.Ghosts R → message.Ghosts I → (contents : W → Option (List ℕ)) → (old new : K) → (random : R)
    → (from to : I × W) → Result ℕ Refusal → Type 0
ServesOn {K} {R} {I} {W} {bound} d g r m contents old new random from to served =
    ((refusal : Refusal) × (served ≡ Err refusal) × (to ≡ from)
    × OpensOn {bound = bound} d g old random (Err (given_back refusal new)))
    ⊎ ((opened left : View (FileStore K bound) R) × (ended : Result ℕ ServeFault)
    × OpensOn d g old random (Ok opened)
    × Serves g r m opened left from.0 to.0 (contents from.1) (contents to.1) ended
    × (served ≡ serve_reported ended) × (new ≡ disk_of left.store))

abbrev pub audit_reported : {A : Type 0} → Result A AuditFault → Result A Refusal
audit_reported (Ok value) = Ok value
audit_reported (Err fault) = Err (Audit fault)

-- The disk's records were found and audited, and the disk given back; or they couldn't be found.
abbrev pub AuditsOn : {K : Type 0} → (d : disk.Ghosts K) → (old new : K) → Option Anchor → Result Report Refusal
    → Type 0
AuditsOn {K} d old new anchor answer =
    ((fault : OpenFault) × FindsRecords {bound = d} d old (Err (given_back fault new))
    × (answer ≡ Err (Opening fault)))
    ⊎ ((found after : FileStore K d) × (audited : Result Report AuditFault) × FindsRecords d old (Ok found)
    × AuditsReplayed d found after anchor audited × (answer ≡ audit_reported audited) × (new ≡ disk_of after))

-- The disk's records were found and listed, and the disk given back; or they couldn't be found.
abbrev pub ListsOn : {K : Type 0} → (d : disk.Ghosts K) → (old new : K) → Result Listing Refusal → Type 0
ListsOn {K} d old new answer =
    ((fault : OpenFault) × FindsRecords {bound = d} d old (Err (given_back fault new))
    × (answer ≡ Err (Opening fault)))
    ⊎ ((found : FileStore K d) × (listed : Result Listing AuditFault) × FindsRecords d old (Ok found)
    × ListsReplayed d found listed × (answer ≡ audit_reported listed) × (new ≡ disk_of found))

abbrev pub migrate_reported : Result ℕ MigrateFault → Result ℕ Refusal
migrate_reported (Ok count) = Ok count
migrate_reported (Err fault) = Err (Migration fault)

-- A key's records were migrated from one disk to another, which this left so, and the answer is reported.
abbrev pub MigratesOn : {K : Type 0} → (d : disk.Ghosts K) → (old new old_after new_after : K) → Result ℕ Refusal
    → Type 0
MigratesOn d old new old_after new_after answer =
    (migrated : Result ℕ MigrateFault) × Migrates d d old new old_after new_after migrated
    × (answer ≡ migrate_reported migrated)
