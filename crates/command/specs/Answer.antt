-- The line that reports each answer, and the exit status.
use Rattle.std.specs.Prelude.{ℕ, List, codes, decimal, ◌++◌, Bool, Option, Result, Ok, Err, ◌≡◌, ◌⊎◌}
use Rattle.command.specs.declared.answer.Done.{Done}
use Rattle.command.specs.declared.answer.Done.TheVariants.{Audited, Checked, Listed, Migrated, Published, Retired}
use Rattle.command.specs.declared.answer.Done.TheVariants.{Described as DescribedDone, Signed, Verified}
use Rattle.command.specs.declared.described.Described.{Described}
use Rattle.command.specs.declared.described.Described.TheVariants.{Public, LmsSignature, HssSignature, XmssSignature}
use Rattle.hex.specs.Hex.{encode_lower}
use Rattle.command.specs.declared.refusal.Refusal.{Refusal}
use Rattle.command.specs.declared.refusal.Refusal.TheVariants.{Signature, OutOfMemory, FileFailed, BadName, BadSpec}
use Rattle.command.specs.declared.refusal.Refusal.TheVariants.{Signer, Opening, Preparing, Audit, Given, Serving}
use Rattle.command.specs.declared.refusal.Refusal.TheVariants.{Migration}
use Rattle.key_audit.specs.declared.given.GivenFault.TheVariants as given
use Rattle.key_audit.specs.declared.report.AuditFault.TheVariants as audit
use Rattle.key_audit.specs.declared.report.Report.{Report}
use Rattle.sign_core.specs.declared.fault.ServeFault.TheVariants as serve
use Rattle.sign_core.specs.declared.fault.SignFault.TheVariants as sign
use Rattle.state_file.specs.declared.file.opening.OpenFault.TheVariants as opening
use Rattle.state_file.specs.declared.file.format.FormatFault.TheVariants as preparing
use Rattle.state_file.specs.declared.migration.MigrateFault.TheVariants as migrate
use Rattle.typecodes.specs.declared.refusal.Refusal.TheVariants.{MessageRead}
use Rattle.command.specs.Refusal.{refusal_line}
use Rattle.state_file.specs.Slot.{version_code}
use Rattle.typecodes.specs.Spec.{spec_text}
use Rattle.typecodes.specs.declared.spec.Spec.{Spec}
use Rattle.typecodes.specs.declared.spec.Spec.TheVariants.{Lms as LmsSpec, Xmss as XmssSpec}
use Rattle.lms.specs.declared.key.LmsPublic.{LmsPublic}
use Rattle.hss.specs.declared.key.HssPublic.{HssPublic}
use Rattle.xmss.specs.declared.key.XmssPublic.{XmssPublic}
use Rattle.sign_core.specs.declared.key.AnyPublic.{AnyPublic}
use Rattle.sign_core.specs.declared.key.AnyPublic.TheVariants.{Lms, Hss, Xmss}
use Rattle.key_audit.specs.Listing.{Shown, names_among, shown_of_listing}
use Rattle.key_audit.specs.Signatures.{below_2_64, signatures_of}
use Rattle.command.specs.Output.{Taken, WritesText, Fails, behind_line, entry_lines, level_lines, moved_line}
use Rattle.command.specs.Output.{could_be_line, signatures_line, signed_lines}

-- the lines of a report, after the bytes of the public key
abbrev pub report_lines : (public : List ℕ) → Report → List ℕ
report_lines public report =
    ((((((codes "public " ++ encode_lower public) ++ codes "\nrecords ") ++ decimal report.records)
    ++ codes "\ntag ") ++ encode_lower report.tag) ++ codes "\n") ++ level_lines 0 report.left.items
    ++ moved_line report.moved

-- the key's spec, the version of the file, the free leaves of each level, the number of names, each record, the number
-- of new names that can still be signed, and the last record's slot if bytes stand behind it
abbrev pub listing_lines : Shown → (behind : Option ℕ) → List ℕ
listing_lines shown behind =
    ((((((((((codes "spec " ++ spec_text shown.spec) ++ codes "\nformat ") ++ decimal (version_code shown.version))
    ++ codes "\n") ++ level_lines 0 shown.left) ++ codes "names ") ++ decimal (names_among shown.entries))
    ++ codes "\n") ++ entry_lines 0 shown.entries) ++ signatures_line (below_2_64 (signatures_of shown)))
    ++ behind_line behind

-- a public key of each scheme: its types, as far as it fixes them, and its values; an HSS key fixes the number of
-- levels and the types of the top tree
abbrev pub lms_key_lines : Spec → LmsPublic → List ℕ
lms_key_lines spec key =
    codes "public " ++ spec_text spec ++ codes "\nidentifier " ++ encode_lower key.identifier
    ++ codes "\nroot " ++ encode_lower key.root ++ codes "\n"

abbrev pub hss_key_lines : (top : Spec) → HssPublic → List ℕ
hss_key_lines top key =
    codes "public hss\nlevels " ++ decimal key.levels ++ codes "\ntop " ++ spec_text top
    ++ codes "\nidentifier " ++ encode_lower key.top.identifier ++ codes "\nroot " ++ encode_lower key.top.root
    ++ codes "\n"

abbrev pub xmss_key_lines : Spec → XmssPublic → List ℕ
xmss_key_lines spec key =
    codes "public " ++ spec_text spec ++ codes "\nroot " ++ encode_lower key.root
    ++ codes "\nseed " ++ encode_lower key.seed ++ codes "\n"

abbrev pub public_lines : AnyPublic → List ℕ
public_lines (Lms key) = lms_key_lines (LmsSpec key.pair) key
public_lines (Hss key) = hss_key_lines (LmsSpec key.top.pair) key
public_lines (Xmss key) = xmss_key_lines (XmssSpec key.tree) key

-- a signature of one tree: its types, and the index of its leaf
abbrev pub leaf_lines : Spec → (leaf : ℕ) → List ℕ
leaf_lines spec leaf = codes "signature " ++ spec_text spec ++ codes "\nindex " ++ decimal leaf ++ codes "\n"

-- what a file is, and whether it could be a key's
abbrev pub described_lines : Described → Option Bool → List ℕ
described_lines (Public key) could_be = public_lines key ++ could_be_line could_be
described_lines (LmsSignature pair leaf) could_be = leaf_lines (LmsSpec pair) leaf ++ could_be_line could_be
described_lines (HssSignature levels) could_be =
    codes "signature hss\n" ++ signed_lines 0 levels.items ++ could_be_line could_be
described_lines (XmssSignature tree leaf) could_be = leaf_lines (XmssSpec tree) leaf ++ could_be_line could_be

abbrev pub done_lines : Done → List ℕ
done_lines Verified = codes "verified\n"
done_lines (Retired upto) = codes "retired upto " ++ decimal upto ++ codes "\n"
done_lines (Published public) = codes "public " ++ encode_lower public.items ++ codes "\n"
done_lines (Signed name size) = codes "signed " ++ name ++ codes " " ++ decimal size ++ codes " bytes\n"
done_lines (Audited public report) = report_lines public.items report
done_lines (Listed listing) = listing_lines (shown_of_listing listing) listing.behind
done_lines (DescribedDone described could_be) = described_lines described could_be
done_lines (Checked count) = codes "given " ++ decimal count ++ codes " signatures, no leaf twice\n"
done_lines (Migrated count) = codes "migrated " ++ decimal count ++ codes " records\n"

-- with the line's end; an audit, a listing and a description have several lines
abbrev pub answer_line : Result Done Refusal → List ℕ
answer_line (Ok done) = done_lines done
answer_line (Err refusal) = refusal_line refusal ++ codes "\n"

-- 0: done. 2: a bad name or spec. 3: a file or the machine failed, or an input ended inside a message. 1: any other
-- refusal.
abbrev pub status_of : Result Done Refusal → ℕ
status_of (Ok done) = 0
status_of (Err BadName) = 2
status_of (Err BadSpec) = 2
status_of (Err OutOfMemory) = 3
status_of (Err FileFailed) = 3
status_of (Err (Signature MessageRead)) = 3
status_of (Err (Opening opening.DeviceFailed)) = 3
status_of (Err (Preparing preparing.DeviceFailed)) = 3
status_of (Err (Signer sign.RandomFailed)) = 3
status_of (Err (Signer sign.StoreFailed)) = 3
status_of (Err (Signer sign.MessageRead)) = 3
status_of (Err (Signer sign.OutOfMemory)) = 3
status_of (Err (Signer sign.DeviceFailed)) = 3
status_of (Err (Signer sign.NoMemoryToOpen)) = 3
status_of (Err (Audit audit.DeviceFailed)) = 3
status_of (Err (Audit audit.OutOfMemory)) = 3
status_of (Err (Given given.OutOfMemory)) = 3
status_of (Err (Migration migrate.DeviceFailed)) = 3
status_of (Err (Migration migrate.OutOfMemory)) = 3
status_of (Err (Serving serve.MessageRead)) = 3
status_of (Err (Serving serve.WriteFailed)) = 3
status_of (Err _) = 1

-- The name or the spec was refused.
abbrev pub IsOfWord : Result Done Refusal → Type 0
IsOfWord answer = (answer ≡ Err BadName) ⊎ (answer ≡ Err BadSpec)

-- The answer's line was written, and the status is the answer's; or the output failed, and the status is 3.
abbrev pub ReportsRequest : Result Done Refusal → Taken → Taken → ℕ → Type 0
ReportsRequest answer old new status =
    ((status ≡ status_of answer) × WritesText (answer_line answer) old new) ⊎ ((status ≡ 3) × Fails old new)

-- How serving ended was reported on the output for errors. At the input's end that is nothing, with status 0. Before,
-- it is the refusal's line, unless this output failed, and the status is the refusal's.
abbrev pub ReportsServing : Result ℕ Refusal → Taken → Taken → ℕ → Type 0
ReportsServing (Ok replies) old new status = (status ≡ 0) × (new ≡ old)
ReportsServing (Err refusal) old new status = (status ≡ status_of (Err refusal))
    × (WritesText (answer_line (Err refusal)) old new ⊎ Fails old new)
