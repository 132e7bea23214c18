-- Which records an audit accepts, and which anchors they fit then.
use Rattle.std.proofs.Common.{◌≡◌, ℕ, inl, inr, true, List, length, Some, None, Err, Option}
use Rattle.std.proofs.Common.{sym, ap, ◌∙◌, arith, true≢false, length-append, length-take-le}
use Rattle.state_file.specs.declared.record.Record.{Record}
use Rattle.state_file.specs.Laws.{IsLegal}
use Rattle.sign_core.proofs.records.FirstIllegal.{none_from_legal}
use Rattle.key_audit.specs.declared.report.Anchor.{Anchor}
use Rattle.key_audit.specs.declared.report.AuditFault.{AuditFault}
use Rattle.key_audit.specs.declared.report.AuditFault.TheVariants.{Stopped, NoKey, Damaged, Illegal, DeviceFailed, OutOfMemory, AnchorCount, AnchorTag}
use Rattle.key_audit.specs.Audit.{AreTags, AuditLaw, IsBeyond, IsOutsideRecords, IsTagged, AnchorFits, Judges}
use Rattle.key_audit.specs.Tags.{IsTag}
use Rattle.key_audit.proofs.Audits.{some_legal}
use Rattle.key_audit.proofs.Tags.{tag_law}

within_or_beyond : (anchor : Option Anchor) (records : List Record) → AnchorFits anchor records → IsBeyond anchor records → ⊥
within_or_beyond None records within beyond = beyond
within_or_beyond (Some anchor) records within (inl none) = omega (arith, within.0, none)
within_or_beyond (Some anchor) records within (inr within_limit) = omega (arith, within.1, within_limit)

none_or_some : {k : ℕ} → ◌≡◌ {A = Option ℕ} None (Some k) → ⊥
none_or_some is = absurd cc

accepted_else : (records : List Record) (anchor : Option Anchor) (fault : AuditFault) → IsLegal records → AnchorFits anchor records
    → IsTagged (IsTag records) anchor → Judges true records anchor (Err fault) → AreTags (IsTag records) anchor (Err fault) → IsOutsideRecords fault
accepted_else records anchor Stopped legal within tagged judges tags = tt
accepted_else records anchor DeviceFailed legal within tagged judges tags = tt
accepted_else records anchor OutOfMemory legal within tagged judges tags = tt
accepted_else records anchor NoKey legal within tagged judges tags = omega (arith, some_legal records legal, ap length judges)
accepted_else records anchor (Damaged k) legal within tagged judges tags = true≢false judges.0
accepted_else records anchor (Illegal k) legal within tagged judges tags = none_or_some (sym (none_from_legal records legal) ∙ judges)
accepted_else records anchor AnchorCount legal within tagged judges tags = within_or_beyond anchor records within judges.1
accepted_else records anchor AnchorTag legal within tagged judges tags = tags tagged

pub audit_law : AuditLaw
audit_law = record {
  accepts = accepted_else;
  anchors = λ honest records more anchor report judges tags.
      let some = some_legal records judges.0 in
      let count = judges.2.count in (
        (omega (arith, some, count), omega (arith, count, length-append records more)),
        tag_law.lasts records more _ report.tag tags.0,
      );
  put_back = λ honest records anchor report n judges fewer.
      let count = judges.2.count in
      inr (omega (arith, count, fewer, length-take-le n records (omega (arith, fewer))));
}
