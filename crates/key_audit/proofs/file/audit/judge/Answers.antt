use Rattle.std.proofs.Common.{◌-◌, sym, ap, subst}
use Rattle.key_audit.specs.Audit.{Reports}
use Rattle.key_audit.specs.inner.Audit.{JudgesReplay}
use Rattle.key_audit.proofs.Audits.{accepted, is_fault_of, no_anchor, no_ledger, no_tag}
use Rattle.key_audit.proofs.file.audit.judge.Goals as goal

pub returns-in_err-ledger : goal.returns-in_err-ledger
returns-in_err-ledger g c =
    let answer = is_fault_of c.from_residual.result c.in_err-ledger.field-0.0 c.from_residual.ensures.1 in
    subst (JudgesReplay g.D.Disk c.args.store.now c.args.store.now c.args.replay c.args.anchor) (sym answer)
    (no_ledger g.D.Disk (λ on honest. g.met.D.Disk.gives_bytes on honest) c.args.store.now
    (λ content honest since. g.met.D.Disk.only_now c.args.store.now.disk content honest since) c.args.anchor c.in_err-ledger.field-0.0 c.args.replay
    c.requires.running c.requires.taken c.in_err-ledger.ensures.refused)

pub returns-in_err-check_anchor : goal.returns-in_err-check_anchor
returns-in_err-check_anchor g c =
    let answer = is_fault_of c.from_residual-in_err-check_anchor.result c.in_err-check_anchor.field-0.0 c.from_residual-in_err-check_anchor.ensures.1 in
    subst (JudgesReplay g.D.Disk c.args.store.now c.check_anchor.new.store c.args.replay c.args.anchor) (sym answer)
    (no_anchor g.D.Disk (λ on honest. g.met.D.Disk.gives_bytes on honest) c.args.store.now c.check_anchor.new.store c.args.anchor _ c.args.replay
    c.requires.taken c.in_ok-ledger.ensures.legal c.in_err-check_anchor.ensures)

pub returns-in_err-tag : goal.returns-in_err-tag
returns-in_err-tag g c =
    let answer = is_fault_of c.from_residual-in_err-tag.result c.in_err-tag.field-0.0 c.from_residual-in_err-tag.ensures.1 in
    subst (JudgesReplay g.D.Disk c.args.store.now c.read_tag.new.store c.args.replay c.args.anchor) (sym answer)
    (no_tag g.D.Disk (λ on honest. g.met.D.Disk.gives_bytes on honest) c.args.store.now c.check_anchor.new.store c.read_tag.new.store c.args.anchor _ _
    c.args.replay _ c.requires.taken c.in_ok-check_anchor.ensures c.in_err-tag.ensures)

pub returns : goal.returns
returns g c =
    accepted g.D.Disk (λ on honest. g.met.D.Disk.gives_bytes on honest) c.args.store.now c.check_anchor.new.store c.read_tag.new.store c.args.anchor _
    c.args.replay _ c.in_ok-tag.tag c.report_of.result c.requires.running c.requires.taken c.in_ok-ledger.ensures.legal
    c.in_ok-check_anchor.ensures c.in_ok-tag.ensures (ap (λ n. n - 1) c.count-last.ensures)
    (subst (λ l. Reports l c.report_of.result) c.in_ok-ledger.ensures.records c.report_of.ensures.reports) c.report_of.ensures.tag
