use Rattle.std.proofs.Common.{rules, ◌≡◌, ◌∙◌, Err, sym, subst}
use Rattle.key_audit.specs.Audit.{Audits}
use Rattle.key_audit.proofs.Audits.{audited_after, loaded_there, not_loaded}
use Rattle.key_audit.proofs.file.audit.audit.Goals as goal

pub returns-in_err-load_into : goal.returns-in_err-load_into
returns-in_err-load_into g c =
    let answer : c.from_residual.result ≡ Err c.in_err-load_into.field-0.0 = search rules in
    subst (Audits g.D.Disk c.args.store.now c.load_into.new.store c.args.anchor) (sym answer)
    (not_loaded g.D.Disk (λ on honest. g.met.D.Disk.gives_bytes on honest) c.args.store.now c.load_into.new.store c.args.anchor _
    c.in_err-load_into.ensures.reads c.in_err-load_into.ensures.refused)

pub judge-requires-clause-running : goal.judge-requires-clause-running
judge-requires-clause-running g c = c.in_ok-load_into.ensures.reads.stopped ∙ c.in_ok-load_into.ensures.reads.was_stopped

pub judge-requires-clause-taken : goal.judge-requires-clause-taken
judge-requires-clause-taken g c =
    loaded_there g.D.Disk c.args.store.now c.load_into.new.store _ c.load_into.new.taker c.in_ok-load_into.ensures.reads c.in_ok-load_into.ensures.records

pub returns : goal.returns
returns g c =
    audited_after g.D.Disk (λ on honest. g.met.D.Disk.gives_bytes on honest) c.args.store.now c.load_into.new.store c.judge.new.store c.args.anchor c.judge.result _
    c.load_into.new.taker c.in_ok-load_into.ensures.reads c.in_ok-load_into.ensures.records c.judge.ensures
