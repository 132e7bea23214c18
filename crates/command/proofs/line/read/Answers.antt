use Rattle.std.proofs.Common.{ap, ◌∙◌, map, sym, subst}
use Rattle.clap.specs.Words.{HasKind, fault_of, is_simple, is_simple_and_free, subcommand_of}
use Rattle.command.specs.Line.{hbsign_app, task_found}
use Rattle.command.specs.inner.Line.{task_or_fault}
use Rattle.command.proofs.Finding.{handed_err, usage_kind_is, or_others}
use Rattle.command.proofs.Walking.{simple, simple_and_free}
use Rattle.command.proofs.line.read.Goals as goal

pub returns-in_err-matches-clause-err : goal.returns-in_err-matches-clause-err
returns-in_err-matches-clause-err g c =
    let built = c.in_ok-command.ensures in
    let has = c.in_err-matches.ensures.kinds (ap is_simple_and_free built ∙ simple_and_free) in
    let error = c.in_err-matches.field-0.0 in
    handed_err c.from_residual-in_err-matches.result error _ c.from_residual-in_err-matches.ensures.1
    (or_others (fault_of hbsign_app (map g.S.AsStr.text c.args.words.now)) _ error (subst (λ app. HasKind (fault_of app (map g.S.AsStr.text c.args.words.now)) error) built has))

pub returns-in-Ok-clause-ok : goal.returns-in-Ok-clause-ok
returns-in-Ok-clause-ok g c =
    let built = c.in_ok-command.ensures in
    ap (λ app. fault_of app (map g.S.AsStr.text c.args.words.now)) (sym built) ∙ c.in_ok-matches.ensures.kinds (ap is_simple_and_free built ∙ simple_and_free)

pub returns-in-Ok-clause-found : goal.returns-in-Ok-clause-found
returns-in-Ok-clause-found g c =
    let words = map g.S.AsStr.text c.args.words.now in
    let built = c.in_ok-command.ensures in
    let rows = (c.in_ok-matches.ensures.ok.2 (ap is_simple built ∙ simple)).1 in
    sym (ap task_found (rows ∙ ap (λ app. subcommand_of app words) built)) ∙ sym c.in_ok-request.ensures ∙ ap task_or_fault c.in-Ok.is

pub returns-clause-err : goal.returns-clause-err
returns-clause-err g c =
    let words = map g.S.AsStr.text c.args.words.now in
    let built = c.in_ok-command.ensures in
    let none = ap (λ app. fault_of app words) (sym built) ∙ c.in_ok-matches.ensures.kinds (ap is_simple_and_free built ∙ simple_and_free) in
    let rows = (c.in_ok-matches.ensures.ok.2 (ap is_simple built ∙ simple)).1 in
    let found = sym (ap task_found (rows ∙ ap (λ app. subcommand_of app words) built)) ∙ sym c.in_ok-request.ensures ∙ ap task_or_fault c.in-Err.is in
    usage_kind_is _ _ c.in-Err.fault c.in_ok-error-in-Err.field-0 none found (c.in_ok-error-in-Err.ensures.kind ∙ c.kind.ensures)
