use Rattle.std.proofs.Common.{◌∙◌, subst}
use Rattle.clap.specs.Words.{found_of}
use Rattle.command.specs.AuditGiven.{IsAuditGiven}
use Rattle.command.proofs.Finding.{fixed_task, given_found, given_missing, met_task}
use Rattle.command.proofs.line.find_request.Goals as goal

pub returns-in-Ok : goal.returns-in-Ok
returns-in-Ok c =
    let found = found_of c.in-Some.words.now in
    given_found c.in-Some.name.now found c.in-Ok.words c.in-text.is (subst (IsAuditGiven _ _) c.in-Ok.is c.in_ok-words-in-text.ensures)
    ∙ met_task c.args.matches.now c.in-Some.name.now found c.in-Some.ensures.name c.in-Some.ensures.rows

pub returns-in-Err : goal.returns-in-Err
returns-in-Err c =
    let found = found_of c.in-Some.words.now in
    given_missing c.in-Some.name.now found c.in-Err.fault c.in-text.is (subst (IsAuditGiven _ _) c.in-Err.is c.in_ok-words-in-text.ensures)
    ∙ met_task c.args.matches.now c.in-Some.name.now found c.in-Some.ensures.name c.in-Some.ensures.rows

pub returns-in_default-name : goal.returns-in_default-name
returns-in_default-name c =
    let found = found_of c.in-Some.words.now in
    c.find_fixed_request.ensures ∙ fixed_task c.in-Some.name.now found c.in_default-name.not-text
    ∙ met_task c.args.matches.now c.in-Some.name.now found c.in-Some.ensures.name c.in-Some.ensures.rows
