use Rattle.std.proofs.Common.{ap, ◌∙◌}
use Rattle.std.proofs.lemmas.Result.{IfOk-weaker}
use Rattle.clap.specs.Words.{with_subcommand}
use Rattle.command.specs.Audit.{audit_app}
use Rattle.command.specs.AuditGiven.{audit_given_app}
use Rattle.command.specs.ListState.{list_app}
use Rattle.command.specs.Make.{make_app}
use Rattle.command.specs.Migrate.{migrate_app}
use Rattle.command.specs.Public.{public_app}
use Rattle.command.specs.Retire.{retire_app}
use Rattle.command.specs.Serve.{serve_app}
use Rattle.command.specs.Sign.{sign_app}
use Rattle.command.specs.Verify.{verify_app}
use Rattle.command.proofs.line.hbsign.Goals as goal

pub returns : goal.returns
returns c =
    let make_is = c.in_ok-command.ensures c.in_ok-bare_hbsign.field-0 c.in_ok-subcommand.field-0 c.in_ok-subcommand.ensures
    ∙ ap (λ a. with_subcommand a make_app.top) c.in_ok-bare_hbsign.ensures in
    let sign_is = c.in_ok-command-2.ensures c.in_ok-subcommand.field-0 c.in_ok-subcommand-2.field-0 c.in_ok-subcommand-2.ensures
    ∙ ap (λ a. with_subcommand a sign_app.top) make_is in
    let verify_is = c.in_ok-command-3.ensures c.in_ok-subcommand-2.field-0 c.in_ok-subcommand-3.field-0 c.in_ok-subcommand-3.ensures
    ∙ ap (λ a. with_subcommand a verify_app.top) sign_is in
    let retire_is = c.in_ok-command-4.ensures c.in_ok-subcommand-3.field-0 c.in_ok-subcommand-4.field-0 c.in_ok-subcommand-4.ensures
    ∙ ap (λ a. with_subcommand a retire_app.top) verify_is in
    let audit_is = c.in_ok-command-5.ensures c.in_ok-subcommand-4.field-0 c.in_ok-subcommand-5.field-0 c.in_ok-subcommand-5.ensures
    ∙ ap (λ a. with_subcommand a audit_app.top) retire_is in
    let given_is = c.in_ok-command-6.ensures c.in_ok-subcommand-5.field-0 c.in_ok-subcommand-6.field-0 c.in_ok-subcommand-6.ensures
    ∙ ap (λ a. with_subcommand a audit_given_app.top) audit_is in
    let serve_is = c.in_ok-command-7.ensures c.in_ok-subcommand-6.field-0 c.in_ok-subcommand-7.field-0 c.in_ok-subcommand-7.ensures
    ∙ ap (λ a. with_subcommand a serve_app.top) given_is in
    let migrate_is = c.in_ok-command-8.ensures c.in_ok-subcommand-7.field-0 c.in_ok-subcommand-8.field-0 c.in_ok-subcommand-8.ensures
    ∙ ap (λ a. with_subcommand a migrate_app.top) serve_is in
    let list_is = c.in_ok-command-9.ensures c.in_ok-subcommand-8.field-0 c.in_ok-subcommand-9.field-0 c.in_ok-subcommand-9.ensures
    ∙ ap (λ a. with_subcommand a list_app.top) migrate_is in
    IfOk-weaker c.subcommand-10.result _ _ (λ command adds.
    c.in_ok-command-10.ensures c.in_ok-subcommand-9.field-0 command adds ∙ ap (λ a. with_subcommand a public_app.top) list_is) c.subcommand-10.ensures
