use Rattle.std.proofs.Common.{rules, ap, ap₂, codes, false, ◌≡◌, ◌∙◌}
use Rattle.std.proofs.lemmas.Result.{IfOk-weaker}
use Rattle.clap.specs.Simple.{app_of_fields}
use Rattle.clap.specs.Words.{App, app_of, new_app, rule_of, with_rule, with_subcommand}
use Rattle.command.specs.Argument.{optional_rule, required_rule}
use Rattle.command.proofs.list.ListState.command.Goals as goal

pub returns : goal.returns
returns c =
    let file_is : rule_of c.required.result ≡ required_rule (codes "FILE") = search rules in
    let public_is : rule_of c.optional.result ≡ optional_rule (codes "PUBLIC") = search rules in
    let bare_is : app_of c.after_help.result ≡ new_app (codes "list") =
    ap app_of_fields c.after_help.ensures ∙ ap app_of_fields c.about.ensures ∙ c.new.ensures.app in
    let file_added = c.in_ok-arg.ensures.shape (search rules) ∙ ap₂ with_rule bare_is file_is in
    let local : c.optional.result.global ≡ false = search rules in
    IfOk-weaker c.arg-2.result _ _ (λ command added old new adds.
    adds.shape (search (rules, added.globals)) ∙ ap (λ (a : App). with_subcommand (app_of old) a.top) (added.shape local ∙ ap₂ with_rule file_added public_is)) c.arg-2.ensures
