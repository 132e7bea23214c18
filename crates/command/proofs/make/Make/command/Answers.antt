use Rattle.std.proofs.Common.{rules, ap, ap₂, codes, false, ◌≡◌, ◌∙◌}
use Rattle.std.proofs.lemmas.Result.{IfOk-weaker}
use Rattle.clap.specs.Simple.{app_of_fields}
use Rattle.clap.specs.Words.{App, app_of, new_app, rule_of, with_rule, with_subcommand}
use Rattle.command.specs.Argument.{default_rule, random_rule, required_rule}
use Rattle.command.specs.Make.{default_format}
use Rattle.command.proofs.make.Make.command.Goals as goal

pub returns : goal.returns
returns c =
    let state_is : rule_of c.required.result ≡ required_rule (codes "STATE") = search rules in
    let public_is : rule_of c.required-2.result ≡ required_rule (codes "PUBLIC") = search rules in
    let spec_is : rule_of c.required-3.result ≡ required_rule (codes "SPEC") = search rules in
    let format_is : rule_of c.option_or.result ≡ default_rule (codes "format") default_format = search rules in
    let random_is : rule_of c.random_file.result ≡ random_rule = search rules in
    let bare_is : app_of c.after_help.result ≡ new_app (codes "make") =
    ap app_of_fields c.after_help.ensures ∙ ap app_of_fields c.about.ensures ∙ c.new.ensures.app in
    let state_added = c.in_ok-arg.ensures.shape (search rules) ∙ ap₂ with_rule bare_is state_is in
    let public_added = c.in_ok-arg-2.ensures.shape (search rules) ∙ ap₂ with_rule state_added public_is in
    let spec_added = c.in_ok-arg-3.ensures.shape (search rules) ∙ ap₂ with_rule public_added spec_is in
    let format_added = c.in_ok-arg-4.ensures.shape (search rules) ∙ ap₂ with_rule spec_added format_is in
    let local : c.random_file.result.global ≡ false = search rules in
    IfOk-weaker c.arg-5.result _ _ (λ command added old new adds.
    adds.shape (search (rules, added.globals)) ∙ ap (λ (a : App). with_subcommand (app_of old) a.top) (added.shape local ∙ ap₂ with_rule format_added random_is)) c.arg-5.ensures
