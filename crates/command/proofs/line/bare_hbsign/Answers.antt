use Rattle.std.proofs.Common.{ap, ◌∙◌, true}
use Rattle.clap.specs.Simple.{App, app_of_fields}
use Rattle.command.proofs.line.bare_hbsign.Goals as goal

-- what each setting changes in the command
abbrev with_version : App → App
with_version app = record app { top = record app.top { has_version = true } }

abbrev without_binary_name : App → App
without_binary_name app = record app { top = record app.top { no_binary_name = true } }

abbrev requiring_a_subcommand : App → App
requiring_a_subcommand app = record app { top = record app.top { subcommand_required = true } }

abbrev with_help_for_no_words : App → App
with_help_for_no_words app = record app { top = record app.top { arg_required_else_help = true } }

pub returns : goal.returns
returns c =
    let named = ap app_of_fields c.in_ok-bin_name.ensures.0 ∙ c.new.ensures.app in
    let described = ap app_of_fields c.about.ensures ∙ named in
    let explained = ap app_of_fields c.after_help.ensures ∙ described in
    let versioned = ap app_of_fields c.version.ensures ∙ ap with_version explained in
    let without_name = ap app_of_fields c.no_binary_name.ensures ∙ ap without_binary_name versioned in
    let with_subcommand = ap app_of_fields c.subcommand_required.ensures ∙ ap requiring_a_subcommand without_name in
    ap app_of_fields c.arg_required_else_help.ensures ∙ ap with_help_for_no_words with_subcommand
