use Rattle.std.proofs.Common.{◌∙◌, ap, true}
use Rattle.clap.specs.Simple.{app_of_fields}
use Rattle.clap.specs.Words.{App}
use Rattle.command_options.proofs.options.bare_command.Goals as goal

pub returns-clause-app : goal.returns-clause-app
returns-clause-app c =
    let wanting : App → App = λ a. record { top = record a.top { has_version = true; subcommand_required = true; disable_help_subcommand = true }; subs = a.subs } in
    ap app_of_fields c.disable_help_subcommand.ensures
    ∙ (ap (λ f. app_of_fields (record f { disable_help_subcommand = true })) c.subcommand_required.ensures
    ∙ (ap (λ f. app_of_fields (record f { subcommand_required = true; disable_help_subcommand = true })) c.version.ensures
    ∙ ap wanting c.new_command.ensures.app))

pub returns-clause-local : goal.returns-clause-local
returns-clause-local c =
    ap (λ f. f.has_globals) c.disable_help_subcommand.ensures ∙ (ap (λ f. f.has_globals) c.subcommand_required.ensures
    ∙ (ap (λ f. f.has_globals) c.version.ensures ∙ c.new_command.ensures.local))
