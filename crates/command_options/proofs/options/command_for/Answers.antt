use Rattle.std.proofs.Common.{◌∙◌, ap, map}
use Rattle.std.proofs.lemmas.Result.{IfOk-weaker}
use Rattle.clap.specs.Words.{App, AddsSubcommand, with_subcommand}
use Rattle.command_options.specs.Options.{app_told, dethart_app, subcommand_told}
use Rattle.command_options.proofs.Chains.{one_subcommand}
use Rattle.command_options.proofs.Naming.{all_read, named_line, one, with_app}
use Rattle.command_options.proofs.options.command_for.Goals as goal

pub returns-in_ok-told-in-Some : goal.returns-in_ok-told-in-Some
returns-in_ok-told-in-Some c =
    let s = subcommand_told c.in-Some.subcommand.now in
    let bare = c.bare_command.result in
    let sub = c.in_ok-told-in-Some.field-0 in
    with_app _ c.subcommand.result (one s) (named_line c.args.words.now s c.in-len2-up.len_at_least c.in-Some.ensures)
    (IfOk-weaker c.subcommand.result (AddsSubcommand bare sub) _
    (λ new added. (one_subcommand bare sub new (app_told s) c.bare_command.ensures.local c.in_ok-told-in-Some.ensures.app c.in_ok-told-in-Some.ensures.local added).shape
    ∙ ap (λ (a : App). with_subcommand a (app_told s).top) c.bare_command.ensures.app) c.subcommand.ensures)

pub returns-in-None : goal.returns-in-None
returns-in-None c = with_app _ c.dethart_command-in-None.result dethart_app (all_read (map (λ s. s.now) c.args.words.now)) c.dethart_command-in-None.ensures

pub returns-in_default : goal.returns-in_default
returns-in_default c = with_app _ c.dethart_command.result dethart_app (all_read (map (λ s. s.now) c.args.words.now)) c.dethart_command.ensures
