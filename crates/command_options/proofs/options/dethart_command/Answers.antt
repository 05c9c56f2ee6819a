use Rattle.std.proofs.Common.{◌∙◌, ap}
use Rattle.clap.specs.Words.{app_of, with_subcommand}
use Rattle.command_options.specs.Options.{app_told, bare_app, subcommand_told, subcommands, with_subcommands}
use Rattle.command_options.proofs.Chains.{grows, one_subcommand}
use Rattle.command_options.proofs.options.dethart_command.Goals as goal

pub loop-rest-init : goal.loop-rest-init
loop-rest-init c = record {
  app = ap (with_subcommands (app_of c.bare_command-command.result)) c.subcommands-rest.ensures ∙ ap (λ a. with_subcommands a subcommands) c.bare_command-command.ensures.app;
  local = c.bare_command-command.ensures.local;
}

pub loop-rest-preserved : goal.loop-rest-preserved
loop-rest-preserved c =
    grows subcommand_told (λ app s. with_subcommand app (app_told s).top) bare_app c.loop-rest.command c.in_ok-command.command subcommands c.loop-rest.rest.now _
    c.in-len1-up.len_at_least c.loop-rest.invariant
    (one_subcommand c.loop-rest.command c.in_ok-told.field-0 c.in_ok-command.command _ c.loop-rest.invariant.local c.in_ok-told.ensures.app c.in_ok-told.ensures.local c.in_ok-command.ensures)
