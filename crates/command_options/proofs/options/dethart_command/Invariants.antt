use Rattle.std.proofs.Common.{length, map}
use Rattle.clap.specs.Words.{with_subcommand}
use Rattle.command_options.specs.Options.{app_told, bare_app, subcommand_told, subcommands}
use Rattle.command_options.proofs.Chains.{Grows}
use Rattle.command_options.proofs.options.dethart_command.Given as goal

abbrev pub invariant-loop-rest : goal.invariant-loop-rest
invariant-loop-rest l = Grows (λ app s. with_subcommand app (app_told s).top) bare_app l.command subcommands (map subcommand_told l.rest)

abbrev pub decreases-loop-rest : goal.decreases-loop-rest
decreases-loop-rest l = length l.rest
