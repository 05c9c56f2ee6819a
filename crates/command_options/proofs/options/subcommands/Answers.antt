use Rattle.std.proofs.Common.{◌∙◌, ap, map, refl}
use Rattle.command_options.specs.Options.{subcommand_told, subcommands}
use Rattle.command_options.proofs.options.subcommands.Goals as goal

pub returns : goal.returns
unfolding subcommands
returns c = ap (map subcommand_told) c.as_slice.ensures ∙ refl
