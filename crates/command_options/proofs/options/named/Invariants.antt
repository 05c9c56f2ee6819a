use Rattle.std.proofs.Common.{◌≡◌, find, length, map}
use Rattle.std.specs.Str.{bytes_eq}
use Rattle.command_options.specs.Options.{named, subcommand_told}
use Rattle.command_options.proofs.options.named.Given as goal

-- none before these has the name
abbrev pub invariant-loop-rest : goal.invariant-loop-rest
invariant-loop-rest l = named l.name ≡ find (λ s. bytes_eq s.0.now l.name) (map subcommand_told l.rest)

abbrev pub decreases-loop-rest : goal.decreases-loop-rest
decreases-loop-rest l = length l.rest
