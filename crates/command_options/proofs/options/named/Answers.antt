use Rattle.std.proofs.Common.{ap, find, sym}
use Rattle.std.specs.Str.{bytes_eq}
use Rattle.command_options.proofs.options.named.Goals as goal

pub loop-rest-init : goal.loop-rest-init
loop-rest-init c = ap (find (λ s. bytes_eq s.0.now c.args.name.now)) (sym c.subcommands-rest.ensures)
