use Rattle.std.proofs.Common.{◌∙◌}
use Rattle.weak_commands.proofs.Numerals.{number_parsed}
use Rattle.weak_commands.proofs.places.number_in.Goals as goal

pub returns : goal.returns
returns c = c.ok.ensures.value ∙ number_parsed 64 16 c.args.digits.now c.from_str_radix.result c.from_str_radix.ensures.value
