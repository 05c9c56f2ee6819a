use Rattle.std.proofs.Common.{◌∙◌}
use Rattle.command_line.proofs.Numerals.{number_parsed}
use Rattle.command_line.proofs.numbers.number_in.Goals as goal

pub returns : goal.returns
returns c = c.ok.ensures.value ∙ number_parsed 64 c.args.radix c.args.digits.now c.from_str_radix.result c.from_str_radix.ensures.value
