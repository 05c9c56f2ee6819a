use Rattle.std.proofs.Common.{◌∙◌, ap, sym}
use Rattle.hart_step.specs.DecodedCode.{decoded, instr_in}
use Rattle.execution.proofs.step.instruction_at.Goals as goal

pub returns-in-Some : goal.returns-in-Some
unfolding decoded
returns-in-Some c = c.decode.ensures ∙ ap instr_in (sym c.in-Some.is ∙ c.fetch.ensures)

pub returns-in-None : goal.returns-in-None
unfolding decoded
returns-in-None c = ap instr_in (sym c.in-None.is ∙ c.fetch.ensures)
