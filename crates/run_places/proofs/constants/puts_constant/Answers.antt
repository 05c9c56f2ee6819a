use Rattle.std.proofs.Common.{sym, ◌∙◌}
use Rattle.std.proofs.lemmas.Bool.{eqb-true}
use Rattle.run_places.proofs.Puts.{addi_puts}
use Rattle.run_places.proofs.constants.puts_constant.Goals as goal

pub returns-in-Addi : goal.returns-in-Addi
returns-in-Addi c = λ is. addi_puts c.args.i.now c.in-Addi.rd c.in-Addi.rs1 c.in-Addi.imm c.in-Addi.is (sym c.index.ensures.value ∙ eqb-true c.index.result 0 is)
