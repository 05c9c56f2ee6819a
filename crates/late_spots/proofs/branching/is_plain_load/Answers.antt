use Rattle.std.proofs.Common.{ap}
use Rattle.rv64_decode.specs.declared.instruction.Instr.{Instr}
use Rattle.hart_step.specs.Effect.{action}
use Rattle.late_spots.proofs.branching.is_plain_load.Goals as goal

pub returns-in-Lb : goal.returns-in-Lb
returns-in-Lb c = λ held x pc. (_, _, _, _, ap (λ (j : Instr). action j x pc) c.in-Lb.is)

pub returns-in-Lh : goal.returns-in-Lh
returns-in-Lh c = λ held x pc. (_, _, _, _, ap (λ (j : Instr). action j x pc) c.in-Lh.is)

pub returns-in-Lw : goal.returns-in-Lw
returns-in-Lw c = λ held x pc. (_, _, _, _, ap (λ (j : Instr). action j x pc) c.in-Lw.is)

pub returns-in-Ld : goal.returns-in-Ld
returns-in-Ld c = λ held x pc. (_, _, _, _, ap (λ (j : Instr). action j x pc) c.in-Ld.is)

pub returns-in-Lbu : goal.returns-in-Lbu
returns-in-Lbu c = λ held x pc. (_, _, _, _, ap (λ (j : Instr). action j x pc) c.in-Lbu.is)

pub returns-in-Lhu : goal.returns-in-Lhu
returns-in-Lhu c = λ held x pc. (_, _, _, _, ap (λ (j : Instr). action j x pc) c.in-Lhu.is)

pub returns-in-Lwu : goal.returns-in-Lwu
returns-in-Lwu c = λ held x pc. (_, _, _, _, ap (λ (j : Instr). action j x pc) c.in-Lwu.is)
