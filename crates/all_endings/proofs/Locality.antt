-- An instruction looks at its source registers alone.
use Rattle.std.proofs.Common.{◌≡◌, ◌≢◌, ℕ, zero, suc, ◌≤◌, length-set, ◌*◌, ◌/◌, ◌%◌, ◌==◌, ◌<◌, ◌⊎◌, Bool, true, false, not, if◌then◌else◌, List, [], ◌∷◌, length, get_or, slice_set, Option, Some, None, is_some, unwrap_or, Result, Ok, Err, bit_and, bit_or, bit_xor, refl, sym, ap, ◌∙◌, subst, inl, inr, arith}
use Rattle.std.proofs.lemmas.Bool.{cases_lt, cases_eq, cond-true, cond-false, eq-eqb, ne_eqb}
use Rattle.std.proofs.lemmas.List.{get_or-set_other, get_or-set_same}
use Rattle.pages.specs.declared.access.Fault.{Fault}
use Rattle.pages.specs.declared.access.Width.{Width}
use Rattle.pages.specs.declared.access.Width.TheVariants.{W1, W2, W4, W8}
use Rattle.pages.specs.Memory.{Memory, value_at, loaded, store_fault}
use Rattle.round_schedule.specs.declared.access.Stepped.TheVariants.{Stopped}
use Rattle.round_schedule.specs.declared.span.Span.{Span}
use Rattle.round_schedule.specs.Schedule.{SerialOutcome, StepOutcome}
use Rattle.rv64_decode.specs.declared.instruction.Instr.{Instr}
use Rattle.rv64_decode.specs.declared.instruction.Instr.TheVariants.{Lui, Auipc, Addi, Slti, Sltiu, Xori, Ori, Andi, Add, Sub, Sll, Slt, Sltu, Xor, Srl, Sra, Or, And, Jal, Jalr, Beq, Bne, Blt, Bge, Bltu, Bgeu, Lb, Lh, Lw, Lbu, Lhu, Sb, Sh, Sw, Fence, Ecall, Ebreak, Slli, Srli, Srai, Addiw, Slliw, Srliw, Sraiw, Addw, Subw, Sllw, Srlw, Sraw, Lwu, Ld, Sd, Mul, Mulh, Mulhsu, Mulhu, Div, Divu, Rem, Remu, Mulw, Divw, Divuw, Remw, Remuw, LrW, LrD, ScW, ScD, AmoswapW, AmoaddW, AmoxorW, AmoandW, AmoorW, AmominW, AmomaxW, AmominuW, AmomaxuW, AmoswapD, AmoaddD, AmoxorD, AmoandD, AmoorD, AmominD, AmomaxD, AmominuD, AmomaxuD}
use Rattle.rv64_decode.specs.declared.ordering.AcquireRelease.{AcquireRelease}
use Rattle.hart_step.specs.declared.hart.Hart.{Hart}
use Rattle.hart_step.specs.Amo.{amo_swap, amo_add, amo_xor, amo_and, amo_or, amo_min, amo_max, amo_minu, amo_maxu}
use Rattle.hart_step.specs.Console.{Answered, ConsoleState}
use Rattle.hart_step.specs.Effect.{Action, Put, Jump, Branch, Read, Write, Order, Halt, Reserve, Conditional, Exchange, Call, action}
use Rattle.hart_step.specs.Numbers.{plus, minus, times, low, sx32, below, below_signed, flag, sll, srl, sra, mulhu_of, mulhsu_of, mulh_of, divu_of, remu_of, div_of, rem_of}
use Rattle.hart_step.specs.Registers.{reg, set_reg}
use Rattle.hart_step.specs.SerialStep.{answered, conditional_by, exchanged_by, is_reserved, reserved_by, returned, served, with_console}
use Rattle.hart_step.specs.Step.{extended_to, jumped, next_pc, read_by, stopped_by, stopped_with, written_by}
use Rattle.memory_order.specs.Registers.{registers_of}
use Rattle.all_endings.specs.Locality.{ActionIsLocal, ActionIsLocalButData, AgreesButData, AgreesOnCalls, DestinationsAreWritten, FilledActs, KnowsButData, Refines, SameStep, SetsRefine, StepIsLocal, both-go, both-stop, filled, set_view, view, without_data, written_register}

-- ---- one action

pub action_local : ActionIsLocal
action_local (Lui rd imm) x y pc a = refl
action_local (Auipc rd imm) x y pc a = refl
action_local (Addi rd rs1 imm) x y pc a = ap (λ (v : ℕ). Put rd (plus v imm)) a.but_data.first
action_local (Slti rd rs1 imm) x y pc a = ap (λ (v : ℕ). Put rd (flag (below_signed v imm))) a.but_data.first
action_local (Sltiu rd rs1 imm) x y pc a = ap (λ (v : ℕ). Put rd (flag (below v imm))) a.but_data.first
action_local (Xori rd rs1 imm) x y pc a = ap (λ (v : ℕ). Put rd (bit_xor v imm)) a.but_data.first
action_local (Ori rd rs1 imm) x y pc a = ap (λ (v : ℕ). Put rd (bit_or v imm)) a.but_data.first
action_local (Andi rd rs1 imm) x y pc a = ap (λ (v : ℕ). Put rd (bit_and v imm)) a.but_data.first
action_local (Add rd rs1 rs2) x y pc a = ap (λ (v : ℕ). Put rd (plus v (reg x rs2))) a.but_data.first ∙ ap (λ (v : ℕ). Put rd (plus (reg y rs1) v)) a.but_data.second
action_local (Sub rd rs1 rs2) x y pc a = ap (λ (v : ℕ). Put rd (minus v (reg x rs2))) a.but_data.first ∙ ap (λ (v : ℕ). Put rd (minus (reg y rs1) v)) a.but_data.second
action_local (Sll rd rs1 rs2) x y pc a = ap (λ (v : ℕ). Put rd (sll v (low 6 (reg x rs2)))) a.but_data.first ∙ ap (λ (v : ℕ). Put rd (sll (reg y rs1) (low 6 v))) a.but_data.second
action_local (Slt rd rs1 rs2) x y pc a = ap (λ (v : ℕ). Put rd (flag (below_signed v (reg x rs2)))) a.but_data.first ∙ ap (λ (v : ℕ). Put rd (flag (below_signed (reg y rs1) v))) a.but_data.second
action_local (Sltu rd rs1 rs2) x y pc a = ap (λ (v : ℕ). Put rd (flag (below v (reg x rs2)))) a.but_data.first ∙ ap (λ (v : ℕ). Put rd (flag (below (reg y rs1) v))) a.but_data.second
action_local (Xor rd rs1 rs2) x y pc a = ap (λ (v : ℕ). Put rd (bit_xor v (reg x rs2))) a.but_data.first ∙ ap (λ (v : ℕ). Put rd (bit_xor (reg y rs1) v)) a.but_data.second
action_local (Srl rd rs1 rs2) x y pc a = ap (λ (v : ℕ). Put rd (srl v (low 6 (reg x rs2)))) a.but_data.first ∙ ap (λ (v : ℕ). Put rd (srl (reg y rs1) (low 6 v))) a.but_data.second
action_local (Sra rd rs1 rs2) x y pc a = ap (λ (v : ℕ). Put rd (sra v (low 6 (reg x rs2)))) a.but_data.first ∙ ap (λ (v : ℕ). Put rd (sra (reg y rs1) (low 6 v))) a.but_data.second
action_local (Or rd rs1 rs2) x y pc a = ap (λ (v : ℕ). Put rd (bit_or v (reg x rs2))) a.but_data.first ∙ ap (λ (v : ℕ). Put rd (bit_or (reg y rs1) v)) a.but_data.second
action_local (And rd rs1 rs2) x y pc a = ap (λ (v : ℕ). Put rd (bit_and v (reg x rs2))) a.but_data.first ∙ ap (λ (v : ℕ). Put rd (bit_and (reg y rs1) v)) a.but_data.second
action_local (Jal rd imm) x y pc a = refl
action_local (Jalr rd rs1 imm) x y pc a = ap (λ (v : ℕ). Jump rd (plus v imm / 2 * 2)) a.but_data.first
action_local (Beq rs1 rs2 imm) x y pc a = ap (λ (v : ℕ). Branch (v == (reg x rs2)) (plus pc imm)) a.but_data.first ∙ ap (λ (v : ℕ). Branch ((reg y rs1) == v) (plus pc imm)) a.but_data.second
action_local (Bne rs1 rs2 imm) x y pc a = ap (λ (v : ℕ). Branch (not (v == (reg x rs2))) (plus pc imm)) a.but_data.first ∙ ap (λ (v : ℕ). Branch (not ((reg y rs1) == v)) (plus pc imm)) a.but_data.second
action_local (Blt rs1 rs2 imm) x y pc a = ap (λ (v : ℕ). Branch (below_signed v (reg x rs2)) (plus pc imm)) a.but_data.first ∙ ap (λ (v : ℕ). Branch (below_signed (reg y rs1) v) (plus pc imm)) a.but_data.second
action_local (Bge rs1 rs2 imm) x y pc a = ap (λ (v : ℕ). Branch (not (below_signed v (reg x rs2))) (plus pc imm)) a.but_data.first ∙ ap (λ (v : ℕ). Branch (not (below_signed (reg y rs1) v)) (plus pc imm)) a.but_data.second
action_local (Bltu rs1 rs2 imm) x y pc a = ap (λ (v : ℕ). Branch (below v (reg x rs2)) (plus pc imm)) a.but_data.first ∙ ap (λ (v : ℕ). Branch (below (reg y rs1) v) (plus pc imm)) a.but_data.second
action_local (Bgeu rs1 rs2 imm) x y pc a = ap (λ (v : ℕ). Branch (not (below v (reg x rs2))) (plus pc imm)) a.but_data.first ∙ ap (λ (v : ℕ). Branch (not (below (reg y rs1) v)) (plus pc imm)) a.but_data.second
action_local (Lb rd rs1 imm) x y pc a = ap (λ (v : ℕ). Read rd (plus v imm) W1 true) a.but_data.address
action_local (Lh rd rs1 imm) x y pc a = ap (λ (v : ℕ). Read rd (plus v imm) W2 true) a.but_data.address
action_local (Lw rd rs1 imm) x y pc a = ap (λ (v : ℕ). Read rd (plus v imm) W4 true) a.but_data.address
action_local (Lbu rd rs1 imm) x y pc a = ap (λ (v : ℕ). Read rd (plus v imm) W1 false) a.but_data.address
action_local (Lhu rd rs1 imm) x y pc a = ap (λ (v : ℕ). Read rd (plus v imm) W2 false) a.but_data.address
action_local (Sb rs1 rs2 imm) x y pc a = ap (λ (v : ℕ). Write (plus v imm) W1 (reg x rs2)) a.but_data.address ∙ ap (λ (v : ℕ). Write (plus (reg y rs1) imm) W1 v) a.value
action_local (Sh rs1 rs2 imm) x y pc a = ap (λ (v : ℕ). Write (plus v imm) W2 (reg x rs2)) a.but_data.address ∙ ap (λ (v : ℕ). Write (plus (reg y rs1) imm) W2 v) a.value
action_local (Sw rs1 rs2 imm) x y pc a = ap (λ (v : ℕ). Write (plus v imm) W4 (reg x rs2)) a.but_data.address ∙ ap (λ (v : ℕ). Write (plus (reg y rs1) imm) W4 v) a.value
action_local (Fence before after mode) x y pc a = refl
action_local Ecall x y pc a = refl
action_local Ebreak x y pc a = refl
action_local (Slli rd rs1 shift) x y pc a = ap (λ (v : ℕ). Put rd (sll v (low 6 shift))) a.but_data.first
action_local (Srli rd rs1 shift) x y pc a = ap (λ (v : ℕ). Put rd (srl v (low 6 shift))) a.but_data.first
action_local (Srai rd rs1 shift) x y pc a = ap (λ (v : ℕ). Put rd (sra v (low 6 shift))) a.but_data.first
action_local (Addiw rd rs1 imm) x y pc a = ap (λ (v : ℕ). Put rd (sx32 (plus v imm))) a.but_data.first
action_local (Slliw rd rs1 shift) x y pc a = ap (λ (v : ℕ). Put rd (sx32 (sll v (low 5 shift)))) a.but_data.first
action_local (Srliw rd rs1 shift) x y pc a = ap (λ (v : ℕ). Put rd (sx32 (srl (low 32 v) (low 5 shift)))) a.but_data.first
action_local (Sraiw rd rs1 shift) x y pc a = ap (λ (v : ℕ). Put rd (sx32 (sra (sx32 v) (low 5 shift)))) a.but_data.first
action_local (Addw rd rs1 rs2) x y pc a = ap (λ (v : ℕ). Put rd (sx32 (plus v (reg x rs2)))) a.but_data.first ∙ ap (λ (v : ℕ). Put rd (sx32 (plus (reg y rs1) v))) a.but_data.second
action_local (Subw rd rs1 rs2) x y pc a = ap (λ (v : ℕ). Put rd (sx32 (minus v (reg x rs2)))) a.but_data.first ∙ ap (λ (v : ℕ). Put rd (sx32 (minus (reg y rs1) v))) a.but_data.second
action_local (Sllw rd rs1 rs2) x y pc a = ap (λ (v : ℕ). Put rd (sx32 (sll v (low 5 (reg x rs2))))) a.but_data.first ∙ ap (λ (v : ℕ). Put rd (sx32 (sll (reg y rs1) (low 5 v)))) a.but_data.second
action_local (Srlw rd rs1 rs2) x y pc a = ap (λ (v : ℕ). Put rd (sx32 (srl (low 32 v) (low 5 (reg x rs2))))) a.but_data.first ∙ ap (λ (v : ℕ). Put rd (sx32 (srl (low 32 (reg y rs1)) (low 5 v)))) a.but_data.second
action_local (Sraw rd rs1 rs2) x y pc a = ap (λ (v : ℕ). Put rd (sx32 (sra (sx32 v) (low 5 (reg x rs2))))) a.but_data.first ∙ ap (λ (v : ℕ). Put rd (sx32 (sra (sx32 (reg y rs1)) (low 5 v)))) a.but_data.second
action_local (Lwu rd rs1 imm) x y pc a = ap (λ (v : ℕ). Read rd (plus v imm) W4 false) a.but_data.address
action_local (Ld rd rs1 imm) x y pc a = ap (λ (v : ℕ). Read rd (plus v imm) W8 false) a.but_data.address
action_local (Sd rs1 rs2 imm) x y pc a = ap (λ (v : ℕ). Write (plus v imm) W8 (reg x rs2)) a.but_data.address ∙ ap (λ (v : ℕ). Write (plus (reg y rs1) imm) W8 v) a.value
action_local (Mul rd rs1 rs2) x y pc a = ap (λ (v : ℕ). Put rd (times v (reg x rs2))) a.but_data.first ∙ ap (λ (v : ℕ). Put rd (times (reg y rs1) v)) a.but_data.second
action_local (Mulh rd rs1 rs2) x y pc a = ap (λ (v : ℕ). Put rd (mulh_of v (reg x rs2))) a.but_data.first ∙ ap (λ (v : ℕ). Put rd (mulh_of (reg y rs1) v)) a.but_data.second
action_local (Mulhsu rd rs1 rs2) x y pc a = ap (λ (v : ℕ). Put rd (mulhsu_of v (reg x rs2))) a.but_data.first ∙ ap (λ (v : ℕ). Put rd (mulhsu_of (reg y rs1) v)) a.but_data.second
action_local (Mulhu rd rs1 rs2) x y pc a = ap (λ (v : ℕ). Put rd (mulhu_of v (reg x rs2))) a.but_data.first ∙ ap (λ (v : ℕ). Put rd (mulhu_of (reg y rs1) v)) a.but_data.second
action_local (Div rd rs1 rs2) x y pc a = ap (λ (v : ℕ). Put rd (div_of v (reg x rs2))) a.but_data.first ∙ ap (λ (v : ℕ). Put rd (div_of (reg y rs1) v)) a.but_data.second
action_local (Divu rd rs1 rs2) x y pc a = ap (λ (v : ℕ). Put rd (divu_of v (reg x rs2))) a.but_data.first ∙ ap (λ (v : ℕ). Put rd (divu_of (reg y rs1) v)) a.but_data.second
action_local (Rem rd rs1 rs2) x y pc a = ap (λ (v : ℕ). Put rd (rem_of v (reg x rs2))) a.but_data.first ∙ ap (λ (v : ℕ). Put rd (rem_of (reg y rs1) v)) a.but_data.second
action_local (Remu rd rs1 rs2) x y pc a = ap (λ (v : ℕ). Put rd (remu_of v (reg x rs2))) a.but_data.first ∙ ap (λ (v : ℕ). Put rd (remu_of (reg y rs1) v)) a.but_data.second
action_local (Mulw rd rs1 rs2) x y pc a = ap (λ (v : ℕ). Put rd (sx32 (times v (reg x rs2)))) a.but_data.first ∙ ap (λ (v : ℕ). Put rd (sx32 (times (reg y rs1) v))) a.but_data.second
action_local (Divw rd rs1 rs2) x y pc a = ap (λ (v : ℕ). Put rd (sx32 (div_of (sx32 v) (sx32 (reg x rs2))))) a.but_data.first ∙ ap (λ (v : ℕ). Put rd (sx32 (div_of (sx32 (reg y rs1)) (sx32 v)))) a.but_data.second
action_local (Divuw rd rs1 rs2) x y pc a = ap (λ (v : ℕ). Put rd (sx32 (divu_of (low 32 v) (low 32 (reg x rs2))))) a.but_data.first ∙ ap (λ (v : ℕ). Put rd (sx32 (divu_of (low 32 (reg y rs1)) (low 32 v)))) a.but_data.second
action_local (Remw rd rs1 rs2) x y pc a = ap (λ (v : ℕ). Put rd (sx32 (rem_of (sx32 v) (sx32 (reg x rs2))))) a.but_data.first ∙ ap (λ (v : ℕ). Put rd (sx32 (rem_of (sx32 (reg y rs1)) (sx32 v)))) a.but_data.second
action_local (Remuw rd rs1 rs2) x y pc a = ap (λ (v : ℕ). Put rd (sx32 (remu_of (low 32 v) (low 32 (reg x rs2))))) a.but_data.first ∙ ap (λ (v : ℕ). Put rd (sx32 (remu_of (low 32 (reg y rs1)) (low 32 v)))) a.but_data.second
action_local (LrW rd rs1 ordering) x y pc a = ap (λ (v : ℕ). Reserve rd v W4 ordering) a.but_data.address
action_local (LrD rd rs1 ordering) x y pc a = ap (λ (v : ℕ). Reserve rd v W8 ordering) a.but_data.address
action_local (ScW rd rs1 rs2 ordering) x y pc a = ap (λ (v : ℕ). Conditional rd v W4 (reg x rs2) ordering) a.but_data.address ∙ ap (λ (v : ℕ). Conditional rd (reg y rs1) W4 v ordering) a.value
action_local (ScD rd rs1 rs2 ordering) x y pc a = ap (λ (v : ℕ). Conditional rd v W8 (reg x rs2) ordering) a.but_data.address ∙ ap (λ (v : ℕ). Conditional rd (reg y rs1) W8 v ordering) a.value
action_local (AmoswapW rd rs1 rs2 ordering) x y pc a = ap (λ (v : ℕ). Exchange rd v W4 (λ o. amo_swap 32 o (reg x rs2)) ordering) a.but_data.address ∙ ap (λ (v : ℕ). Exchange rd (reg y rs1) W4 (λ o. amo_swap 32 o v) ordering) a.value
action_local (AmoaddW rd rs1 rs2 ordering) x y pc a = ap (λ (v : ℕ). Exchange rd v W4 (λ o. amo_add 32 o (reg x rs2)) ordering) a.but_data.address ∙ ap (λ (v : ℕ). Exchange rd (reg y rs1) W4 (λ o. amo_add 32 o v) ordering) a.value
action_local (AmoxorW rd rs1 rs2 ordering) x y pc a = ap (λ (v : ℕ). Exchange rd v W4 (λ o. amo_xor 32 o (reg x rs2)) ordering) a.but_data.address ∙ ap (λ (v : ℕ). Exchange rd (reg y rs1) W4 (λ o. amo_xor 32 o v) ordering) a.value
action_local (AmoandW rd rs1 rs2 ordering) x y pc a = ap (λ (v : ℕ). Exchange rd v W4 (λ o. amo_and 32 o (reg x rs2)) ordering) a.but_data.address ∙ ap (λ (v : ℕ). Exchange rd (reg y rs1) W4 (λ o. amo_and 32 o v) ordering) a.value
action_local (AmoorW rd rs1 rs2 ordering) x y pc a = ap (λ (v : ℕ). Exchange rd v W4 (λ o. amo_or 32 o (reg x rs2)) ordering) a.but_data.address ∙ ap (λ (v : ℕ). Exchange rd (reg y rs1) W4 (λ o. amo_or 32 o v) ordering) a.value
action_local (AmominW rd rs1 rs2 ordering) x y pc a = ap (λ (v : ℕ). Exchange rd v W4 (λ o. amo_min 32 o (reg x rs2)) ordering) a.but_data.address ∙ ap (λ (v : ℕ). Exchange rd (reg y rs1) W4 (λ o. amo_min 32 o v) ordering) a.value
action_local (AmomaxW rd rs1 rs2 ordering) x y pc a = ap (λ (v : ℕ). Exchange rd v W4 (λ o. amo_max 32 o (reg x rs2)) ordering) a.but_data.address ∙ ap (λ (v : ℕ). Exchange rd (reg y rs1) W4 (λ o. amo_max 32 o v) ordering) a.value
action_local (AmominuW rd rs1 rs2 ordering) x y pc a = ap (λ (v : ℕ). Exchange rd v W4 (λ o. amo_minu 32 o (reg x rs2)) ordering) a.but_data.address ∙ ap (λ (v : ℕ). Exchange rd (reg y rs1) W4 (λ o. amo_minu 32 o v) ordering) a.value
action_local (AmomaxuW rd rs1 rs2 ordering) x y pc a = ap (λ (v : ℕ). Exchange rd v W4 (λ o. amo_maxu 32 o (reg x rs2)) ordering) a.but_data.address ∙ ap (λ (v : ℕ). Exchange rd (reg y rs1) W4 (λ o. amo_maxu 32 o v) ordering) a.value
action_local (AmoswapD rd rs1 rs2 ordering) x y pc a = ap (λ (v : ℕ). Exchange rd v W8 (λ o. amo_swap 64 o (reg x rs2)) ordering) a.but_data.address ∙ ap (λ (v : ℕ). Exchange rd (reg y rs1) W8 (λ o. amo_swap 64 o v) ordering) a.value
action_local (AmoaddD rd rs1 rs2 ordering) x y pc a = ap (λ (v : ℕ). Exchange rd v W8 (λ o. amo_add 64 o (reg x rs2)) ordering) a.but_data.address ∙ ap (λ (v : ℕ). Exchange rd (reg y rs1) W8 (λ o. amo_add 64 o v) ordering) a.value
action_local (AmoxorD rd rs1 rs2 ordering) x y pc a = ap (λ (v : ℕ). Exchange rd v W8 (λ o. amo_xor 64 o (reg x rs2)) ordering) a.but_data.address ∙ ap (λ (v : ℕ). Exchange rd (reg y rs1) W8 (λ o. amo_xor 64 o v) ordering) a.value
action_local (AmoandD rd rs1 rs2 ordering) x y pc a = ap (λ (v : ℕ). Exchange rd v W8 (λ o. amo_and 64 o (reg x rs2)) ordering) a.but_data.address ∙ ap (λ (v : ℕ). Exchange rd (reg y rs1) W8 (λ o. amo_and 64 o v) ordering) a.value
action_local (AmoorD rd rs1 rs2 ordering) x y pc a = ap (λ (v : ℕ). Exchange rd v W8 (λ o. amo_or 64 o (reg x rs2)) ordering) a.but_data.address ∙ ap (λ (v : ℕ). Exchange rd (reg y rs1) W8 (λ o. amo_or 64 o v) ordering) a.value
action_local (AmominD rd rs1 rs2 ordering) x y pc a = ap (λ (v : ℕ). Exchange rd v W8 (λ o. amo_min 64 o (reg x rs2)) ordering) a.but_data.address ∙ ap (λ (v : ℕ). Exchange rd (reg y rs1) W8 (λ o. amo_min 64 o v) ordering) a.value
action_local (AmomaxD rd rs1 rs2 ordering) x y pc a = ap (λ (v : ℕ). Exchange rd v W8 (λ o. amo_max 64 o (reg x rs2)) ordering) a.but_data.address ∙ ap (λ (v : ℕ). Exchange rd (reg y rs1) W8 (λ o. amo_max 64 o v) ordering) a.value
action_local (AmominuD rd rs1 rs2 ordering) x y pc a = ap (λ (v : ℕ). Exchange rd v W8 (λ o. amo_minu 64 o (reg x rs2)) ordering) a.but_data.address ∙ ap (λ (v : ℕ). Exchange rd (reg y rs1) W8 (λ o. amo_minu 64 o v) ordering) a.value
action_local (AmomaxuD rd rs1 rs2 ordering) x y pc a = ap (λ (v : ℕ). Exchange rd v W8 (λ o. amo_maxu 64 o (reg x rs2)) ordering) a.but_data.address ∙ ap (λ (v : ℕ). Exchange rd (reg y rs1) W8 (λ o. amo_maxu 64 o v) ordering) a.value

pub action_but_data : ActionIsLocalButData
action_but_data (Lui rd imm) x y pc a = refl
action_but_data (Auipc rd imm) x y pc a = refl
action_but_data (Addi rd rs1 imm) x y pc a = ap (λ (v : ℕ). Put rd (plus v imm)) a.first
action_but_data (Slti rd rs1 imm) x y pc a = ap (λ (v : ℕ). Put rd (flag (below_signed v imm))) a.first
action_but_data (Sltiu rd rs1 imm) x y pc a = ap (λ (v : ℕ). Put rd (flag (below v imm))) a.first
action_but_data (Xori rd rs1 imm) x y pc a = ap (λ (v : ℕ). Put rd (bit_xor v imm)) a.first
action_but_data (Ori rd rs1 imm) x y pc a = ap (λ (v : ℕ). Put rd (bit_or v imm)) a.first
action_but_data (Andi rd rs1 imm) x y pc a = ap (λ (v : ℕ). Put rd (bit_and v imm)) a.first
action_but_data (Add rd rs1 rs2) x y pc a = ap (λ (v : ℕ). Put rd (plus v (reg x rs2))) a.first ∙ ap (λ (v : ℕ). Put rd (plus (reg y rs1) v)) a.second
action_but_data (Sub rd rs1 rs2) x y pc a = ap (λ (v : ℕ). Put rd (minus v (reg x rs2))) a.first ∙ ap (λ (v : ℕ). Put rd (minus (reg y rs1) v)) a.second
action_but_data (Sll rd rs1 rs2) x y pc a = ap (λ (v : ℕ). Put rd (sll v (low 6 (reg x rs2)))) a.first ∙ ap (λ (v : ℕ). Put rd (sll (reg y rs1) (low 6 v))) a.second
action_but_data (Slt rd rs1 rs2) x y pc a = ap (λ (v : ℕ). Put rd (flag (below_signed v (reg x rs2)))) a.first ∙ ap (λ (v : ℕ). Put rd (flag (below_signed (reg y rs1) v))) a.second
action_but_data (Sltu rd rs1 rs2) x y pc a = ap (λ (v : ℕ). Put rd (flag (below v (reg x rs2)))) a.first ∙ ap (λ (v : ℕ). Put rd (flag (below (reg y rs1) v))) a.second
action_but_data (Xor rd rs1 rs2) x y pc a = ap (λ (v : ℕ). Put rd (bit_xor v (reg x rs2))) a.first ∙ ap (λ (v : ℕ). Put rd (bit_xor (reg y rs1) v)) a.second
action_but_data (Srl rd rs1 rs2) x y pc a = ap (λ (v : ℕ). Put rd (srl v (low 6 (reg x rs2)))) a.first ∙ ap (λ (v : ℕ). Put rd (srl (reg y rs1) (low 6 v))) a.second
action_but_data (Sra rd rs1 rs2) x y pc a = ap (λ (v : ℕ). Put rd (sra v (low 6 (reg x rs2)))) a.first ∙ ap (λ (v : ℕ). Put rd (sra (reg y rs1) (low 6 v))) a.second
action_but_data (Or rd rs1 rs2) x y pc a = ap (λ (v : ℕ). Put rd (bit_or v (reg x rs2))) a.first ∙ ap (λ (v : ℕ). Put rd (bit_or (reg y rs1) v)) a.second
action_but_data (And rd rs1 rs2) x y pc a = ap (λ (v : ℕ). Put rd (bit_and v (reg x rs2))) a.first ∙ ap (λ (v : ℕ). Put rd (bit_and (reg y rs1) v)) a.second
action_but_data (Jal rd imm) x y pc a = refl
action_but_data (Jalr rd rs1 imm) x y pc a = ap (λ (v : ℕ). Jump rd (plus v imm / 2 * 2)) a.first
action_but_data (Beq rs1 rs2 imm) x y pc a = ap (λ (v : ℕ). Branch (v == (reg x rs2)) (plus pc imm)) a.first ∙ ap (λ (v : ℕ). Branch ((reg y rs1) == v) (plus pc imm)) a.second
action_but_data (Bne rs1 rs2 imm) x y pc a = ap (λ (v : ℕ). Branch (not (v == (reg x rs2))) (plus pc imm)) a.first ∙ ap (λ (v : ℕ). Branch (not ((reg y rs1) == v)) (plus pc imm)) a.second
action_but_data (Blt rs1 rs2 imm) x y pc a = ap (λ (v : ℕ). Branch (below_signed v (reg x rs2)) (plus pc imm)) a.first ∙ ap (λ (v : ℕ). Branch (below_signed (reg y rs1) v) (plus pc imm)) a.second
action_but_data (Bge rs1 rs2 imm) x y pc a = ap (λ (v : ℕ). Branch (not (below_signed v (reg x rs2))) (plus pc imm)) a.first ∙ ap (λ (v : ℕ). Branch (not (below_signed (reg y rs1) v)) (plus pc imm)) a.second
action_but_data (Bltu rs1 rs2 imm) x y pc a = ap (λ (v : ℕ). Branch (below v (reg x rs2)) (plus pc imm)) a.first ∙ ap (λ (v : ℕ). Branch (below (reg y rs1) v) (plus pc imm)) a.second
action_but_data (Bgeu rs1 rs2 imm) x y pc a = ap (λ (v : ℕ). Branch (not (below v (reg x rs2))) (plus pc imm)) a.first ∙ ap (λ (v : ℕ). Branch (not (below (reg y rs1) v)) (plus pc imm)) a.second
action_but_data (Lb rd rs1 imm) x y pc a = ap (λ (v : ℕ). Read rd (plus v imm) W1 true) a.address
action_but_data (Lh rd rs1 imm) x y pc a = ap (λ (v : ℕ). Read rd (plus v imm) W2 true) a.address
action_but_data (Lw rd rs1 imm) x y pc a = ap (λ (v : ℕ). Read rd (plus v imm) W4 true) a.address
action_but_data (Lbu rd rs1 imm) x y pc a = ap (λ (v : ℕ). Read rd (plus v imm) W1 false) a.address
action_but_data (Lhu rd rs1 imm) x y pc a = ap (λ (v : ℕ). Read rd (plus v imm) W2 false) a.address
action_but_data (Sb rs1 rs2 imm) x y pc a = ap (λ (v : ℕ). without_data (Write (plus v imm) W1 (reg x rs2))) a.address
action_but_data (Sh rs1 rs2 imm) x y pc a = ap (λ (v : ℕ). without_data (Write (plus v imm) W2 (reg x rs2))) a.address
action_but_data (Sw rs1 rs2 imm) x y pc a = ap (λ (v : ℕ). without_data (Write (plus v imm) W4 (reg x rs2))) a.address
action_but_data (Fence before after mode) x y pc a = refl
action_but_data Ecall x y pc a = refl
action_but_data Ebreak x y pc a = refl
action_but_data (Slli rd rs1 shift) x y pc a = ap (λ (v : ℕ). Put rd (sll v (low 6 shift))) a.first
action_but_data (Srli rd rs1 shift) x y pc a = ap (λ (v : ℕ). Put rd (srl v (low 6 shift))) a.first
action_but_data (Srai rd rs1 shift) x y pc a = ap (λ (v : ℕ). Put rd (sra v (low 6 shift))) a.first
action_but_data (Addiw rd rs1 imm) x y pc a = ap (λ (v : ℕ). Put rd (sx32 (plus v imm))) a.first
action_but_data (Slliw rd rs1 shift) x y pc a = ap (λ (v : ℕ). Put rd (sx32 (sll v (low 5 shift)))) a.first
action_but_data (Srliw rd rs1 shift) x y pc a = ap (λ (v : ℕ). Put rd (sx32 (srl (low 32 v) (low 5 shift)))) a.first
action_but_data (Sraiw rd rs1 shift) x y pc a = ap (λ (v : ℕ). Put rd (sx32 (sra (sx32 v) (low 5 shift)))) a.first
action_but_data (Addw rd rs1 rs2) x y pc a = ap (λ (v : ℕ). Put rd (sx32 (plus v (reg x rs2)))) a.first ∙ ap (λ (v : ℕ). Put rd (sx32 (plus (reg y rs1) v))) a.second
action_but_data (Subw rd rs1 rs2) x y pc a = ap (λ (v : ℕ). Put rd (sx32 (minus v (reg x rs2)))) a.first ∙ ap (λ (v : ℕ). Put rd (sx32 (minus (reg y rs1) v))) a.second
action_but_data (Sllw rd rs1 rs2) x y pc a = ap (λ (v : ℕ). Put rd (sx32 (sll v (low 5 (reg x rs2))))) a.first ∙ ap (λ (v : ℕ). Put rd (sx32 (sll (reg y rs1) (low 5 v)))) a.second
action_but_data (Srlw rd rs1 rs2) x y pc a = ap (λ (v : ℕ). Put rd (sx32 (srl (low 32 v) (low 5 (reg x rs2))))) a.first ∙ ap (λ (v : ℕ). Put rd (sx32 (srl (low 32 (reg y rs1)) (low 5 v)))) a.second
action_but_data (Sraw rd rs1 rs2) x y pc a = ap (λ (v : ℕ). Put rd (sx32 (sra (sx32 v) (low 5 (reg x rs2))))) a.first ∙ ap (λ (v : ℕ). Put rd (sx32 (sra (sx32 (reg y rs1)) (low 5 v)))) a.second
action_but_data (Lwu rd rs1 imm) x y pc a = ap (λ (v : ℕ). Read rd (plus v imm) W4 false) a.address
action_but_data (Ld rd rs1 imm) x y pc a = ap (λ (v : ℕ). Read rd (plus v imm) W8 false) a.address
action_but_data (Sd rs1 rs2 imm) x y pc a = ap (λ (v : ℕ). without_data (Write (plus v imm) W8 (reg x rs2))) a.address
action_but_data (Mul rd rs1 rs2) x y pc a = ap (λ (v : ℕ). Put rd (times v (reg x rs2))) a.first ∙ ap (λ (v : ℕ). Put rd (times (reg y rs1) v)) a.second
action_but_data (Mulh rd rs1 rs2) x y pc a = ap (λ (v : ℕ). Put rd (mulh_of v (reg x rs2))) a.first ∙ ap (λ (v : ℕ). Put rd (mulh_of (reg y rs1) v)) a.second
action_but_data (Mulhsu rd rs1 rs2) x y pc a = ap (λ (v : ℕ). Put rd (mulhsu_of v (reg x rs2))) a.first ∙ ap (λ (v : ℕ). Put rd (mulhsu_of (reg y rs1) v)) a.second
action_but_data (Mulhu rd rs1 rs2) x y pc a = ap (λ (v : ℕ). Put rd (mulhu_of v (reg x rs2))) a.first ∙ ap (λ (v : ℕ). Put rd (mulhu_of (reg y rs1) v)) a.second
action_but_data (Div rd rs1 rs2) x y pc a = ap (λ (v : ℕ). Put rd (div_of v (reg x rs2))) a.first ∙ ap (λ (v : ℕ). Put rd (div_of (reg y rs1) v)) a.second
action_but_data (Divu rd rs1 rs2) x y pc a = ap (λ (v : ℕ). Put rd (divu_of v (reg x rs2))) a.first ∙ ap (λ (v : ℕ). Put rd (divu_of (reg y rs1) v)) a.second
action_but_data (Rem rd rs1 rs2) x y pc a = ap (λ (v : ℕ). Put rd (rem_of v (reg x rs2))) a.first ∙ ap (λ (v : ℕ). Put rd (rem_of (reg y rs1) v)) a.second
action_but_data (Remu rd rs1 rs2) x y pc a = ap (λ (v : ℕ). Put rd (remu_of v (reg x rs2))) a.first ∙ ap (λ (v : ℕ). Put rd (remu_of (reg y rs1) v)) a.second
action_but_data (Mulw rd rs1 rs2) x y pc a = ap (λ (v : ℕ). Put rd (sx32 (times v (reg x rs2)))) a.first ∙ ap (λ (v : ℕ). Put rd (sx32 (times (reg y rs1) v))) a.second
action_but_data (Divw rd rs1 rs2) x y pc a = ap (λ (v : ℕ). Put rd (sx32 (div_of (sx32 v) (sx32 (reg x rs2))))) a.first ∙ ap (λ (v : ℕ). Put rd (sx32 (div_of (sx32 (reg y rs1)) (sx32 v)))) a.second
action_but_data (Divuw rd rs1 rs2) x y pc a = ap (λ (v : ℕ). Put rd (sx32 (divu_of (low 32 v) (low 32 (reg x rs2))))) a.first ∙ ap (λ (v : ℕ). Put rd (sx32 (divu_of (low 32 (reg y rs1)) (low 32 v)))) a.second
action_but_data (Remw rd rs1 rs2) x y pc a = ap (λ (v : ℕ). Put rd (sx32 (rem_of (sx32 v) (sx32 (reg x rs2))))) a.first ∙ ap (λ (v : ℕ). Put rd (sx32 (rem_of (sx32 (reg y rs1)) (sx32 v)))) a.second
action_but_data (Remuw rd rs1 rs2) x y pc a = ap (λ (v : ℕ). Put rd (sx32 (remu_of (low 32 v) (low 32 (reg x rs2))))) a.first ∙ ap (λ (v : ℕ). Put rd (sx32 (remu_of (low 32 (reg y rs1)) (low 32 v)))) a.second
action_but_data (LrW rd rs1 ordering) x y pc a = ap (λ (v : ℕ). Reserve rd v W4 ordering) a.address
action_but_data (LrD rd rs1 ordering) x y pc a = ap (λ (v : ℕ). Reserve rd v W8 ordering) a.address
action_but_data (ScW rd rs1 rs2 ordering) x y pc a = ap (λ (v : ℕ). without_data (Conditional rd v W4 (reg x rs2) ordering)) a.address
action_but_data (ScD rd rs1 rs2 ordering) x y pc a = ap (λ (v : ℕ). without_data (Conditional rd v W8 (reg x rs2) ordering)) a.address
action_but_data (AmoswapW rd rs1 rs2 ordering) x y pc a = ap (λ (v : ℕ). without_data (Exchange rd v W4 (λ o. amo_swap 32 o (reg x rs2)) ordering)) a.address
action_but_data (AmoaddW rd rs1 rs2 ordering) x y pc a = ap (λ (v : ℕ). without_data (Exchange rd v W4 (λ o. amo_add 32 o (reg x rs2)) ordering)) a.address
action_but_data (AmoxorW rd rs1 rs2 ordering) x y pc a = ap (λ (v : ℕ). without_data (Exchange rd v W4 (λ o. amo_xor 32 o (reg x rs2)) ordering)) a.address
action_but_data (AmoandW rd rs1 rs2 ordering) x y pc a = ap (λ (v : ℕ). without_data (Exchange rd v W4 (λ o. amo_and 32 o (reg x rs2)) ordering)) a.address
action_but_data (AmoorW rd rs1 rs2 ordering) x y pc a = ap (λ (v : ℕ). without_data (Exchange rd v W4 (λ o. amo_or 32 o (reg x rs2)) ordering)) a.address
action_but_data (AmominW rd rs1 rs2 ordering) x y pc a = ap (λ (v : ℕ). without_data (Exchange rd v W4 (λ o. amo_min 32 o (reg x rs2)) ordering)) a.address
action_but_data (AmomaxW rd rs1 rs2 ordering) x y pc a = ap (λ (v : ℕ). without_data (Exchange rd v W4 (λ o. amo_max 32 o (reg x rs2)) ordering)) a.address
action_but_data (AmominuW rd rs1 rs2 ordering) x y pc a = ap (λ (v : ℕ). without_data (Exchange rd v W4 (λ o. amo_minu 32 o (reg x rs2)) ordering)) a.address
action_but_data (AmomaxuW rd rs1 rs2 ordering) x y pc a = ap (λ (v : ℕ). without_data (Exchange rd v W4 (λ o. amo_maxu 32 o (reg x rs2)) ordering)) a.address
action_but_data (AmoswapD rd rs1 rs2 ordering) x y pc a = ap (λ (v : ℕ). without_data (Exchange rd v W8 (λ o. amo_swap 64 o (reg x rs2)) ordering)) a.address
action_but_data (AmoaddD rd rs1 rs2 ordering) x y pc a = ap (λ (v : ℕ). without_data (Exchange rd v W8 (λ o. amo_add 64 o (reg x rs2)) ordering)) a.address
action_but_data (AmoxorD rd rs1 rs2 ordering) x y pc a = ap (λ (v : ℕ). without_data (Exchange rd v W8 (λ o. amo_xor 64 o (reg x rs2)) ordering)) a.address
action_but_data (AmoandD rd rs1 rs2 ordering) x y pc a = ap (λ (v : ℕ). without_data (Exchange rd v W8 (λ o. amo_and 64 o (reg x rs2)) ordering)) a.address
action_but_data (AmoorD rd rs1 rs2 ordering) x y pc a = ap (λ (v : ℕ). without_data (Exchange rd v W8 (λ o. amo_or 64 o (reg x rs2)) ordering)) a.address
action_but_data (AmominD rd rs1 rs2 ordering) x y pc a = ap (λ (v : ℕ). without_data (Exchange rd v W8 (λ o. amo_min 64 o (reg x rs2)) ordering)) a.address
action_but_data (AmomaxD rd rs1 rs2 ordering) x y pc a = ap (λ (v : ℕ). without_data (Exchange rd v W8 (λ o. amo_max 64 o (reg x rs2)) ordering)) a.address
action_but_data (AmominuD rd rs1 rs2 ordering) x y pc a = ap (λ (v : ℕ). without_data (Exchange rd v W8 (λ o. amo_minu 64 o (reg x rs2)) ordering)) a.address
action_but_data (AmomaxuD rd rs1 rs2 ordering) x y pc a = ap (λ (v : ℕ). without_data (Exchange rd v W8 (λ o. amo_maxu 64 o (reg x rs2)) ordering)) a.address

pub destination_written : DestinationsAreWritten
destination_written Ecall x pc other = absurd (other refl)
destination_written _ x pc other = refl

-- ---- one step

of_test : {A B : Type 0} (P : A → B → Type 0) (t : Bool) (x z : A) (y w : B) → P x y → P z w → P (if t then x else z) (if t then y else w)
of_test P true x z y w p q = p
of_test P false x z y w p q = q

module _ (h : Hart) (y : List ℕ) (c : ConsoleState) where
  abbrev k : Hart
  k = record h { x = y }

  abbrev Same : ℕ → StepOutcome Hart → StepOutcome Hart → Type 0
  Same rd o p = SameStep rd h k (with_console c o) (with_console c p)

  stop_same : (rd code : ℕ) → Same rd (stopped_by h code) (stopped_by k code)
  stop_same rd code = record { answer = refl; stores = refl; console = refl; change = both-stop code 0 refl refl }

  jump_same : (rd target : ℕ) → Same rd (jumped h rd target) (jumped k rd target)
  jump_same rd target = of_test (Same rd) (target % 4 == 0) _ _ _ _ (record { answer = refl; stores = refl; console = refl; change = both-go (next_pc h) target refl refl }) (stop_same rd 4)

  read_same : (rd a : ℕ) (w : Width) (signed : Bool) (r : Result ℕ Fault) → Same rd (read_by h rd a w signed r) (read_by k rd a w signed r)
  read_same rd a w signed (Err f) = record { answer = refl; stores = refl; console = refl; change = both-stop _ 0 refl refl }
  read_same rd a w signed (Ok v) = record { answer = refl; stores = refl; console = refl; change = both-go (extended_to signed w v) (next_pc h) refl refl }

  write_same : (a : ℕ) (w : Width) (v : ℕ) (f : Option Fault) → Same 0 (written_by h a w v f) (written_by k a w v f)
  write_same a w v (Some f) = record { answer = refl; stores = refl; console = refl; change = both-stop _ 0 refl refl }
  write_same a w v None = record { answer = refl; stores = refl; console = refl; change = both-go 0 (next_pc h) refl refl }

  reserve_same : (rd a : ℕ) (w : Width) (ordering : AcquireRelease) (r : Result ℕ Fault) → Same rd (reserved_by h rd a w ordering r) (reserved_by k rd a w ordering r)
  reserve_same rd a w ordering (Err f) = record { answer = refl; stores = refl; console = refl; change = both-stop _ 0 refl refl }
  reserve_same rd a w ordering (Ok v) = record { answer = refl; stores = refl; console = refl; change = both-go _ (next_pc h) refl refl }

  conditional_same : (rd a : ℕ) (w : Width) (v : ℕ) (ordering : AcquireRelease) (holds : Bool) (f : Option Fault) →
      Same rd (conditional_by h rd a w v ordering holds f) (conditional_by k rd a w v ordering holds f)
  conditional_same rd a w v ordering holds (Some f) = record { answer = refl; stores = refl; console = refl; change = both-stop _ 0 refl refl }
  conditional_same rd a w v ordering true None = record { answer = refl; stores = refl; console = refl; change = both-go 0 (next_pc h) refl refl }
  conditional_same rd a w v ordering false None = record { answer = refl; stores = refl; console = refl; change = both-go 1 (next_pc h) refl refl }

  exchange_same : (rd a : ℕ) (w : Width) (f : ℕ → ℕ) (ordering : AcquireRelease) (old : ℕ) (fault : Option Fault) →
      Same rd (exchanged_by h rd a w f ordering old fault) (exchanged_by k rd a w f ordering old fault)
  exchange_same rd a w f ordering old (Some fault) = record { answer = refl; stores = refl; console = refl; change = both-stop _ 0 refl refl }
  exchange_same rd a w f ordering old None = record { answer = refl; stores = refl; console = refl; change = both-go _ (next_pc h) refl refl }

  return_same : (a : Answered) → SameStep 10 h k (returned h a) (returned k a)
  return_same a = record { answer = refl; stores = refl; console = refl; change = both-go a.value (next_pc h) refl refl }

  -- a call by its number and its argument
  abbrev call_by : ℕ → Hart → ℕ → ℕ → SerialOutcome Hart ConsoleState
  call_by n g number argument =
      if number == 0
      then record { answer = Stopped 1; hart = stopped_with g 1 argument; stores = []; console = c }
      else returned g (answered n number argument c)

  call_same : (n number argument : ℕ) → SameStep 10 h k (call_by n h number argument) (call_by n k number argument)
  call_same n number argument = of_test (SameStep 10 h k) (number == 0) _ _ _ _
      (record { answer = refl; stores = refl; console = refl; change = both-stop 1 argument refl refl }) (return_same (answered n number argument c))

  same_served : (n : ℕ) (m : Memory) (r : Option Span) (a : Action) → ((reg h.x 10 ≡ reg y 10) × (reg h.x 17 ≡ reg y 17)) ⊎ (a ≢ Call) →
      SameStep (written_register a) h k (served a n h m c r) (served a n k m c r)
  same_served n m r (Order before after mode) agree = record { answer = refl; stores = refl; console = refl; change = both-go 0 (next_pc h) refl refl }
  same_served n m r (Reserve rd a w ordering) agree = reserve_same rd a w ordering (loaded m a w)
  same_served n m r (Conditional rd a w v ordering) agree = conditional_same rd a w v ordering (is_reserved r a w) (store_fault m a w)
  same_served n m r (Exchange rd a w f ordering) agree = exchange_same rd a w f ordering (value_at m.bytes a w) (store_fault m a w)
  same_served n m r Call (inr other) = absurd (other refl)
  same_served n m r Call (inl agree) =
      subst (λ v. SameStep 10 h k (call_by n h (reg h.x 17) (reg h.x 10)) (call_by n k (reg y 17) v)) agree.0
      (subst (λ v. SameStep 10 h k (call_by n h (reg h.x 17) (reg h.x 10)) (call_by n k v (reg h.x 10))) agree.1 (call_same n (reg h.x 17) (reg h.x 10)))
  same_served n m r (Put rd v) agree = record { answer = refl; stores = refl; console = refl; change = both-go v (next_pc h) refl refl }
  same_served n m r (Jump rd target) agree = jump_same rd target
  same_served n m r (Branch taken target) agree = of_test (Same 0) taken _ _ _ _ (jump_same 0 target)
      (record { answer = refl; stores = refl; console = refl; change = both-go 0 (next_pc h) refl refl })
  same_served n m r (Read rd a w signed) agree = read_same rd a w signed (loaded m a w)
  same_served n m r (Write a w v) agree = write_same a w v (store_fault m a w)
  same_served n m r (Halt code) agree = stop_same 0 code

  call_or_other : (i : Instr) → AgreesOnCalls i h.x y → ((reg h.x 10 ≡ reg y 10) × (reg h.x 17 ≡ reg y 17)) ⊎ (action i h.x h.pc ≢ Call)
  call_or_other Ecall agree = inl agree
  call_or_other _ agree = inr (λ e. cc)

pub step_local : StepIsLocal
step_local i n h y m c r agree calls =
    subst (λ (a : Action). SameStep (written_register (action i h.x h.pc)) h (record h { x = y }) (served (action i h.x h.pc) n h m c r) (served a n (record h { x = y }) m c r))
    (action_local i h.x y h.pc agree)
    (same_served h y c n m r (action i h.x h.pc) (call_or_other h y c i calls))

-- ---- registers of which some are unknown

pub some_value : (a b : ℕ) → Some a ≡ Some b → a ≡ b
some_value a b e = ap (λ o. unwrap_or o 0) e

filled_at : (v : List (Option ℕ)) (r n : ℕ) → get_or v r None ≡ Some n → get_or (filled v) r 0 ≡ n
filled_at [] r n e = cc
filled_at (o ∷ v) zero n e = ap (λ p. unwrap_or p 0) e
filled_at (o ∷ v) (suc r) n e = filled_at v r n e

pub filled_refines : (v : List (Option ℕ)) → Refines v (filled v)
filled_refines v r n e = by_test (r == 0) e
  where
    by_test : (b : Bool) → (if b then Some 0 else get_or v r None) ≡ Some n → (if b then 0 else get_or (filled v) r 0) ≡ n
    by_test true e = some_value 0 n e
    by_test false e = filled_at v r n e

pub known_same : (v : List (Option ℕ)) (x : List ℕ) (r : ℕ) → Refines v x → is_some (view v r) ≡ true → reg (filled v) r ≡ reg x r
known_same v x r refines known = by_view (view v r) refl known
  where
    by_view : (o : Option ℕ) → view v r ≡ o → is_some o ≡ true → reg (filled v) r ≡ reg x r
    by_view None e k = absurd (cc)
    by_view (Some n) e k = filled_refines v r n e ∙ sym (refines r n e)

pub filled_acts : FilledActs
filled_acts i v x pc refines = (
  λ k. action_local i (filled v) x pc (record { but_data = but k.but_data; value = known_same v x (registers_of i).value refines k.value }),
  λ k. action_but_data i (filled v) x pc (but k),
)
  where
    but : KnowsButData (registers_of i) v → AgreesButData (registers_of i) (filled v) x
    but k = record {
      address = known_same v x (registers_of i).address refines k.address;
      first = known_same v x (registers_of i).first refines k.first;
      second = known_same v x (registers_of i).second refines k.second;
    }

pub not_both : (m : ℕ) (o : Option ℕ) → o ≡ None → o ≡ Some m → ⊥
not_both m o p q =
    let a : is_some o ≡ false = ap (λ x. is_some x) p in
    let b : is_some o ≡ true = ap (λ x. is_some x) q in
    cc

pub past_end : (w : List (Option ℕ)) (j : ℕ) → length w ≤ j → get_or w j None ≡ None
past_end [] j l = refl
past_end (a ∷ w) zero l = absurd (omega (arith, l))
past_end (a ∷ w) (suc j) l = past_end w j (omega (arith, l))

pub set_refines : (v : List (Option ℕ)) (x : List ℕ) (rd n : ℕ) (o : Option ℕ) → length v ≡ length x → ((m : ℕ) → o ≡ Some m → n ≡ m) → Refines v x →
    Refines (set_view v rd o) (set_reg x rd n)
set_refines v x rd n o same put refines r m e = elim (cases_eq rd 0) [
  | inl z ↦ subst (λ (y : List ℕ). reg y r ≡ m) (sym (cond-true (rd == 0) x (slice_set x rd n) (eq-eqb rd 0 z)))
      (refines r m (sym (ap (λ (w : List (Option ℕ)). view w r) (cond-true (rd == 0) v (slice_set v rd o) (eq-eqb rd 0 z))) ∙ e))
  | inr nz ↦ subst (λ (y : List ℕ). reg y r ≡ m) (sym (cond-false (rd == 0) x (slice_set x rd n) (ne_eqb rd 0 nz)))
      (by_zero (r == 0) refl (sym (ap (λ (w : List (Option ℕ)). view w r) (cond-false (rd == 0) v (slice_set v rd o) (ne_eqb rd 0 nz))) ∙ e))
]
  where
    by_place : (r == 0) ≡ false → get_or (slice_set v rd o) r None ≡ Some m → get_or (slice_set x rd n) r 0 ≡ m
    by_place z f = elim (cases_eq r rd) [
      | inr other ↦ get_or-set_other x rd r n 0 other ∙ sym (cond-false (r == 0) 0 (get_or x r 0) z)
          ∙ refines r m (cond-false (r == 0) (Some 0) (get_or v r None) z ∙ sym (get_or-set_other v rd r o None other) ∙ f)
      | inl here ↦ elim (cases_lt r (length x)) [
        | inl l ↦
            let lv : rd < length v = omega (arith, l, same, here) in
            let lx : rd < length x = omega (arith, l, here) in
            ap (λ i. get_or (slice_set x rd n) i 0) here ∙ get_or-set_same x rd n 0 lx
            ∙ put m (sym (get_or-set_same v rd o None lv) ∙ sym (ap (λ i. get_or (slice_set v rd o) i None) here) ∙ f)
        | inr l ↦ absurd (not_both m (get_or (slice_set v rd o) r None) (past_end (slice_set v rd o) r (omega (arith, l, same, length-set v rd o))) f)
      ]
    ]

    by_zero : (b : Bool) → (r == 0) ≡ b → (if b then Some 0 else get_or (slice_set v rd o) r None) ≡ Some m → (if b then 0 else get_or (slice_set x rd n) r 0) ≡ m
    by_zero true z f = some_value 0 m f
    by_zero false z f = by_place z f

pub sets_refine : SetsRefine
sets_refine v x rd n same refines = (
  set_refines v x rd n (Some n) same (λ m e. some_value n m e) refines,
  set_refines v x rd n None same (λ m e. absurd (not_both m None refl e)) refines,
)
