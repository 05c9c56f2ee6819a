-- The registers of an instruction, as syntactic dependencies see them (manual, section 14.3).
use Rattle.std.specs.Prelude.{ℕ, true, false}
use Rattle.rv64_decode.specs.declared.instruction.Instr.{Instr}
use Rattle.rv64_decode.specs.declared.instruction.Instr.TheVariants.{Lui, Auipc, Jal, Jalr, Beq, Bne, Blt, Bge, Bltu, Bgeu, Lb, Lh, Lw, Lbu, Lhu, Sb, Sh, Sw, Addi, Slti, Sltiu, Xori, Ori, Andi, Add, Sub, Sll, Slt, Sltu, Xor, Srl, Sra, Or, And, Fence, Ecall, Ebreak, Lwu, Ld, Sd, Slli, Srli, Srai, Addiw, Slliw, Srliw, Sraiw, Addw, Subw, Sllw, Srlw, Sraw, Mul, Mulh, Mulhsu, Mulhu, Div, Divu, Rem, Remu, Mulw, Divw, Divuw, Remw, Remuw, LrW, LrD, ScW, ScD, AmoswapW, AmoaddW, AmoxorW, AmoandW, AmoorW, AmominW, AmomaxW, AmominuW, AmomaxuW, AmoswapD, AmoaddD, AmoxorD, AmoandD, AmoorD, AmominD, AmomaxD, AmominuD, AmomaxuD}
use Rattle.memory_order.specs.declared.registers.Registers.{Registers}

-- x0 stands for none: it is never a source nor a destination (section 14.1.2)
abbrev pub none : Registers
none = record { address = 0; value = 0; first = 0; second = 0; destination = 0; carries = false; steers = false }

-- rd gets a value that comes from no register
abbrev pub sets : ℕ → Registers
sets rd = record none { destination = rd }

-- rd gets a value that is computed from registers: they are carried to it
abbrev pub computes : ℕ → ℕ → ℕ → Registers
computes rd a b = record none { first = a; second = b; destination = rd; carries = true }

abbrev pub computes_one : ℕ → ℕ → Registers
computes_one rd a = computes rd a 0

-- an indirect jump, which carries nothing to rd
abbrev pub turns : ℕ → ℕ → Registers
turns rd a = record none { first = a; destination = rd; steers = true }

abbrev pub branches : ℕ → ℕ → Registers
branches a b = record none { first = a; second = b; steers = true }

-- a load, or an LR
abbrev pub loads : ℕ → ℕ → Registers
loads rd a = record none { address = a; destination = rd }

abbrev pub stores : ℕ → ℕ → Registers
stores a d = record none { address = a; value = d }

-- an SC, or an AMO
abbrev pub exchanges : ℕ → ℕ → ℕ → Registers
exchanges rd a d = record none { address = a; value = d; destination = rd }

abbrev pub registers_of : Instr → Registers
registers_of (Lui rd imm) = sets rd
registers_of (Auipc rd imm) = sets rd
registers_of (Jal rd imm) = sets rd
registers_of (Jalr rd rs1 imm) = turns rd rs1
registers_of (Beq rs1 rs2 imm) = branches rs1 rs2
registers_of (Bne rs1 rs2 imm) = branches rs1 rs2
registers_of (Blt rs1 rs2 imm) = branches rs1 rs2
registers_of (Bge rs1 rs2 imm) = branches rs1 rs2
registers_of (Bltu rs1 rs2 imm) = branches rs1 rs2
registers_of (Bgeu rs1 rs2 imm) = branches rs1 rs2
registers_of (Lb rd rs1 imm) = loads rd rs1
registers_of (Lh rd rs1 imm) = loads rd rs1
registers_of (Lw rd rs1 imm) = loads rd rs1
registers_of (Lbu rd rs1 imm) = loads rd rs1
registers_of (Lhu rd rs1 imm) = loads rd rs1
registers_of (Sb rs1 rs2 imm) = stores rs1 rs2
registers_of (Sh rs1 rs2 imm) = stores rs1 rs2
registers_of (Sw rs1 rs2 imm) = stores rs1 rs2
registers_of (Addi rd rs1 imm) = computes_one rd rs1
registers_of (Slti rd rs1 imm) = computes_one rd rs1
registers_of (Sltiu rd rs1 imm) = computes_one rd rs1
registers_of (Xori rd rs1 imm) = computes_one rd rs1
registers_of (Ori rd rs1 imm) = computes_one rd rs1
registers_of (Andi rd rs1 imm) = computes_one rd rs1
registers_of (Add rd rs1 rs2) = computes rd rs1 rs2
registers_of (Sub rd rs1 rs2) = computes rd rs1 rs2
registers_of (Sll rd rs1 rs2) = computes rd rs1 rs2
registers_of (Slt rd rs1 rs2) = computes rd rs1 rs2
registers_of (Sltu rd rs1 rs2) = computes rd rs1 rs2
registers_of (Xor rd rs1 rs2) = computes rd rs1 rs2
registers_of (Srl rd rs1 rs2) = computes rd rs1 rs2
registers_of (Sra rd rs1 rs2) = computes rd rs1 rs2
registers_of (Or rd rs1 rs2) = computes rd rs1 rs2
registers_of (And rd rs1 rs2) = computes rd rs1 rs2
registers_of (Fence before after mode) = none
registers_of Ecall = none
registers_of Ebreak = none
registers_of (Lwu rd rs1 imm) = loads rd rs1
registers_of (Ld rd rs1 imm) = loads rd rs1
registers_of (Sd rs1 rs2 imm) = stores rs1 rs2
registers_of (Slli rd rs1 shift) = computes_one rd rs1
registers_of (Srli rd rs1 shift) = computes_one rd rs1
registers_of (Srai rd rs1 shift) = computes_one rd rs1
registers_of (Addiw rd rs1 imm) = computes_one rd rs1
registers_of (Slliw rd rs1 shift) = computes_one rd rs1
registers_of (Srliw rd rs1 shift) = computes_one rd rs1
registers_of (Sraiw rd rs1 shift) = computes_one rd rs1
registers_of (Addw rd rs1 rs2) = computes rd rs1 rs2
registers_of (Subw rd rs1 rs2) = computes rd rs1 rs2
registers_of (Sllw rd rs1 rs2) = computes rd rs1 rs2
registers_of (Srlw rd rs1 rs2) = computes rd rs1 rs2
registers_of (Sraw rd rs1 rs2) = computes rd rs1 rs2
registers_of (Mul rd rs1 rs2) = computes rd rs1 rs2
registers_of (Mulh rd rs1 rs2) = computes rd rs1 rs2
registers_of (Mulhsu rd rs1 rs2) = computes rd rs1 rs2
registers_of (Mulhu rd rs1 rs2) = computes rd rs1 rs2
registers_of (Div rd rs1 rs2) = computes rd rs1 rs2
registers_of (Divu rd rs1 rs2) = computes rd rs1 rs2
registers_of (Rem rd rs1 rs2) = computes rd rs1 rs2
registers_of (Remu rd rs1 rs2) = computes rd rs1 rs2
registers_of (Mulw rd rs1 rs2) = computes rd rs1 rs2
registers_of (Divw rd rs1 rs2) = computes rd rs1 rs2
registers_of (Divuw rd rs1 rs2) = computes rd rs1 rs2
registers_of (Remw rd rs1 rs2) = computes rd rs1 rs2
registers_of (Remuw rd rs1 rs2) = computes rd rs1 rs2
registers_of (LrW rd rs1 ordering) = loads rd rs1
registers_of (LrD rd rs1 ordering) = loads rd rs1
registers_of (ScW rd rs1 rs2 ordering) = exchanges rd rs1 rs2
registers_of (ScD rd rs1 rs2 ordering) = exchanges rd rs1 rs2
registers_of (AmoswapW rd rs1 rs2 ordering) = exchanges rd rs1 rs2
registers_of (AmoaddW rd rs1 rs2 ordering) = exchanges rd rs1 rs2
registers_of (AmoxorW rd rs1 rs2 ordering) = exchanges rd rs1 rs2
registers_of (AmoandW rd rs1 rs2 ordering) = exchanges rd rs1 rs2
registers_of (AmoorW rd rs1 rs2 ordering) = exchanges rd rs1 rs2
registers_of (AmominW rd rs1 rs2 ordering) = exchanges rd rs1 rs2
registers_of (AmomaxW rd rs1 rs2 ordering) = exchanges rd rs1 rs2
registers_of (AmominuW rd rs1 rs2 ordering) = exchanges rd rs1 rs2
registers_of (AmomaxuW rd rs1 rs2 ordering) = exchanges rd rs1 rs2
registers_of (AmoswapD rd rs1 rs2 ordering) = exchanges rd rs1 rs2
registers_of (AmoaddD rd rs1 rs2 ordering) = exchanges rd rs1 rs2
registers_of (AmoxorD rd rs1 rs2 ordering) = exchanges rd rs1 rs2
registers_of (AmoandD rd rs1 rs2 ordering) = exchanges rd rs1 rs2
registers_of (AmoorD rd rs1 rs2 ordering) = exchanges rd rs1 rs2
registers_of (AmominD rd rs1 rs2 ordering) = exchanges rd rs1 rs2
registers_of (AmomaxD rd rs1 rs2 ordering) = exchanges rd rs1 rs2
registers_of (AmominuD rd rs1 rs2 ordering) = exchanges rd rs1 rs2
registers_of (AmomaxuD rd rs1 rs2 ordering) = exchanges rd rs1 rs2
