-- The register that an instruction writes.
use Rattle.std.proofs.Common.{◌≡◌, refl}
use Rattle.rv64_decode.specs.declared.instruction.Instr.{Instr}
use Rattle.rv64_decode.specs.declared.instruction.Instr.TheVariants.{Ecall}
use Rattle.memory_order.specs.Registers.{registers_of}
use Rattle.all_endings.specs.RunStates.{answers_to}

pub answers_elsewhere : (i : Instr) → (i ≡ Ecall → ⊥) → answers_to i ≡ (registers_of i).destination
answers_elsewhere Ecall n = absurd (n refl)
answers_elsewhere _ n = refl
