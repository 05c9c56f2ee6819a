-- The operation of an instruction is that of a plain load or store, or of one of the A extension.
use Rattle.std.proofs.Common.{◌≡◌, ℕ, List, Option, Some, None, option_map, refl}
use Rattle.rv64_decode.specs.declared.instruction.Instr.{Instr}
use Rattle.rv64_decode.specs.declared.instruction.Instr.TheVariants.{Ecall}
use Rattle.rv64_decode.specs.Atomics.{atomic_of}
use Rattle.hart_step.specs.Effect.{action}
use Rattle.run_bounds.specs.declared.operation.Operation.{Operation}
use Rattle.run_bounds.specs.Operations.{atomic_in, operation_in, plain_in}

abbrev pub or_else : Option Operation → Option Operation → Option Operation
or_else None o = o
or_else (Some p) o = Some p

pub by_extension : (i : Instr) (x : List ℕ) (pc : ℕ) → operation_in (action i x pc) ≡ or_else (plain_in (action i x pc)) (option_map (atomic_in x) (atomic_of i))
by_extension Ecall x pc = refl
by_extension _ x pc = refl
