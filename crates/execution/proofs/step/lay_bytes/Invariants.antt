use Rattle.std.proofs.Common.{ℕ, List}
use Rattle.pages.specs.Memory.{Memory}
use Rattle.rv64_decode.specs.declared.instruction.Instr.{Instr}
use Rattle.hart_step.specs.DecodedCode.{Shows}
use Rattle.execution.specs.Executions.{IsLike}
use Rattle.execution.proofs.step.lay_bytes.Given as goal

abbrev pub invariant-loop-k : goal.invariant-loop-k
invariant-loop-k l = record {
  like : (image : Memory) → IsLike image l.initial.pages.memory → IsLike image l.pages.memory;
  shows : (first : ℕ) (words : List Instr) → Shows l.initial.pages.memory first words → Shows l.pages.memory first words;
}
