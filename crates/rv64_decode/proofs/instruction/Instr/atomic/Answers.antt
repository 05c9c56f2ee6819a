use Rattle.std.proofs.Common.{◌≡◌, ℕ, refl, ◌∙◌}
use Rattle.rv64_decode.specs.declared.instruction.Instr.{Instr}
use Rattle.rv64_decode.specs.declared.instruction.Instr.TheVariants.{LrW, ScW, LrD, ScD}
use Rattle.rv64_decode.specs.declared.ordering.AcquireRelease.{AcquireRelease}
use Rattle.rv64_decode.specs.Atomics.{atomic_of, operation_of}
use Rattle.rv64_decode.proofs.instruction.Instr.atomic.Goals as goal

same : (i : Instr) → ((rd rs1 : ℕ) (o : AcquireRelease) → i ≡ LrW rd rs1 o → ⊥) → ((rd rs1 rs2 : ℕ) (o : AcquireRelease) → i ≡ ScW rd rs1 rs2 o → ⊥) →
    ((rd rs1 : ℕ) (o : AcquireRelease) → i ≡ LrD rd rs1 o → ⊥) → ((rd rs1 rs2 : ℕ) (o : AcquireRelease) → i ≡ ScD rd rs1 rs2 o → ⊥) → operation_of i ≡ atomic_of i
same (LrW rd rs1 o) a b c d = absurd (a rd rs1 o refl)
same (ScW rd rs1 rs2 o) a b c d = absurd (b rd rs1 rs2 o refl)
same (LrD rd rs1 o) a b c d = absurd (c rd rs1 o refl)
same (ScD rd rs1 rs2 o) a b c d = absurd (d rd rs1 rs2 o refl)
same _ a b c d = refl

pub returns-in_default : goal.returns-in_default
returns-in_default c = c.operation.ensures ∙ same c.args.self.now c.in_default.not-LrW c.in_default.not-ScW c.in_default.not-LrD c.in_default.not-ScD
