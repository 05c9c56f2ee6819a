-- Branches, by how they go on.
use Rattle.std.proofs.Common.{◌≡◌, ℕ, ◌%◌, sym, ap, subst, refl}
use Rattle.rv64_decode.specs.declared.instruction.Instr.{Instr}
use Rattle.rv64_decode.specs.declared.instruction.Instr.TheVariants.{Beq, Bne, Blt, Bge, Bltu, Bgeu}
use Rattle.hart_step.specs.Numbers.{plus}
use Rattle.early_reads.specs.declared.flow.Flow.{Flow}
use Rattle.early_reads.specs.declared.flow.Flow.TheVariants.{Branch as BranchBy}
use Rattle.early_reads.specs.Flows.{flow_of}
use Rattle.late_spots.specs.Branching.{BranchesAt}

abbrev distance_in : Flow → ℕ
distance_in (BranchBy d) = d
distance_in _ = 0

whole_at : (d n pc : ℕ) → BranchBy n ≡ BranchBy d → plus pc d % 4 ≡ 0 → plus pc n % 4 ≡ 0
whole_at d n pc e whole = subst (λ (k : ℕ). plus pc k % 4 ≡ 0) (sym (ap distance_in e)) whole

pub branches_by : (i : Instr) (d pc : ℕ) → flow_of i ≡ BranchBy d → plus pc d % 4 ≡ 0 → BranchesAt i pc
branches_by (Beq a b n) d pc e whole x = (_, _, refl, whole_at d n pc e whole)
branches_by (Bne a b n) d pc e whole x = (_, _, refl, whole_at d n pc e whole)
branches_by (Blt a b n) d pc e whole x = (_, _, refl, whole_at d n pc e whole)
branches_by (Bge a b n) d pc e whole x = (_, _, refl, whole_at d n pc e whole)
branches_by (Bltu a b n) d pc e whole x = (_, _, refl, whole_at d n pc e whole)
branches_by (Bgeu a b n) d pc e whole x = (_, _, refl, whole_at d n pc e whole)
branches_by _ d pc e whole x = absurd (cc)
