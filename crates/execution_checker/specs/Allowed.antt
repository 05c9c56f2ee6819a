-- Executions that RVWMO allows, and what is said of a script.
use Rattle.std.specs.Prelude.{◌≡◌, ℕ, ◌<◌, List, [], ◌∷◌, ◌++◌, length, slice_index_or, take}
use Rattle.pages.specs.Memory.{Memory}
use Rattle.memory_order.specs.Rvwmo.{MeetsRvwmoBy}
use Rattle.memory_order.specs.Dependencies.{DependencyRule}
use Rattle.execution.specs.declared.step.ScriptedStep.{ScriptedStep}
use Rattle.execution.specs.declared.step_fault.StepFault.{StepFault}
use Rattle.execution.specs.Executions.{Standing, Takes}
use Rattle.execution.specs.Progressing.{HasNoStep}
use Rattle.refusal_reasons.specs.Reasons.{IsTrueOf}
use Rattle.execution_checker.specs.declared.verdict.Verdict.{Verdict}
use Rattle.execution_checker.specs.declared.verdict.Verdict.TheVariants.{Allowed, Broken, Refused}

-- RVWMO allows what was done up to a standing, where memory opened with these bytes, in an order of its memory operations
abbrev pub Allows : (ℕ → ℕ) → Standing → List ℕ → Type 0
Allows opening q g = MeetsRvwmoBy (DependencyRule q.instructions q.events) q.events opening g

-- the steps of a script lead from one standing to another
pub data Follows (image : Memory) : List ScriptedStep → Standing → Standing → Type 0 where
  follows-none : (p : Standing) → Follows image [] p p
  follows-more : (ss : List ScriptedStep) (s : ScriptedStep) (p q r : Standing) →
      Follows image ss p q → Takes image s q r → Follows image (ss ++ s ∷ []) p r

-- a script can be followed up to the step at an index, which its hart doesn't take next
pub record BreaksAt (image : Memory) (ss : List ScriptedStep) (index : ℕ) (fault : StepFault) (p q : Standing) : Type 0 where
  pub within : index < length ss
  pub up_to : Follows image (take index ss) p q
  pub here : (s : ScriptedStep) → s ≡ slice_index_or ss index s → HasNoStep fault image s q

-- the verdict on what was done, in an order: where it is refused, the reason is so
abbrev pub IsJudged : Verdict → (ℕ → ℕ) → Standing → List ℕ → Type 0
IsJudged Allowed opening q g = Allows opening q g
IsJudged (Refused r) opening q g = (Allows opening q g → ⊥) × IsTrueOf r q.instructions q.events opening g
IsJudged (Broken index fault) opening q g = ⊥

-- the verdict on a script and an order, where the script leads from p to q
abbrev pub IsVerdict : Verdict → Memory → (ℕ → ℕ) → List ScriptedStep → List ℕ → Standing → Standing → Type 0
IsVerdict Allowed image opening ss g p q = Follows image ss p q × Allows opening q g
IsVerdict (Refused r) image opening ss g p q = Follows image ss p q × (Allows opening q g → ⊥) × IsTrueOf r q.instructions q.events opening g
IsVerdict (Broken index fault) image opening ss g p q = BreaksAt image ss index fault p q
