-- Following a script, step by step.
use Rattle.std.proofs.Common.{◌≡◌, ℕ, ◌+◌, ◌<◌, false, List, [], ◌∷◌, ◌++◌, length, get_or, take, MatchOption, Option, None, ap, add-one, subst, sym, ◌∙◌}
use Rattle.std.proofs.Math.Seq.{take-suc}
use Rattle.pages.specs.Memory.{Memory}
use Rattle.execution.specs.declared.step.ScriptedStep.{ScriptedStep}
use Rattle.execution.specs.declared.step_fault.StepFault.{StepFault}
use Rattle.execution.specs.Executions.{Executes, IsLike, Standing, Takes, begins}
use Rattle.execution.proofs.Owning.{executes_more}
use Rattle.execution_checker.specs.declared.verdict.Verdict.{Verdict}
use Rattle.execution_checker.specs.declared.verdict.Verdict.TheVariants.{Allowed, Broken, Refused}
use Rattle.execution_checker.specs.Allowed.{Follows, IsJudged, IsVerdict, follows-more, follows-none}

pub followed : (image : Memory) (ss : List ScriptedStep) (p q : Standing) → Follows image ss p q → Executes image p q
followed image _ p _ (follows-none _) = begins p
followed image _ p q (follows-more ss s _ r _ f t) = executes_more image s p r q (followed image ss p r f) t

pub at_none : {A : Type 0} (o : Option A) (P : Type 0) (Q : A → Type 0) → o ≡ None → MatchOption o P Q → P
at_none o P Q none h = subst (λ x. MatchOption x P Q) none h

-- what stands past a script's end
abbrev pub no_step : ScriptedStep
no_step = record { hart = 0; round = 0; number = None; holds = false }

pub followed_on : (image m : Memory) (ss : List ScriptedStep) (index : ℕ) (p q r : Standing) → index < length ss → Follows image (take index ss) p q → IsLike image m →
    ((i : Memory) → IsLike i m → Takes i (get_or ss index no_step) q r) → Follows image (take (index + 1) ss) p r
followed_on image m ss index p q r l f like taken =
    subst (λ (ts : List ScriptedStep). Follows image ts p r) (sym (ap (λ (n : ℕ). take n ss) (add-one index) ∙ take-suc ss index no_step l))
    (follows-more (take index ss) (get_or ss index no_step) p q r f (taken image like))

pub judged : (v : Verdict) (image : Memory) (opening : ℕ → ℕ) (ss : List ScriptedStep) (g : List ℕ) (p q : Standing) → Follows image ss p q → IsJudged v opening q g → IsVerdict v image opening ss g p q
judged Allowed image opening ss g p q f j = (f, j)
judged (Refused r) image opening ss g p q f j = (f, j.0, j.1)
judged (Broken index fault) image opening ss g p q f j = absurd j
