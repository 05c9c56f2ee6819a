-- What is opened as what was found.
use Rattle.std.proofs.Common.{MatchOption, ◌≡◌, ◌≢◌, ℕ, List, None, Option, Some, ap}
use Rattle.pages.specs.Memory.{Memory}
use Rattle.execution.specs.Executions.{Standing}
use Rattle.execution_checker.specs.declared.verdict.Verdict.{Verdict}
use Rattle.execution_checker.specs.declared.verdict.Verdict.TheVariants.{Allowed}
use Rattle.execution_moments.specs.Courses.{IsCourse}
use Rattle.execution_moments.specs.declared.course.Course.{Course}
use Rattle.execution_scripts.specs.declared.checking.Finding.{Finding}
use Rattle.execution_scripts.specs.declared.checking.Finding.TheVariants.{Judged}

pub judged_is : (v w : Verdict) → ◌≡◌ {A = Finding} (Judged v) (Judged w) → v ≡ w
judged_is v w e = cc

pub judged_course : (m : Memory) (p q : Standing) (order : List ℕ) (v : Verdict) (o : Option Course) → MatchOption o (v ≢ Allowed) (λ k. (v ≡ Allowed) × IsCourse m p q order k) →
    MatchOption o (◌≡◌ {A = Finding} (Judged v) (Judged Allowed) → ⊥) (λ k. (◌≡◌ {A = Finding} (Judged v) (Judged Allowed)) × IsCourse m p q order k)
judged_course m p q order v None h = λ e. h (judged_is v Allowed e)
judged_course m p q order v (Some k) h = (ap (λ (w : Verdict). Judged w) h.0, h.1)
