use Rattle.std.proofs.Common.{MatchOption, ◌≡◌, ◌≢◌, subst}
use Rattle.pages.specs.Memory.{Memory}
use Rattle.trace.specs.Traced.{opening_at}
use Rattle.execution.specs.Executions.{Standing}
use Rattle.execution_checker.specs.Allowed.{IsVerdict}
use Rattle.execution_checker.specs.declared.verdict.Verdict.{Verdict}
use Rattle.execution_checker.specs.declared.verdict.Verdict.TheVariants.{Allowed}
use Rattle.execution_file.specs.Views.{as_recorded}
use Rattle.execution_scripts.specs.Findings.{guest_in, start_of}
use Rattle.execution_moments.specs.Courses.{IsCourse}
use Rattle.execution_session.proofs.OpenedAs.{judged_course, judged_is}
use Rattle.execution_session.proofs.opening.follow.Goals as goal

pub returns-then-branch-clause-verdict : goal.returns-then-branch-clause-verdict
returns-then-branch-clause-verdict c =
    let g = guest_in (as_recorded c.args.file.now) in
    let order = c.args.checked.now.order.0.items in
    let begun = c.in_ok-execution.ensures in
    let opening = opening_at c.args.checked.now.opening.opening in
    let q = c.check_moments.new.execution.standing in
    let v = c.in_ok-verdict.verdict in
    let M : Memory → Type 0 = λ m. IsVerdict v m opening c.deref.result.now order c.in_ok-execution.execution.standing q in
    let S : Standing → Type 0 = λ p. IsVerdict v g.shared.memory opening c.deref.result.now order p q in
    let judged = rw c.deref.ensures.value at (subst S begun.standing (subst M begun.memory c.in_ok-verdict.ensures.verdict)) in
    λ w is. subst (λ (u : Verdict). IsVerdict u g.shared.memory opening c.args.checked.now.script.items order (start_of g) q) (judged_is v w is) judged

pub returns-then-branch-clause-course : goal.returns-then-branch-clause-course
returns-then-branch-clause-course c =
    let g = guest_in (as_recorded c.args.file.now) in
    let order = c.args.checked.now.order.0.items in
    let begun = c.in_ok-execution.ensures in
    let q = c.check_moments.new.execution.standing in
    let v = c.in_ok-verdict.verdict in
    let M : Memory → Type 0 = λ m. MatchOption c.in_ok-verdict.course (v ≢ Allowed) (λ k. (v ≡ Allowed) × IsCourse m c.in_ok-execution.execution.standing q order k) in
    let S : Standing → Type 0 = λ p. MatchOption c.in_ok-verdict.course (v ≢ Allowed) (λ k. (v ≡ Allowed) × IsCourse g.shared.memory p q order k) in
    judged_course g.shared.memory _ q order v c.in_ok-verdict.course (subst S begun.standing (subst M begun.memory c.in_ok-verdict.ensures.course))
