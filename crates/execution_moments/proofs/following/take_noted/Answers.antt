use Rattle.std.proofs.Common.{◌≡◌, ℕ, ◌∷◌, [], ◌++◌, Some, ap, arith, inl, inr, length, refl, sym, ◌∙◌}
use Rattle.execution_checker.proofs.Followed.{at_none}
use Rattle.execution_moments.specs.declared.course.HartMoment.{HartMoment}
use Rattle.execution_moments.proofs.Noting.{noted}
use Rattle.execution_moments.proofs.following.take_noted.Goals as goal

pub returns-in_ok-push-in-None-clause-moments : goal.returns-in_ok-push-in-None-clause-moments
returns-in_ok-push-in-None-clause-moments c = λ image p like leads was.
    let old = c.args.moments.now.items in
    let index : c.len-index.result ≡ length old = omega (arith, c.len-index.ensures, c.args.moments.now.ok.0) in
    let one : ℕ → HartMoment = λ n. record { number = c.args.step.hart; index = Some n; hart = c.in-Some.hart } in
    noted image p c.args.execution.now.standing c.take_step.new.self.standing c.args.step c.in-Some.hart old c.push.new.self.items leads
    (sym c.hart_of.ensures ∙ c.in-Some.is) (at_none c.in_ok-fault.field-0 _ _ c.in-None.is c.in_ok-fault.ensures.took image like)
    (inl (omega (arith, c.if-events-index.true, ap length c.events.ensures, c.len-index.ensures, c.args.moments.now.ok.0), c.in_ok-push-in-None.ensures.items ∙ ap (λ (n : ℕ). old ++ one n ∷ []) index)) was

pub returns-else-events-index-clause-moments : goal.returns-else-events-index-clause-moments
returns-else-events-index-clause-moments c = λ image p like leads was.
    let old = c.args.moments.now.items in
    noted image p c.args.execution.now.standing c.take_step.new.self.standing c.args.step c.in-Some.hart old old leads
    (sym c.hart_of.ensures ∙ c.in-Some.is) (at_none c.in_ok-fault.field-0 _ _ c.in-None.is c.in_ok-fault.ensures.took image like)
    (inr (omega (arith, c.if-events-index.false, ap length c.events.ensures, c.len-index.ensures, c.args.moments.now.ok.0), refl)) was
